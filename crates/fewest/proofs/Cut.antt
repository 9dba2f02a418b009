-- The recursive line-only cut by the laws of the pieces: it is a way, and a range is one Line or both parts beside its cut. Assumes nothing.
use Prim.Native.Nat.{ℕ, ◌+◌, ◌≤◌, ◌<◌}
use mathlib.Core.Path.{◌≡◌, refl, sym, ap, ◌∙◌, subst}
use mathlib.Core.Bool.{Bool, true, false}
use mathlib.Core.List.{List, [], ◌∷◌, ◌++◌, map, map-append}
use native.Mathlib.Omega.{arith}
use lib.ListN.{length}
use lib.Ieee.{Float}
use Rattle.floats.specs.Ops.{◌≺◌, +0}
use Rattle.floats.proofs.Order.{clash}
use Rattle.geo.specs.declared.types.Command.{Command}
use Rattle.geo.specs.Lent.{point_at}
use Rattle.circle.specs.declared.circle.Deviation.{Deviation}
use Rattle.deviations.specs.Line.{line_deviation}
use Rattle.pieces.specs.Pieces.{Piece, pieces_in}
use Rattle.pieces.specs.Commands.{fit_in}
use Rattle.pieces.specs.Laws.{Covers, WrittenAs, as_line, as_first, as_second, AllWritten}
use Rattle.pieces.proofs.Laws.{pieces_cover, pieces-written, cut_where_all_fail, uncut_elsewhere}
use Rattle.pieces.proofs.Recursion.{farthest_inside}
use Rattle.farthest.specs.Measure.{line_sq}
use Rattle.ways.specs.Way.{Way, NeighboursPass}
use Rattle.ways.proofs.Steps.{split}
use Rattle.ways.proofs.Laws.{way-most}
use Rattle.fewest.specs.Straights.{passing, straight_rule, cut_ends}

-- k lies strictly between lo and hi, and so do the ends of both parts beside it
pub record PartedAt (s : List Float) (t : Float) (lo k hi : ℕ) : Type 0 where
  pub after : lo < k
  pub before : k < hi
  pub left : lo + length (cut_ends s t lo k) ≤ k
  pub right : k + length (cut_ends s t k hi) ≤ hi

module _ (s : List Float) (t : Float) where
  line_only : (lo hi : ℕ) (x : Command) → WrittenAs (straight_rule t) (point_at s) lo hi x → passing s t lo hi ≡ true
  unfolding passing
  line_only lo hi x (as_line p e) = p.deviation
  line_only lo hi x (as_first c d w h e a) = let z : ◌≡◌ {A = ℕ} 0 1 = cc in absurd (omega arith)
  line_only lo hi x (as_second c d w h e f a) = let z : ◌≡◌ {A = ℕ} 0 1 = cc in absurd (omega arith)

  -- pieces that follow one another, each a Line that passes, are a way
  as_way : (lo hi : ℕ) (ps : List Piece) (xs : List Command) → Covers lo ps hi → AllWritten (straight_rule t) (point_at s) ps xs → Way (passing s t) lo hi (map (λ (p : Piece). p.to) ps)
  as_way lo hi [] xs v w = v
  as_way lo hi (p ∷ ps) [] v w = absurd w
  as_way lo hi (p ∷ ps) (x ∷ xs) v w =
      (v.1, subst (λ (k : ℕ). passing s t k p.to ≡ true) v.0 (line_only p.from p.to x w.0), as_way p.to hi ps xs v.2 w.1)

  module _ (pos : (+0 ≺ t) ≡ true) where
    -- a range that does not pass is cut strictly inside, so neighbours pass
    pub passing-inside : (lo hi : ℕ) (w : Deviation) → w ≡ line_deviation line_sq (point_at s) lo hi → (w.dist ≺ t) ≡ false → (lo < w.index) × (w.index < hi)
    passing-inside lo hi w e h = farthest_inside (straight_rule t) pos (point_at s) lo hi w e h

    pub passing-neighbours : (last : ℕ) → NeighboursPass (passing s t) last
    unfolding passing
    passing-neighbours last i h =
        split (passing s t i (i + 1)) (λ e. e)
        (λ e. let r = passing-inside i (i + 1) (line_deviation line_sq (point_at s) i (i + 1)) refl e in absurd (omega (arith, r.0, r.1)))

    pub cut-way : (lo hi : ℕ) → lo < hi → Way (passing s t) lo hi (cut_ends s t lo hi)
    unfolding cut_ends
    cut-way lo hi h = as_way lo hi (pieces_in (straight_rule t) (point_at s) lo hi) (fit_in (straight_rule t) (point_at s) lo hi) (pieces_cover (straight_rule t) pos (point_at s) lo hi h) (pieces-written (straight_rule t) pos (point_at s) lo hi h)

    pub cut_most : (lo hi : ℕ) → lo < hi → lo + length (cut_ends s t lo hi) ≤ hi
    cut_most lo hi h = way-most (passing s t) lo hi (cut_ends s t lo hi) (cut-way lo hi h)

    -- a range that does not pass is cut strictly inside, and neither part has more ends than steps
    pub parted : (lo hi : ℕ) (w : Deviation) → w ≡ line_deviation line_sq (point_at s) lo hi → (w.dist ≺ t) ≡ false → PartedAt s t lo w.index hi
    parted lo hi w e h =
        let i = passing-inside lo hi w e h in
        record { after = i.0; before = i.1; left = cut_most lo w.index i.0; right = cut_most w.index hi i.1 }

    -- ---- w is the Line's deviation of the range
    module _ (lo hi : ℕ) (h : lo < hi) (w : Deviation) (e : w ≡ line_deviation line_sq (point_at s) lo hi) where
      measured : (b : Bool) → (w.dist ≺ t) ≡ b → ((line_deviation line_sq (point_at s) lo hi).dist ≺ t) ≡ b
      measured b q = ap (λ (d : Deviation). d.dist ≺ t) (sym e) ∙ q

      pub cut-none : (w.dist ≺ t) ≡ true → cut_ends s t lo hi ≡ hi ∷ []
      unfolding cut_ends
      cut-none q =
          let u = uncut_elsewhere (straight_rule t) (point_at s) lo hi h pos (λ f. clash (sym f.line_fails ∙ measured true q)) in
          ap (map (λ (p : Piece). p.to)) u.pieces ∙ ap (λ (k : ℕ). k ∷ []) u.to

      pub cut-two : (w.dist ≺ t) ≡ false → cut_ends s t lo hi ≡ cut_ends s t lo w.index ++ cut_ends s t w.index hi
      unfolding cut_ends
      cut-two q =
          let c = cut_where_all_fail (straight_rule t) (point_at s) lo hi h pos (record { line_fails = measured false q; three_fails = refl; least_fails = refl }) in
          let k = (line_deviation line_sq (point_at s) lo hi).index in
          rw e (ap (map (λ (p : Piece). p.to)) c.pieces ∙ map-append (λ (p : Piece). p.to) (pieces_in (straight_rule t) (point_at s) lo k) (pieces_in (straight_rule t) (point_at s) k hi))
