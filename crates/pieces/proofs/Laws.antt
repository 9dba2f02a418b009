-- The laws of the pieces of a fit, each stated alone, over any rule whose tolerance is above zero. Assumes nothing.
use Rattle.std.specs.Prelude.{Option, None, Some, if◌then◌else◌}
use Prim.Native.Nat.{ℕ, zero, suc, ◌+◌, ◌-◌, ◌*◌, ◌≤◌, ◌<◌}
use mathlib.Core.Path.{◌≡◌, refl, sym, ap, ◌∙◌, subst}
use mathlib.Core.Logic.{◌⊎◌, inl, inr, ⊎_elim}
use mathlib.Core.Bool.{Bool, true, false}
use mathlib.Core.List.{List, [], ◌∷◌, ◌++◌, map}
use native.Mathlib.Omega.{arith}
use borrow.Author.Tests.{lt-ltb, le-ltb, le-leb, lt-leb}
use lib.ListN.{length, length-append}
use lib.Ieee.{Float, neg}
use Rattle.floats.specs.Ops.{◌⊖◌, ◌≺◌, +0, one}
use Rattle.floats.proofs.Order.{either, lt_or_ge}
use Rattle.geo.specs.declared.types.Point.{Point}
use Rattle.geo.specs.declared.types.Point3D.{Point3D}
use Rattle.geo.specs.declared.types.Command as command
use Rattle.circle.specs.declared.circle.Deviation.{Deviation}
use Rattle.circle.specs.Three.{radius_from}
use Rattle.trial.specs.declared.trial.Trial.{Trial}
use Rattle.trial.specs.Trial.{Arc, three_tried, least_tried, try_arcs}
use Rattle.trial.specs.Laws.{ArcPasses}
use Rattle.trial.proofs.Tried.{three-passes, least-passes, first_tried, second_tried}
use Rattle.deviations.specs.Line.{line_deviation}
use Rattle.deviations.proofs.Own.{line-own, line-answered, arc-answered, direction-answered}
use Rattle.pieces.specs.declared.pieces.Rule.{Rule}
use Rattle.pieces.specs.Pieces.{distance, Shape, line, arc, Piece, Choice, whole, cut_at, counted, arc_or_cut, choose_by, choice, follow, pieces_by, pieces_in, ranges_of, ranges_by, ranges_in}
use Rattle.pieces.specs.Commands.{normal_of, shaped, piece_command, fit_in}
use Rattle.pieces.specs.Laws.{Covers, holding, LinePasses, LineFails, NewArc, WrittenAs, as_line, as_first, as_second, AllWritten, AllFail, CutThere, Uncut, RangeFitted}
use Rattle.pieces.proofs.Recursion.{Inside, inside, farthest_inside, pieces-follow}
use Rattle.farthest.specs.Measure.{Measure}

-- ---- lists of pieces, one behind the other
covers_append : (lo k hi : ℕ) (ps qs : List Piece) → Covers lo ps k → Covers k qs hi → Covers lo (ps ++ qs) hi
covers_append lo k hi [] qs p q = subst (λ (i : ℕ). Covers i qs hi) (sym p) q
covers_append lo k hi (x ∷ ps) qs p q = (p.0, p.1, covers_append x.to k hi ps qs p.2 q)

written_append : (r : Rule) (at : ℕ → Point3D) (f : Piece → command.Command) (ps qs : List Piece)
    → AllWritten r at ps (map f ps) → AllWritten r at qs (map f qs) → AllWritten r at (ps ++ qs) (map f (ps ++ qs))
written_append r at f [] qs p q = q
written_append r at f (x ∷ ps) qs p q = (p.0, written_append r at f ps qs p.1 q)

module _ (r : Rule) (pos : (+0 ≺ r.tolerance) ≡ true) (at : ℕ → Point3D) where
  covers-choice : (f : ℕ → ℕ → List Piece) (lo hi : ℕ) (c : Choice) → lo < hi → Inside r pos at lo hi c
      → ((a b : ℕ) → a < b → b - a < hi - lo → Covers a (f a b) b) → Covers lo (follow f lo hi c) hi
  unfolding follow
  covers-choice f lo hi (whole s) h v e = (refl, h, refl)
  covers-choice f lo hi (cut_at k) h v e = covers_append lo k hi (f lo k) (f k hi) (e lo k v.0 (omega (arith, v.1))) (e k hi v.1 (omega (arith, v.0)))

  covers_by : (n lo hi : ℕ) → lo < hi → hi - lo ≤ n → Covers lo (pieces_by r at n lo hi) hi
  unfolding pieces_by
  covers_by zero lo hi h p = absurd (omega arith)
  covers_by (suc n) lo hi h p =
      covers-choice (pieces_by r at n) lo hi (choice r at lo hi) h (inside r pos at lo hi) (λ a b g l. covers_by n a b g (omega arith))

  -- Each step of a range lies in exactly one of its pieces, and the pieces follow one another in order.
  pub pieces_cover : (lo hi : ℕ) → lo < hi → Covers lo (pieces_in r at lo hi) hi
  pieces_cover lo hi h = covers_by (hi - lo) lo hi h (omega arith)

-- ---- a step lies in exactly one of the pieces that follow one another
none_before : (i lo hi : ℕ) (ps : List Piece) → Covers lo ps hi → i < lo → holding i ps ≡ 0
unfolding holding
none_before i lo hi [] v h = refl
none_before i lo hi (p ∷ ps) v h =
    let a = v.0 in
    let b = v.1 in
    let r = none_before i p.to hi ps v.2 (omega arith) in rw (lt-leb p.from i (omega arith), r)

exactly_one : (i lo hi : ℕ) (ps : List Piece) → Covers lo ps hi → lo ≤ i → i < hi → holding i ps ≡ 1
unfolding holding
exactly_one i lo hi [] v h g = absurd (let e = v in omega arith)
exactly_one i lo hi (p ∷ ps) v h g =
    let a = v.0 in
    ⊎_elim
    (λ t. let r = none_before i p.to hi ps v.2 t in rw (le-leb p.from i (omega arith), lt-ltb i p.to t, r))
    (λ t. let r = exactly_one i p.to hi ps v.2 t g in rw (le-leb p.from i (omega arith), le-ltb i p.to t, r)) (lt_or_ge i p.to)

-- ---- the trials as a rule counts them
module _ (r : Rule) (at : ℕ → Point3D) (lo hi k : ℕ) where
  counted-some : (t : Option Trial) (c : Point) (d : Bool) (w : ℕ) → counted r t ≡ Arc c d w → (r.arcs ≡ true) × (t ≡ Arc c d w)
  counted-some t c d w e =
      ⊎_elim (λ h. (h, subst (λ (b : Bool). (if b then t else None) ≡ Arc c d w) h e))
      (λ h. let g : None ≡ Arc c d w = subst (λ (b : Bool). (if b then t else None) ≡ Arc c d w) h e in let z : ◌≡◌ {A = ℕ} 0 1 = cc in absurd (omega arith)) (either r.arcs)

  -- Where the first gives an Arc, that is the range's arc; where it fails, what the second gives.
  counted-first : (c : Point) (d : Bool) (w : ℕ) → counted r (three_tried at lo hi k r.tolerance) ≡ Arc c d w → counted r (try_arcs at lo hi k r.tolerance) ≡ Arc c d w
  counted-first c d w e = let f = counted-some (three_tried at lo hi k r.tolerance) c d w e in rw (f.0, first_tried at lo hi k r.tolerance c d w f.1)

  counted-second : counted r (three_tried at lo hi k r.tolerance) ≡ None → counted r (try_arcs at lo hi k r.tolerance) ≡ counted r (least_tried at lo hi k r.tolerance)
  counted-second e =
      ⊎_elim
      (λ h. let f = second_tried at lo hi k r.tolerance (subst (λ (b : Bool). (if b then three_tried at lo hi k r.tolerance else None) ≡ None) h e) in
      ap (counted r) f)
      (λ h. rw h) (either r.arcs)

-- ---- what a piece is written as
module _ (r : Rule) (at : ℕ → Point3D) (lo hi : ℕ) (some : lo < hi) where
  line-passes : ((line_deviation (distance r) at lo hi).dist ≺ r.tolerance) ≡ true → LinePasses r at lo hi
  line-passes h =
      record {
        deviation = h;
        own = rw (line-own at lo hi some (distance r)) at h;
        answered = λ e w g. subst (λ (v : Float). (v ≺ r.tolerance) ≡ true) (ap (λ (n : Measure Point3D). (line_deviation n at lo hi).dist) e ∙ line-answered at lo hi some w g) h;
      }

  -- the command of an arc that passes
  new_arc : (c : Point) (d : Bool) → ArcPasses r.tolerance at lo hi c d → NewArc r.tolerance at lo hi c d (shaped (at lo) (at hi) (arc c d))
  new_arc c d p =
      record {
        written = turned d;
        passes = p;
        answered = λ v e. subst (λ (x : Deviation). (x.dist ≺ r.tolerance) ≡ true) (arc-answered at lo hi some c (radius_from c (at lo)) v e) p.deviation;
        turning = λ b e. p.direction ∙ direction-answered at lo hi some c b e;
      }
    where
      turned : (b : Bool) → shaped (at lo) (at hi) (arc c b)
          ≡ command.TheVariants.Arc (at hi) (record { x = c.x ⊖ (at lo).x; y = c.y ⊖ (at lo).y; z = +0 }) (record { x = +0; y = +0; z = if b then neg one else one })
      turned true = unfold shaped normal_of in refl
      turned false = unfold shaped normal_of in refl

  -- ---- the choice by the tests
  chosen_line : ((line_deviation (distance r) at lo hi).dist ≺ r.tolerance) ≡ true → choice r at lo hi ≡ whole line
  unfolding choice choose_by
  chosen_line h = rw h

  chosen_arc : LineFails r at lo hi → (c : Point) (d : Bool) (w : ℕ) → counted r (try_arcs at lo hi (line_deviation (distance r) at lo hi).index r.tolerance) ≡ Arc c d w
      → choice r at lo hi ≡ whole (arc c d)
  unfolding choice choose_by arc_or_cut
  chosen_arc h c d w e = rw (h, e)

  chosen_cut : AllFail r at lo hi → choice r at lo hi ≡ cut_at (line_deviation (distance r) at lo hi).index
  unfolding choice choose_by arc_or_cut
  chosen_cut f =
      let k = (line_deviation (distance r) at lo hi).index in
      let e : counted r (try_arcs at lo hi k r.tolerance) ≡ None = counted-second r at lo hi k f.three_fails ∙ f.least_fails in rw (f.line_fails, e)

  -- a range is one piece, written as demand 3 says, or all fail
  record Whole : Type 0 where
    pub shape : Shape
    pub chosen : choice r at lo hi ≡ whole shape
    pub written : WrittenAs r at lo hi (shaped (at lo) (at hi) shape)

  by_trials : LineFails r at lo hi → (t u : Option Trial) → counted r (three_tried at lo hi (line_deviation (distance r) at lo hi).index r.tolerance) ≡ t
      → counted r (least_tried at lo hi (line_deviation (distance r) at lo hi).index r.tolerance) ≡ u → Whole ⊎ AllFail r at lo hi
  by_trials h (Some t) u e f =
      let k = (line_deviation (distance r) at lo hi).index in
      let c = t.center in
      let d = t.clockwise in
      let p = three-passes r.tolerance at lo hi k c d t.worst (counted-some r at lo hi k _ c d t.worst e).1 in
      inl (record { shape = arc c d; chosen = chosen_arc h c d t.worst (counted-first r at lo hi k c d t.worst e); written = as_first c d t.worst h e (new_arc c d p) })
  by_trials h None (Some t) e f =
      let k = (line_deviation (distance r) at lo hi).index in
      let c = t.center in
      let d = t.clockwise in
      let p = least-passes r.tolerance at lo hi k c d t.worst (counted-some r at lo hi k _ c d t.worst f).1 in
      inl (record { shape = arc c d; chosen = chosen_arc h c d t.worst (counted-second r at lo hi k e ∙ f); written = as_second c d t.worst h e f (new_arc c d p) })
  by_trials h None None e f = inr (record { line_fails = h; three_fails = e; least_fails = f })

  whole_or_cut : Whole ⊎ AllFail r at lo hi
  unfolding shaped
  whole_or_cut =
      ⊎_elim (λ h. inl (record { shape = line; chosen = chosen_line h; written = as_line (line-passes h) refl })) (λ h. by_trials h _ _ refl refl)
      (either ((line_deviation (distance r) at lo hi).dist ≺ r.tolerance))

  -- ---- the cut rule, for a tolerance above zero
  module _ (pos : (+0 ≺ r.tolerance) ≡ true) where
    -- A range whose Line and both arc trials fail is cut, at its Line's first farthest point.
    pub cut_where_all_fail : AllFail r at lo hi → CutThere r at lo (line_deviation (distance r) at lo hi).index hi
    unfolding follow
    cut_where_all_fail f =
        let i = farthest_inside r pos at lo hi (line_deviation (distance r) at lo hi) refl f.line_fails in
        record { behind = i.0; before = i.1; pieces = pieces-follow r pos at lo hi some ∙ rw (chosen_cut f) }

    -- It is cut only there: where one of them passes it is one piece.
    pub uncut_elsewhere : (AllFail r at lo hi → ⊥) → Uncut r at lo hi
    unfolding follow
    uncut_elsewhere n =
        ⊎_elim
        (λ w. record { piece = record { from = lo; to = hi; shape = w.shape }; from = refl; to = refl; pieces = pieces-follow r pos at lo hi some ∙ rw w.chosen })
        (λ f. absurd (n f)) whole_or_cut

-- ---- the commands of the pieces
module _ (r : Rule) (pos : (+0 ≺ r.tolerance) ≡ true) (at : ℕ → Point3D) where
  abbrev Written : List Piece → Type 0
  Written ps = AllWritten r at ps (map (piece_command at) ps)

  written-cut : (f : ℕ → ℕ → List Piece) (lo k hi : ℕ) → lo < k → k < hi → ((a b : ℕ) → a < b → b - a < hi - lo → Written (f a b)) → Written (f lo k ++ f k hi)
  written-cut f lo k hi g h e = written_append r at (piece_command at) (f lo k) (f k hi) (e lo k g (omega arith)) (e k hi h (omega arith))

  written-choice : (f : ℕ → ℕ → List Piece) (lo hi : ℕ) → lo < hi
      → ((a b : ℕ) → a < b → b - a < hi - lo → Written (f a b)) → Written (follow f lo hi (choice r at lo hi))
  unfolding follow piece_command
  written-choice f lo hi h e =
      ⊎_elim (λ w. rw w.chosen (w.written, tt))
      (λ g. let i = farthest_inside r pos at lo hi (line_deviation (distance r) at lo hi) refl g.line_fails in
      rw (chosen_cut r at lo hi h g) (written-cut f lo (line_deviation (distance r) at lo hi).index hi i.0 i.1 e))
      (whole_or_cut r at lo hi h)

  written_by : (n lo hi : ℕ) → lo < hi → hi - lo ≤ n → Written (pieces_by r at n lo hi)
  unfolding pieces_by
  written_by zero lo hi h p = absurd (omega arith)
  written_by (suc n) lo hi h p = written-choice (pieces_by r at n) lo hi h (λ a b g l. written_by n a b g (omega arith))

  -- Each piece of a range is written as demand 3 says: one command for each, in order.
  pub pieces-written : (lo hi : ℕ) → lo < hi → AllWritten r at (pieces_in r at lo hi) (fit_in r at lo hi)
  unfolding fit_in
  pieces-written lo hi h = written_by (hi - lo) lo hi h (omega arith)

  -- So each range, and what it gives, is as demand 3 says.
  pub range_fitted : (lo hi : ℕ) → lo < hi → RangeFitted r at lo hi (fit_in r at lo hi)
  range_fitted lo hi h =
      let v = pieces_cover r pos at lo hi h in
      record {
        commands = pieces-written lo hi h;
        steps = λ i a b. exactly_one i lo hi (pieces_in r at lo hi) v a b;
        order = v;
        cut = λ a b g f. cut_where_all_fail r at a b g pos f;
        uncut = λ a b g n. uncut_elsewhere r at a b g pos n;
      }

-- ---- the ranges examined
module _ (r : Rule) (pos : (+0 ≺ r.tolerance) ≡ true) (at : ℕ → Point3D) where
  ranges_choice : (f : ℕ → ℕ → List Piece) (g : ℕ → ℕ → ℕ) (lo hi : ℕ) (c : Choice) → Inside r pos at lo hi c
      → ((a b : ℕ) → a < b → b - a < hi - lo → g a b + 1 ≡ 2 * length (f a b)) → ranges_of g lo hi c + 1 ≡ 2 * length (follow f lo hi c)
  unfolding follow ranges_of
  ranges_choice f g lo hi (whole s) v e = refl
  ranges_choice f g lo hi (cut_at k) v e =
      let a = e lo k v.0 (omega (arith, v.1)) in
      let b = e k hi v.1 (omega (arith, v.0)) in
      let l = length-append (f lo k) (f k hi) in omega arith

  ranges_by_lem : (n lo hi : ℕ) → lo < hi → hi - lo ≤ n → ranges_by r at n lo hi + 1 ≡ 2 * length (pieces_by r at n lo hi)
  unfolding pieces_by ranges_by
  ranges_by_lem zero lo hi h p = absurd (omega arith)
  ranges_by_lem (suc n) lo hi h p =
      ranges_choice (pieces_by r at n) (ranges_by r at n) lo hi (choice r at lo hi) (inside r pos at lo hi) (λ a b g l. ranges_by_lem n a b g (omega arith))

  -- A fit examines twice as many ranges as it has pieces, less one.
  pub ranges_examined : (lo hi : ℕ) → lo < hi → ranges_in r at lo hi ≡ 2 * length (pieces_in r at lo hi) - 1
  ranges_examined lo hi h = let e = ranges_by_lem (hi - lo) lo hi h (omega arith) in omega arith
