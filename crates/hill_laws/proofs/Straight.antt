-- A fit without arcs of points that thinning keeps all is a Line for each of their steps; so is that of a thinned chain. Over any rule that tries no arcs. Assumes nothing.
use Prim.Native.Nat.{ℕ, zero, suc, ◌+◌, ◌-◌, ◌*◌, ◌/◌, ◌≤◌, ◌<◌}
use mathlib.Core.Path.{◌≡◌, refl, sym, ap, ◌∙◌, subst}
use mathlib.Core.Logic.{⊎_elim}
use mathlib.Core.Bool.{true, false}
use mathlib.Core.List.{List, [], ◌∷◌, ◌++◌, map}
use native.Mathlib.Omega.{arith}
use lib.Dec.{T}
use lib.ListN.{length, get_or, drop, length-append, length-map}
use lib.Ieee.{Float, binary64, fits, of_bits}
use Rattle.floats.specs.Ops.{◌⊗◌, ◌≺◌, +0}
use Rattle.floats.specs.Root.{root_of}
use Rattle.floats.proofs.Order.{either}
use Rattle.floats.proofs.Unsigned.{square_not_negative}
use Rattle.floats.proofs.root.Reaches.{root_reaches}
use Rattle.geo.specs.declared.types.Point3D.{Point3D}
use Rattle.geo.specs.declared.types.Command.{Command}
use Rattle.geo.specs.declared.types.Command.TheVariants.{Line}
use Rattle.geo.specs.Domain.{tolerance}
use Rattle.geo.specs.Lent.{point_at, triple, flat, origin}
use Rattle.geo.proofs.Tolerance.{tolerance-positive}
use Rattle.farthest.specs.Farthest.{farthest_in}
use Rattle.farthest.proofs.First.{found_in}
use Rattle.simplify.specs.Thin.{kept_in, thinned, thinned_points}
use Rattle.simplify.proofs.Kept.{cut-first, cut_inside, kept_yes, kept_no, kept-ascending}
use Rattle.simplify.proofs.Accepted.{ascending_length}
use Rattle.simplify.proofs.Again.{get_d_map, points-again}
use Rattle.simplify.proofs.Thinning.{ends-kept}
use Rattle.pieces.specs.declared.pieces.Rule.{Rule}
use Rattle.deviations.specs.Line.{rooted, line_deviation}
use Rattle.pieces.specs.Pieces.{distance, line, Piece, whole, cut_at, arc_or_cut, choose_by, choice, follow, pieces_by, pieces_in}
use Rattle.pieces.specs.Commands.{shaped, piece_command, fit_in, kept_of, chain_fit}

-- the n single steps from lo on, each a Line
unfoldable steps : ℕ → ℕ → List Piece
steps lo zero = []
steps lo (suc n) = record { from = lo; to = lo + 1; shape = line } ∷ steps (lo + 1) n

zero_root : root_of +0 ≡ +0
unfolding root_of of_bits
zero_root = refl

-- single steps to c and from c on are single steps
steps_append : (lo n k c : ℕ) → c ≡ lo + n → steps lo n ++ steps c k ≡ steps lo (n + k)
unfolding steps
steps_append lo zero k c e = let z : c ≡ lo = omega arith in let q : 0 + k ≡ k = omega arith in rw (z, q)
steps_append lo (suc n) k c e =
    let q : suc n + k ≡ suc (n + k) = omega arith in
    rw q (ap (λ (r : List Piece). record { from = lo; to = lo + 1; shape = line } ∷ r) (steps_append (lo + 1) n k c (omega arith)))

one_step : (lo hi : ℕ) → hi ≡ lo + 1 → ◌≡◌ {A = List Piece} (record { from = lo; to = hi; shape = line } ∷ []) (steps lo (hi - lo))
unfolding steps
one_step lo hi k = let z : lo + 1 - lo ≡ 1 = omega arith in rw k (rw z)

-- single steps are Lines to the points ps
lines_of_steps : (at : ℕ → Point3D) (ps : List Point3D) (lo : ℕ) → ((j : ℕ) → j < length ps → at (lo + 1 + j) ≡ get_or ps j origin)
    → map (piece_command at) (steps lo (length ps)) ≡ map Line ps
unfolding steps piece_command shaped
lines_of_steps at [] lo h = refl
lines_of_steps at (p ∷ ps) lo h =
    let z : lo + 1 + 0 ≡ lo + 1 = omega arith in
    let e : at (lo + 1) ≡ p = rw z at (h 0 (omega arith)) in
    rw e
    (ap (λ (r : List Command). Line p ∷ r)
    (lines_of_steps at ps (lo + 1) (λ j l. let q : lo + 1 + 1 + j ≡ lo + 1 + suc j = omega arith in rw q (h (suc j) (omega arith)))))

-- points laid out as triples
point-later : (p : Point3D) (ps : List Point3D) (j : ℕ) → point_at (flat triple (p ∷ ps)) (suc j) ≡ point_at (flat triple ps) j
unfolding point_at flat
point-later p ps j =
    let x : 3 * suc j ≡ suc (suc (suc (3 * j))) = omega arith in
    let y : 3 * suc j + 1 ≡ suc (suc (suc (3 * j + 1))) = omega arith in
    let z : 3 * suc j + 2 ≡ suc (suc (suc (3 * j + 2))) = omega arith in rw (y, z, x)

pub point-back : (ps : List Point3D) (j : ℕ) → j < length ps → point_at (flat triple ps) j ≡ get_or ps j origin
point-back [] j h = absurd (omega arith)
point-back (p ∷ ps) zero h = unfold point_at flat in refl
point-back (p ∷ ps) (suc j) h = point-later p ps j ∙ point-back ps j (omega arith)

-- ---- a rule that tries no arcs, a tolerance of the domain, and squared distances that the format holds
module _ (r : Rule) (straight : r.arcs ≡ false) (f : T (fits binary64 r.tolerance)) (dom : tolerance r.tolerance ≡ true)
    (fit : (a b p : Point3D) → T (fits binary64 (distance r a b p))) where
  abbrev limit : Float
  limit = r.tolerance ⊗ r.tolerance

  pos : (limit ≺ +0) ≡ false
  pos = square_not_negative r.tolerance

  module _ (at : ℕ → Point3D) where
    -- a range that thinning cuts is cut, at the same point
    cut_chosen : (lo hi : ℕ) → (limit ≺ (farthest_in (distance r) at lo hi).square) ≡ true → choice r at lo hi ≡ cut_at (farthest_in (distance r) at lo hi).index
    unfolding choice choose_by line_deviation rooted arc_or_cut
    cut_chosen lo hi h =
        let w = farthest_in (distance r) at lo hi in
        let g : T (fits binary64 w.square) =
        subst (λ (x : Float). T (fits binary64 x)) (sym (cut-first (distance r) limit pos at lo hi h).value) (fit (at lo) (at hi) (at w.index)) in
        rw (root_reaches r.tolerance w.square f (tolerance-positive r.tolerance dom) g h, straight)

    -- a single step is a Line
    step_chosen : (lo hi : ℕ) → hi ≡ lo + 1 → choice r at lo hi ≡ whole line
    unfolding choice choose_by line_deviation rooted
    step_chosen lo hi e =
        ⊎_elim (λ z. rw z.0 (rw (zero_root, tolerance-positive r.tolerance dom)))
        (λ q. absurd (omega (arith, q.from, q.to))) (found_in (distance r) at lo hi)

    -- where thinning keeps every point of a range, its pieces are its single steps; by at most n cuts
    straight_by : (n lo hi : ℕ) → lo < hi → hi - lo ≤ n → length (kept_in (distance r) limit at lo hi) ≡ hi - (lo + 1) → pieces_by r at n lo hi ≡ steps lo (hi - lo)
    unfolding pieces_by follow
    straight_by zero lo hi l b e = absurd (omega arith)
    straight_by (suc n) lo hi l b e =
        let w = farthest_in (distance r) at lo hi in
        ⊎_elim
        (λ h. let c = w.index in
        let i = cut_inside (distance r) limit pos at lo hi h in
        let L = kept_in (distance r) limit at lo c in
        let R = kept_in (distance r) limit at c hi in
        let x : length L + suc (length R) ≡ hi - (lo + 1) =
        sym (length-append L (c ∷ R)) ∙ sym (ap length (kept_yes (distance r) limit pos at lo hi w refl h)) ∙ e in
        let u = ascending_length (lo + 1) c L (kept-ascending (distance r) limit pos at (c - lo) lo c) (omega (arith, i.0)) in
        let v = ascending_length (c + 1) hi R (kept-ascending (distance r) limit pos at (hi - c) c hi) (omega (arith, i.1)) in
        let a = straight_by n lo c i.0 (omega (arith, i)) (omega (arith, i)) in
        let d = straight_by n c hi i.1 (omega (arith, i)) (omega (arith, i)) in
        let z : c - lo + (hi - c) ≡ hi - lo = omega (arith, i) in
        rw (cut_chosen lo hi h) (rw (a, d) (steps_append lo (c - lo) (hi - c) c (omega (arith, i)) ∙ ap (steps lo) z)))
        (λ h. let k : hi ≡ lo + 1 = omega (arith, ap length (kept_no (distance r) limit pos at lo hi w refl h)) in
        rw (step_chosen lo hi k) (one_step lo hi k))
        (either (limit ≺ w.square))

    -- of n points that thinning keeps all
    steps_of_kept : (n : ℕ) → 2 ≤ n → length (thinned (distance r) limit at n) ≡ n → pieces_in r at 0 (n - 1) ≡ steps 0 (n - 1)
    steps_of_kept n l a =
        let K = kept_in (distance r) limit at 0 (n - 1) in
        let b = ap length (ends-kept (distance r) limit pos at n l) in
        let c = length-append K ((n - 1) ∷ []) in
        let z : n - 1 - 0 ≡ n - 1 = omega arith in
        straight_by (n - 1 - 0) 0 (n - 1) (omega arith) (omega arith) (omega arith) ∙ ap (steps 0) z

    lines_of_kept : (ps : List Point3D) → ((j : ℕ) → j < length ps → at j ≡ get_or ps j origin) → length (thinned (distance r) limit at (length ps)) ≡ length ps
        → fit_in r at 0 (length ps - 1) ≡ map Line (drop 1 ps)
    unfolding fit_in pieces_by
    lines_of_kept [] e a = refl
    lines_of_kept (p ∷ []) e a = refl
    lines_of_kept (p ∷ q ∷ ps) e a =
        let z : length (p ∷ q ∷ ps) - 1 ≡ length (q ∷ ps) = omega arith in
        ap (map (piece_command at)) (steps_of_kept (length (p ∷ q ∷ ps)) (omega arith) a ∙ ap (steps 0) z)
        ∙ lines_of_steps at (q ∷ ps) 0 (λ j l. let y : 0 + 1 + j ≡ suc j = omega arith in rw y (e (suc j) (omega arith)))

  -- what thinning kept, thinned again, is all kept
  kept_again : (s : List Float) → length (thinned (distance r) limit (point_at (flat triple (kept_of r s))) (length (kept_of r s))) ≡ length (kept_of r s)
  unfolding thinned_points
  kept_again s =
      let at = point_at s in
      let ks = thinned (distance r) limit at (length s / 3) in
      let at' = point_at (flat triple (kept_of r s)) in
      let e : length (map at ks) ≡ length ks = length-map ks at in
      sym (length-map (thinned (distance r) limit at' (length (kept_of r s))) at')
      ∙ ap length (points-again (distance r) limit pos at at' (length s / 3) (λ j l. point-back (map at ks) j (omega (arith, e, l)) ∙ get_d_map at ks j 0 origin l))

  -- Each command of the fit of a chain is a Line to a thinned point, and each of these but the first has its Line.
  pub chain-lines : (s : List Float) → chain_fit r s ≡ map Line (drop 1 (kept_of r s))
  unfolding chain_fit
  chain-lines s = lines_of_kept (point_at (flat triple (kept_of r s))) (kept_of r s) (point-back (kept_of r s)) (kept_again s)
