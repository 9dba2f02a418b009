-- The points of a range, cut out as a list of their own, have the range's deviations and direction, an index being counted from the range's first point: both walks take the
-- same steps. Assumes nothing.
use Prim.Native.Nat.{ℕ, zero, suc, ◌+◌, ◌-◌, ◌*◌, ◌/◌, ◌≤◌, ◌<◌}
use mathlib.Core.Path.{◌≡◌, refl, sym, ap, ◌∙◌, subst}
use mathlib.Core.Logic.{◌⊎◌, inl, inr, ⊎_elim}
use mathlib.Core.Bool.{Bool, true}
use mathlib.Core.List.{List, ◌∷◌}
use native.Mathlib.Omega.{arith}
use lib.ListN.{length}
use lib.Ieee.{Float, lt, of_bits}
use Rattle.floats.specs.Ops.{◌⊕◌, ◌≺◌, +0}
use Rattle.floats.proofs.Order.{either, lt_trans}
use Rattle.geo.specs.declared.types.Point.{Point}
use Rattle.geo.specs.declared.types.Point3D.{Point3D}
use Rattle.geo.specs.Vector.{flatten}
use Rattle.geo.specs.Lent.{pair, triple, flat, pair_at, point_at}
use Rattle.geo.specs.Walk.{fold, list_from}
use Rattle.geo.specs.Outcome.{gives, refusal}
use Rattle.geo.proofs.Walk.{list_length}
use Rattle.geo.proofs.Flat.{flat_length}
use Rattle.geo.proofs.Rows.{unless-given}
use Rattle.arc.specs.Direction.{turn_at, cross_sum, clockwise, direction_rows, direction_call}
use Rattle.circle.specs.declared.circle.Deviation.{Deviation}
use Rattle.circle.specs.Worst.{worse, worst}
use Rattle.trial.specs.Deviation.{step_between, arc_deviation}
use Rattle.deviations.specs.Line.{rooted, line_deviation}
use Rattle.deviations.specs.Own.{own_points, own_pairs, shifted, shifted_worst}
use Rattle.deviations.specs.Calls.{line_rows, line_call, arc_rows, arc_call}
use Rattle.farthest.specs.declared.farthest.Farthest.{Farthest}
use Rattle.farthest.specs.Measure.{Measure, line_sq}
use Rattle.farthest.specs.Farthest.{farther, farthest_of, farthest_in}

-- ---- a list laid out has its points in their places
point-here : (p : Point3D) (ps : List Point3D) → point_at (flat triple (p ∷ ps)) 0 ≡ p
unfolding point_at flat
point-here p ps = refl

pair-here : (p : Point) (ps : List Point) → pair_at (flat pair (p ∷ ps)) 0 ≡ p
unfolding pair_at flat
pair-here p ps = refl

pub point-later : (p : Point3D) (ps : List Point3D) (j : ℕ) → point_at (flat triple (p ∷ ps)) (j + 1) ≡ point_at (flat triple ps) j
unfolding point_at flat
point-later p ps j =
    let x : 3 * (j + 1) ≡ suc (suc (suc (3 * j))) = omega arith in
    let y : 3 * (j + 1) + 1 ≡ suc (suc (suc (3 * j + 1))) = omega arith in
    let z : 3 * (j + 1) + 2 ≡ suc (suc (suc (3 * j + 2))) = omega arith in rw (y, z, x)

pair-later : (p : Point) (ps : List Point) (j : ℕ) → pair_at (flat pair (p ∷ ps)) (j + 1) ≡ pair_at (flat pair ps) j
unfolding pair_at flat
pair-later p ps j =
    let x : 2 * (j + 1) ≡ suc (suc (2 * j)) = omega arith in
    let y : 2 * (j + 1) + 1 ≡ suc (suc (2 * j + 1)) = omega arith in rw (y, x)

listed-point : (at : ℕ → Point3D) (n lo i : ℕ) → i < n → point_at (flat triple (list_from at n lo)) i ≡ at (lo + i)
unfolding list_from
listed-point at zero lo i h = absurd (omega arith)
listed-point at (suc n) lo zero h = let e : lo + 0 ≡ lo = omega arith in point-here (at lo) (list_from at n (lo + 1)) ∙ ap at (sym e)
listed-point at (suc n) lo (suc i) h =
    let a : suc i ≡ i + 1 = omega arith in
    let e : lo + suc i ≡ lo + 1 + i = omega arith in
    ap (point_at (flat triple (at lo ∷ list_from at n (lo + 1)))) a ∙ point-later (at lo) (list_from at n (lo + 1)) i ∙ listed-point at n (lo + 1) i (omega arith) ∙ ap at (sym e)

listed-pair : (at : ℕ → Point) (n lo i : ℕ) → i < n → pair_at (flat pair (list_from at n lo)) i ≡ at (lo + i)
unfolding list_from
listed-pair at zero lo i h = absurd (omega arith)
listed-pair at (suc n) lo zero h = let e : lo + 0 ≡ lo = omega arith in pair-here (at lo) (list_from at n (lo + 1)) ∙ ap at (sym e)
listed-pair at (suc n) lo (suc i) h =
    let a : suc i ≡ i + 1 = omega arith in
    let e : lo + suc i ≡ lo + 1 + i = omega arith in
    ap (pair_at (flat pair (at lo ∷ list_from at n (lo + 1)))) a ∙ pair-later (at lo) (list_from at n (lo + 1)) i ∙ listed-pair at n (lo + 1) i (omega arith) ∙ ap at (sym e)

-- ---- two walks whose steps keep a relation
fold_alike : {A B : Type 0} (R : A → B → Type 0) (f : ℕ → A → A) (g : ℕ → B → B) (n i j : ℕ) (a : A) (b : B)
    → ((k : ℕ) → k < n → (x : A) (y : B) → R x y → R (f (i + k) x) (g (j + k) y)) → R a b → R (fold f n i a) (fold g n j b)
unfolding fold
fold_alike R f g zero i j a b s r = r
fold_alike {A} {B} R f g (suc n) i j a b s r =
    let x : i + 0 ≡ i = omega arith in
    let y : j + 0 ≡ j = omega arith in
    fold_alike R f g n (i + 1) (j + 1) (f i a) (g j b)
    (λ k h u v t. let p : i + suc k ≡ i + 1 + k = omega arith in let q : j + suc k ≡ j + 1 + k = omega arith in
    subst (λ (l : ℕ). R (f l u) (g (j + 1 + k) v)) p (subst (λ (l : ℕ). R (f (i + suc k) u) (g l v)) q (s (suc k) (omega arith) u v t)))
    (subst (λ (l : ℕ). R (f l a) (g j b)) x (subst (λ (l : ℕ). R (f (i + 0) a) (g l b)) y (s 0 (omega arith) a b r)))

-- ---- the Line's deviation
abbrev shifted_far : ℕ → Farthest → Farthest
shifted_far lo w = record { square = w.square; index = lo + w.index }

farther-shifted : (lo i : ℕ) (d : Float) (w : Farthest) → farther d (lo + i) (shifted_far lo w) ≡ shifted_far lo (farther d i w)
unfolding farther
farther-shifted lo i d w = ⊎_elim (λ e. rw e refl) (λ e. rw e refl) (either (w.square ≺ d))

farthest_shifted : (f g : ℕ → Float) (lo n i : ℕ) (w : Farthest) → ((k : ℕ) → i ≤ k → k < i + n → f (lo + k) ≡ g k)
    → farthest_of f n (lo + i) (shifted_far lo w) ≡ shifted_far lo (farthest_of g n i w)
unfolding farthest_of
farthest_shifted f g lo zero i w s = refl
farthest_shifted f g lo (suc n) i w s =
    let e : lo + i + 1 ≡ lo + (i + 1) = omega arith in
    let v : farther (f (lo + i)) (lo + i) (shifted_far lo w) ≡ shifted_far lo (farther (g i) i w) =
    ap (λ (x : Float). farther x (lo + i) (shifted_far lo w)) (s i (omega arith) (omega arith)) ∙ farther-shifted lo i (g i) w in
    ap (λ (j : ℕ). farthest_of f n j (farther (f (lo + i)) (lo + i) (shifted_far lo w))) e ∙ ap (farthest_of f n (lo + (i + 1))) v
    ∙ farthest_shifted f g lo n (i + 1) (farther (g i) i w) (λ k a b. s k (omega arith) (omega arith))

module _ (at : ℕ → Point3D) (lo hi : ℕ) (some : lo < hi) where
  abbrev own : ℕ → Point3D
  own = point_at (own_points at lo hi)

  own-point : (i : ℕ) → i ≤ hi - lo → own i ≡ at (lo + i)
  own-point i h = listed-point at (hi - lo + 1) lo i (omega arith)

  own_first : own 0 ≡ at lo
  own_first = let e : lo + 0 ≡ lo = omega arith in own-point 0 (omega arith) ∙ ap at e

  own-last : own (hi - lo) ≡ at hi
  own-last = let e : lo + (hi - lo) ≡ hi = omega arith in own-point (hi - lo) (omega arith) ∙ ap at e

  own-count : length (own_points at lo hi) / 3 - 1 ≡ hi - lo
  own-count = let a = flat_length triple 3 (λ p. refl) (list_from at (hi - lo + 1) lo) in let b = list_length at (hi - lo + 1) lo in omega arith

  -- The Line's deviation of a range is that of its own points, the index shifted.
  farthest_own : (m : Measure Point3D) → farthest_in m at lo hi ≡ shifted_far lo (farthest_in m own 0 (hi - lo))
  unfolding farthest_in
  farthest_own m =
      let n : hi - (lo + 1) ≡ hi - lo - (0 + 1) = omega arith in
      let z : lo + 0 ≡ lo = omega arith in
      let f : ℕ → Float = λ i. m (at lo) (at hi) (at i) in
      let g : ℕ → Float = λ i. m (own 0) (own (hi - lo)) (own i) in
      ap (λ (j : ℕ). farthest_of f (hi - (lo + 1)) (lo + 1) (record { square = +0; index = j })) (sym z)
      ∙ ap (λ (j : ℕ). farthest_of f j (lo + 1) (record { square = +0; index = lo + 0 })) n
      ∙ farthest_shifted f g lo (hi - lo - (0 + 1)) 1 (record { square = +0; index = 0 })
      (λ k a b. sym (ap (λ (p : Point3D). m p (own (hi - lo)) (own k)) own_first ∙ ap (λ (p : Point3D). m (at lo) p (own k)) own-last
      ∙ ap (m (at lo) (at hi)) (own-point k (omega arith))))

  pub line-own : (m : Measure Point3D) → line_deviation m at lo hi ≡ shifted lo (line_deviation m (point_at (own_points at lo hi)) 0 (hi - lo))
  unfolding line_deviation rooted
  line-own m = ap rooted (farthest_own m)

  -- ---- the Arc's
  abbrev none : Deviation
  none = record { dist = +0; index = 0 }

  worse-shifted : (i : ℕ) (d : Float) (w : Deviation) → worse d (lo + i) (shifted lo w) ≡ shifted lo (worse d i w)
  unfolding worse
  worse-shifted i d w = ⊎_elim (λ e. rw e refl) (λ e. rw e refl) (either (w.dist ≺ d))

  -- both walks found nothing above 0 so far, or the same step
  abbrev Alike : Deviation → Deviation → Type 0
  Alike x y = ((x ≡ none) × (y ≡ none)) ⊎ ((x ≡ shifted lo y) × ((+0 ≺ y.dist) ≡ true))

  alike_step : (i : ℕ) (d : Float) (x y : Deviation) → Alike x y → Alike (worse d (lo + i) x) (worse d i y)
  unfolding worse
  alike_step i d x y h =
      ⊎_elim (λ z. rw (z.0, z.1) (⊎_elim (λ e. inr (rw e refl, rw e e)) (λ e. inl (rw e refl, rw e refl)) (either (+0 ≺ d))))
      (λ s. inr (ap (worse d (lo + i)) s.0 ∙ worse-shifted i d y, ⊎_elim (λ e. rw e (lt_trans +0 y.dist d s.1 e)) (λ e. rw e s.1) (either (y.dist ≺ d)))) h

  alike_same : (x y : Deviation) → Alike x y → x ≡ shifted_worst lo y
  unfolding lt of_bits
  alike_same x y h = ⊎_elim (λ z. z.0 ∙ rw z.1 refl) (λ s. s.0 ∙ rw s.1) h

  -- The Arc's deviation of a range is that of its own points, the index of a step above 0 shifted.
  pub arc-own : (c : Point) (r : Float) → arc_deviation c r at lo hi ≡ shifted_worst lo (arc_deviation c r (point_at (own_points at lo hi)) 0 (hi - lo))
  unfolding arc_deviation worst
  arc-own c r =
      let n : hi - lo - 0 ≡ hi - lo = omega arith in
      let f : ℕ → Float = λ i. step_between c r (at i) (at (i + 1)) in
      let g : ℕ → Float = λ i. step_between c r (own i) (own (i + 1)) in
      let same : (k : ℕ) → k < hi - lo → f (lo + k) ≡ g k =
      λ k h. let e : lo + (k + 1) ≡ lo + k + 1 = omega arith in
      sym (ap (λ (p : Point3D). step_between c r p (own (k + 1))) (own-point k (omega arith))
      ∙ ap (step_between c r (at (lo + k))) (own-point (k + 1) (omega arith) ∙ ap at e)) in
      alike_same (worst f (hi - lo) lo none) (worst g (hi - lo) 0 none)
      (fold_alike Alike (λ j. worse (f j) j) (λ j. worse (g j) j) (hi - lo) lo 0 none none
      (λ k h x y e. let o : 0 + k ≡ k = omega arith in
      subst (λ (d : Float). Alike (worse d (lo + k) x) (worse (g (0 + k)) (0 + k) y)) (sym (same k h))
      (subst (λ (j : ℕ). Alike (worse (g k) (lo + k) x) (worse (g j) j y)) (sym o) (alike_step k (g k) x y e))) (inl (refl, refl)))
      ∙ ap (λ (j : ℕ). shifted_worst lo (worst g j 0 none)) (sym n)

  -- ---- and the direction
  abbrev own_flat : ℕ → Point
  own_flat = pair_at (own_pairs at lo hi)

  own_pair : (i : ℕ) → i ≤ hi - lo → own_flat i ≡ flatten (at (lo + i))
  own_pair i h = listed-pair (λ j. flatten (at j)) (hi - lo + 1) lo i (omega arith)

  pairs-count : length (own_pairs at lo hi) / 2 - 1 ≡ hi - lo
  pairs-count = let a = flat_length pair 2 (λ p. refl) (list_from (λ j. flatten (at j)) (hi - lo + 1) lo) in let b = list_length (λ j. flatten (at j)) (hi - lo + 1) lo in omega arith

  pub direction-own : (c : Point) → clockwise (λ i. flatten (at i)) lo hi c ≡ clockwise (pair_at (own_pairs at lo hi)) 0 (hi - lo) c
  unfolding clockwise cross_sum
  direction-own c =
      let n : hi - lo - 0 ≡ hi - lo = omega arith in
      let f : ℕ → Float = λ i. turn_at c (flatten (at i)) (flatten (at (i + 1))) in
      let g : ℕ → Float = λ i. turn_at c (own_flat i) (own_flat (i + 1)) in
      let same : (k : ℕ) → k < hi - lo → f (lo + k) ≡ g k =
      λ k h. let e : lo + (k + 1) ≡ lo + k + 1 = omega arith in
      sym (ap (λ (p : Point). turn_at c p (own_flat (k + 1))) (own_pair k (omega arith))
      ∙ ap (turn_at c (flatten (at (lo + k)))) (own_pair (k + 1) (omega arith) ∙ ap (λ (j : ℕ). flatten (at j)) e)) in
      ap (λ (x : Float). x ≺ +0)
      (fold_alike (λ (x y : Float). x ≡ y) (λ i sum. sum ⊕ f i) (λ i sum. sum ⊕ g i) (hi - lo) lo 0 +0 +0
      (λ k h x y e. let o : 0 + k ≡ k = omega arith in
      ap (λ (v : Float). v ⊕ f (lo + k)) e ∙ ap (λ (v : Float). y ⊕ v) (same k h) ∙ ap (λ (j : ℕ). y ⊕ g j) (sym o)) refl
      ∙ ap (λ (j : ℕ). fold (λ i sum. sum ⊕ g i) j 0 +0) (sym n))

  -- ---- so the public functions answer the same of a range's own points
  pub line-answered : (w : Deviation) → line_call (own_points at lo hi) 0 (hi - lo) ≡ gives w → (line_deviation line_sq at lo hi).dist ≡ w.dist
  unfolding line_call
  line-answered w e =
      ap (λ (v : Deviation). v.dist) (line-own line_sq) ∙ ap (λ (v : Deviation). v.dist) (unless-given (refusal (line_rows (own_points at lo hi) 0 (hi - lo))) _ w e).1

  pub arc-answered : (c : Point) (r : Float) (v : Deviation) → arc_call (own_points at lo hi) c r ≡ gives v → arc_deviation c r at lo hi ≡ shifted_worst lo v
  unfolding arc_call
  arc-answered c r v e =
      arc-own c r ∙ ap (λ (j : ℕ). shifted_worst lo (arc_deviation c r own 0 j)) (sym own-count)
      ∙ ap (shifted_worst lo) (unless-given (refusal (arc_rows (own_points at lo hi) c r)) _ v e).1

  pub direction-answered : (c : Point) (b : Bool) → direction_call (own_pairs at lo hi) c ≡ gives b → clockwise (λ i. flatten (at i)) lo hi c ≡ b
  unfolding direction_call
  direction-answered c b e =
      direction-own c ∙ ap (λ (j : ℕ). clockwise own_flat 0 j c) (sym pairs-count) ∙ (unless-given (refusal (direction_rows (own_pairs at lo hi) c)) _ b e).1
