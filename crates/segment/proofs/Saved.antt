-- The segment's measure, worked out with no division where the foot is clamped, is the clamped one. Assumes nothing.
use Rattle.std.specs.Prelude.{if◌then◌else◌}
use mathlib.Core.Path.{◌≡◌, refl, sym, ap, ◌∙◌}
use mathlib.Core.Logic.{◌⊎◌, inl, inr, ⊎_elim}
use mathlib.Core.Bool.{Bool, true, false}
use mathlib.Core.List.{List, [], ◌∷◌}
use Prim.Native.Nat.{ℕ, ◌*◌}
use native.Mathlib.Nat.{mul-pos, zero-lt-suc}
use lib.Dec.{T}
use lib.Ieee.{Float, nan, inf, fin, binary64, up, down, round, add, mul, lt, le, eq, is_nan, of_bits, fits}
use lib.Ieee.Fits.{down_pos, sub-fits}
use lib.Ieee.Scale.{finite}
use Rattle.floats.specs.Ops.{◌⊕◌, ◌⊖◌, ◌⊗◌, ◌⊘◌, ◌≺◌, ◌≼◌, +0, one}
use Rattle.floats.proofs.Order.{either, clash, lt_gap}
use Rattle.geo.specs.declared.types.Point.{Point}
use Rattle.geo.specs.declared.types.Point3D.{Point3D}
use Rattle.segment.specs.declared.segment.Segment.{Segment}
use Rattle.segment.specs.Segment.{Axis, plane, spatial, sum_from, sum_over, dot_on, degenerate, parameter_of, off_foot, from_foot, segment_on, segment_sq, space_sq}
use Rattle.segment.specs.Axes.{EachOn, plane_point, space_point, plane_measured, space_measured}
use Rattle.segment.specs.Saved.{from_end, besides, saved_on, is_inside, Laid}
use Rattle.segment.proofs.Zeros.{none, round_none, Twin, twin, twin_square}
use Rattle.segment.proofs.Division.{before-start, past_end, strictly_inside, foot_before, foot_past}

-- ---- the chord
zero_below : (+0 ≺ degenerate) ≡ true
unfolding lt of_bits
zero_below = refl

finite_number : (x : Float) → T (finite x) → is_nan x ≡ false
unfolding is_nan
finite_number nan f = absurd f
finite_number (inf s) f = absurd f
finite_number (fin s m e) f = refl

-- one that is not degenerate has a square above zero
square_above : (q : Float) → T (finite q) → (q ≺ degenerate) ≡ false → (+0 ≺ q) ≡ true
square_above q f h = ⊎_elim (λ t. t) (λ t. clash (sym h ∙ t)) (lt_gap +0 q degenerate (finite_number q f) zero_below)

-- its level is +0 where its square is finite, else a NaN
level_zero : (q : Float) → T (finite q) → (+0 ≺ q) ≡ true → +0 ⊗ q ≡ +0
unfolding mul of_bits
level_zero nan f h = absurd f
level_zero (inf s) f h = absurd f
level_zero (fin true n i) f h = clash (unfold lt in h)
level_zero (fin false n i) f h =
    ap (λ (k : ℕ). round binary64 false k (1 * down i)) (none 1 (n * up i)) ∙ round_none false (1 * down i) (mul-pos (zero-lt-suc 0) (down_pos i))

finite_or_nan : (q : Float) → T (finite q) ⊎ (+0 ⊗ q ≡ nan)
unfolding mul of_bits
finite_or_nan nan = inr refl
finite_or_nan (inf s) = inr refl
finite_or_nan (fin s n i) = inl tt

-- no test by a NaN holds
nan_below : (x : Float) → (nan ≺ x) ≡ false
unfolding lt
nan_below x = refl

not_at_most_nan : (x : Float) → (x ≼ nan) ≡ false
unfolding le lt eq
not_at_most_nan nan = refl
not_at_most_nan (inf s) = refl
not_at_most_nan (fin s m e) = refl

-- ---- a finite sum has finite terms
finite-left : (x y : Float) → T (finite (x ⊕ y)) → T (finite x)
unfolding add
finite-left nan y f = f
finite-left (inf s) nan f = f
finite-left (inf true) (inf true) f = f
finite-left (inf true) (inf false) f = f
finite-left (inf false) (inf true) f = f
finite-left (inf false) (inf false) f = f
finite-left (inf s) (fin t n i) f = f
finite-left (fin s m e) y f = tt

finite-right : (x y : Float) → T (finite (x ⊕ y)) → T (finite y)
unfolding add
finite-right nan y f = absurd f
finite-right (inf s) nan f = f
finite-right (inf true) (inf true) f = f
finite-right (inf true) (inf false) f = f
finite-right (inf false) (inf true) f = f
finite-right (inf false) (inf false) f = f
finite-right (inf s) (fin t n i) f = tt
finite-right (fin s m e) nan f = f
finite-right (fin s m e) (inf t) f = f
finite-right (fin s m e) (fin t n i) f = tt

-- and a finite square a finite side
finite_side : (x : Float) → T (finite (x ⊗ x)) → T (finite x)
unfolding mul
finite_side nan f = f
finite_side (inf true) f = f
finite_side (inf false) f = f
finite_side (fin s m e) f = tt

-- ---- sums over coordinates
abbrev squares : (Axis → Float) → Axis → Float
squares f c = f c ⊗ f c

sides_from : (cs : List Axis) (f : Axis → Float) (s : Float) → T (finite (sum_from s cs (squares f))) → T (finite s) × EachOn cs (λ c. T (finite (f c)))
sides_from [] f s h = (h, tt)
sides_from (c ∷ cs) f s h = let r = sides_from cs f (s ⊕ f c ⊗ f c) h in (finite-left s _ r.0, (finite_side (f c) (finite-right s _ r.0), r.1))

sides : (cs : List Axis) (f : Axis → Float) → T (finite (sum_over cs (squares f))) → EachOn cs (λ c. T (finite (f c)))
sides [] f h = tt
sides (c ∷ cs) f h = let r = sides_from cs f (f c ⊗ f c) h in (finite_side (f c) r.0, r.1)

-- squares do not see the sign of a zero
same_from : (cs : List Axis) (f g : Axis → Float) (s s' : Float) → s ≡ s' → EachOn cs (λ c. Twin (f c) (g c)) → sum_from s cs (squares f) ≡ sum_from s' cs (squares g)
same_from [] f g s s' e h = e
same_from (c ∷ cs) f g s s' e h =
    same_from cs f g (s ⊕ f c ⊗ f c) (s' ⊕ g c ⊗ g c) (ap (λ (z : Float). z ⊕ f c ⊗ f c) e ∙ ap (λ (z : Float). s' ⊕ z) (twin_square h.0)) h.1

pub squares_same : (cs : List Axis) (f g : Axis → Float) → EachOn cs (λ c. Twin (f c) (g c)) → sum_over cs (squares f) ≡ sum_over cs (squares g)
squares_same [] f g h = refl
squares_same (c ∷ cs) f g h = same_from cs f g (f c ⊗ f c) (g c ⊗ g c) (twin_square h.0) h.1

each_both : (P Q R : Axis → Type 0) (cs : List Axis) → ((c : Axis) → P c → Q c → R c) → EachOn cs P → EachOn cs Q → EachOn cs R
each_both P Q R [] k p q = tt
each_both P Q R (c ∷ cs) k p q = (k c p.0 q.0, each_both P Q R cs k p.1 q.1)

each-one : (R : Axis → Type 0) (cs : List Axis) → ((c : Axis) → R c) → EachOn cs R
each-one R [] k = tt
each-one R (c ∷ cs) k = (k c, each-one R cs k)

-- ---- one point, by any coordinates
module _ (cs : List Axis) (a b p : Point3D) (held : EachOn cs (λ c. T (fits binary64 (c a)))) where
  abbrev square : Float
  square = dot_on cs a b b

  abbrev along : Float
  along = dot_on cs a p b

  abbrev foot : Float → Float
  foot t = from_foot cs a b p t

  abbrev besides_it : Float → Float
  besides_it level = besides level along square foot (from_end cs a b p) (dot_on cs a p p)

  at_start : T (finite square) → Twin (parameter_of along square) +0 → dot_on cs a p p ≡ foot (parameter_of along square)
  at_start f h =
      let t = parameter_of along square in
      sym (squares_same cs (λ c. off_foot t (c a) (c b ⊖ c a) (c p)) (λ c. c p ⊖ c a)
      (each_both (λ c. T (fits binary64 (c a))) (λ c. T (finite (c b ⊖ c a))) (λ c. Twin (off_foot t (c a) (c b ⊖ c a) (c p)) (c p ⊖ c a)) cs
      (λ c u v. foot_before t (c a) (c b ⊖ c a) (c p) u v h) held (sides cs (λ c. c b ⊖ c a) f)))

  at_end : from_end cs a b p ≡ foot one
  at_end =
      sym (squares_same cs (λ c. off_foot one (c a) (c b ⊖ c a) (c p)) (λ c. c p ⊖ (c a ⊕ (c b ⊖ c a)))
      (each-one (λ c. Twin (off_foot one (c a) (c b ⊖ c a) (c p)) (c p ⊖ (c a ⊕ (c b ⊖ c a)))) cs (λ c. twin (foot_past (c a) (c b ⊖ c a) (c p) (sub-fits binary64 (c b) (c a))))))

  -- on a finite chord, with the foot before the start, inside, past the end, or nowhere
  finite-besides : T (finite square) → (+0 ≺ square) ≡ true → besides_it +0 ≡ foot (parameter_of along square)
  finite-besides f q =
      ⊎_elim
      (λ s. rw s (⊎_elim (λ e. rw e (ap foot (sym (strictly_inside along square s e)))) (λ e. rw e (at_end ∙ ap foot (sym (past_end along square f q s e)))) (either (along ≺ square))))
      (λ s. rw s (⊎_elim (λ e. rw e (at_start f (before-start along square f q e))) (λ e. rw e) (either (along ≼ +0)))) (either (+0 ≺ along))

  level-besides : (square ≺ degenerate) ≡ false → besides_it (+0 ⊗ square) ≡ foot (parameter_of along square)
  level-besides h =
      ⊎_elim (λ f. let q = square_above square f h in ap besides_it (level_zero square f q) ∙ finite-besides f q)
      (λ n. ap besides_it n ∙ rw (nan_below along, not_at_most_nan along)) (finite_or_nan square)

  saved_is_clamped : saved_on cs a b p ≡ segment_on cs a b p
  unfolding segment_on
  saved_is_clamped = ⊎_elim (λ h. rw h) (λ h. rw h (level-besides h)) (either (square ≺ degenerate))

-- ---- What is worked out of a segment that is laid is the measure, wherever the foot lies.
module _ {V : Type 0} {cs : List Axis} {make : (Axis → Float) → V} {a b : Point3D} {s : Segment V} (l : Laid cs make a b s) where
  pub start-is : s.start ≡ make (λ c. c a)
  start-is = ap (λ (s : Segment V). s.start) l.is

  pub chord-is : s.chord ≡ make (λ c. c b ⊖ c a)
  chord-is = ap (λ (s : Segment V). s.chord) l.is

  pub end-is : s.end ≡ make (λ c. c a ⊕ (c b ⊖ c a))
  end-is = ap (λ (s : Segment V). s.end) l.is

  square-is : s.square ≡ dot_on cs a b b
  square-is = ap (λ (s : Segment V). s.square) l.is

  level-is : s.level ≡ +0 ⊗ dot_on cs a b b
  level-is = ap (λ (s : Segment V). s.level) l.is

  module _ (p : Point3D) where
    clamped : (d : Float) → d ≡ saved_on cs a b p → d ≡ segment_on cs a b p
    clamped d e = e ∙ saved_is_clamped cs a b p l.held

    pub on-start : {d : Float} → (s.square ≺ degenerate) ≡ true → d ≡ dot_on cs a p p → d ≡ segment_on cs a b p
    on-start h e = clamped _ (e ∙ sym (rw (rw square-is at h)))

    module _ {along : Float} (n : (s.square ≺ degenerate) ≡ false) (g : along ≡ dot_on cs a p b) where
      pub inside : {d : Float} → (s.level ≺ along) ≡ true → (along ≺ s.square) ≡ true → d ≡ from_foot cs a b p (along ⊘ s.square) → d ≡ segment_on cs a b p
      inside h k e =
          clamped _ (e ∙ rw (g, square-is) (sym (rw (rw square-is at n, rw (level-is, g) at h, rw (square-is, g) at k))))

      pub past : {d : Float} → (s.level ≺ along) ≡ true → (along ≺ s.square) ≡ false → d ≡ from_end cs a b p → d ≡ segment_on cs a b p
      past h k e = clamped _ (e ∙ sym (rw (rw square-is at n, rw (level-is, g) at h, rw (square-is, g) at k)))

      pub before : {d : Float} → (s.level ≺ along) ≡ false → (along ≼ s.level) ≡ true → d ≡ dot_on cs a p p → d ≡ segment_on cs a b p
      before h k e = clamped _ (e ∙ sym (rw (rw square-is at n, rw (level-is, g) at h, rw (level-is, g) at k)))

      pub nowhere : {d : Float} → (s.level ≺ along) ≡ false → (along ≼ s.level) ≡ false → d ≡ from_foot cs a b p (parameter_of along s.square) → d ≡ segment_on cs a b p
      nowhere h k e =
          clamped _ (e ∙ rw (g, square-is) (sym (rw (rw square-is at n, rw (level-is, g) at h, rw (level-is, g) at k))))

-- The distance with no division where the foot is clamped is the definition's, whatever is lent: in the plane, and in space.
pub by_segment : (s : Segment Point) (p : Point3D) (d : Float) (a b : Point3D) → Laid plane plane_point a b s → d ≡ saved_on plane a b p → d ≡ segment_sq a b p
by_segment s p d a b l e = e ∙ saved_is_clamped plane a b p l.held ∙ sym (plane_measured a b p)

pub by_climb : (s : Segment Point3D) (p : Point3D) (d : Float) (a b : Point3D) → Laid spatial space_point a b s → d ≡ saved_on spatial a b p → d ≡ space_sq a b p
by_climb s p d a b l e = e ∙ saved_is_clamped spatial a b p l.held ∙ sym (space_measured a b p)

three_tests : (a b c : Bool) → (if a then false else if b then c else false) ≡ true → (a ≡ false) × (b ≡ true) × (c ≡ true)
three_tests true b c h = clash h
three_tests false true c h = (refl, refl, h)
three_tests false false c h = clash h

-- a foot that the code found inside
pub tests_of : (square level along : Float) → true ≡ is_inside square level along → ((square ≺ degenerate) ≡ false) × ((level ≺ along) ≡ true) × ((along ≺ square) ≡ true)
unfolding is_inside
tests_of square level along h = three_tests (square ≺ degenerate) (level ≺ along) (along ≺ square) (sym h)
