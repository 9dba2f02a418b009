-- Where three points share one height, their distance in x, y and z is, bit for bit, that in x and y; so thinning keeps the same of them. Assumes nothing.
use Rattle.std.specs.Prelude.{if◌then◌else◌}
use Prim.Native.Nat.{ℕ, zero, suc, ◌+◌, ◌-◌, ◌*◌, ◌/◌, ◌%◌, ◌^◌, ◌<◌, compare}
use mathlib.Core.Path.{◌≡◌, refl, sym, ap, ◌∙◌}
use mathlib.Core.Logic.{⊎_elim}
use mathlib.Core.Bool.{Bool, true, false}
use native.Mathlib.Omega.{arith}
use borrow.Author.Tests.{ltb-true, ne_eqb}
use lib.Dec.{T, ltb}
use lib.IntN.{ℤ}
use lib.Ieee.{Float, nan, inf, fin, binary64, low, emax, prec, up, down, unlike, size, nearest, odd, units, round, div, lt, eq, is_nan, fits, of_bits}
use lib.Ieee.Fits.{add-fits}
use lib.Ieee.Positive.{first_pos}
use lib.Ieee.Scale.{finite}
use Rattle.floats.specs.Ops.{◌⊕◌, ◌⊖◌, ◌⊗◌, ◌⊘◌, ◌≺◌, +0, one}
use Rattle.floats.specs.Float.{clamp_of}
use Rattle.floats.proofs.Order.{either, clash, lt_gap}
use Rattle.floats.proofs.Bounds.{Below, Within, sub_below, add_below, mul_below}
use Rattle.floats.proofs.Unsigned.{square-unsigned, sum_unsigned}
use Rattle.geo.specs.declared.types.Point3D.{Point3D}
use Rattle.geo.specs.Vector.{dot, length_sq, length_sq3}
use Rattle.segment.specs.Segment.{degenerate, parameter_of, off_foot, segment_on, segment_sq, space_sq}
use Rattle.segment.proofs.Zeros.{Twin, twin, twin_through, twin_add, twin_sub, twin_mul, twin_square, twin_plus}
use Rattle.simplify.specs.Thin.{thinned_points}
use Rattle.course.proofs.FiniteCenters.{Placed}
use Rattle.hill_laws.proofs.Level.{twin_div, twin_clamp, plus-square, equal_difference, twin_times}
use Rattle.hill_laws.proofs.Same.{thinned-points-same}

-- ---- the parameter is finite
pub below-finite : {k : ℕ} {x : Float} → Below k x → T (finite x)
below-finite {k} {x} h = go x h.within
  where
    go : (x : Float) → Within (2 ^ k) x → T (finite x)
    go nan w = w
    go (inf s) w = w
    go (fin s m e) w = tt

odd_number : (d : ℕ) (s : Bool) (q k l : ℕ) → is_nan (odd d s q k l) ≡ false
unfolding odd is_nan
odd_number d s zero k l = refl
odd_number d s (suc q) k l = refl

units_number : (s : Bool) (q k : ℕ) → is_nan (units binary64 s q k) ≡ false
unfolding units
units_number s q k = ⊎_elim (λ h. rw h (odd_number 54 s q k (low binary64))) (λ h. rw h (unfold is_nan in refl)) (either (ltb (q * 2 ^ k) (2 ^ (low binary64 + suc (emax binary64)))))

round_number : (s : Bool) (a b : ℕ) → is_nan (round binary64 s a b) ≡ false
unfolding round
round_number s a b =
    let n = a * 2 ^ low binary64 in
    let k = size (n / b) - prec binary64 in
    let u = b * 2 ^ k in
    units_number s (nearest (n / u) (compare (n % u * 2) u)) k

zero_below : (+0 ≺ degenerate) ≡ true
unfolding lt of_bits
zero_below = refl

finite_number : (x : Float) → T (finite x) → is_nan x ≡ false
unfolding is_nan
finite_number nan f = absurd f
finite_number (inf s) f = absurd f
finite_number (fin s m e) f = refl

square_above : (q : Float) → T (finite q) → (q ≺ degenerate) ≡ false → (+0 ≺ q) ≡ true
square_above q f h = ⊎_elim (λ t. t) (λ t. clash (sym h ∙ t)) (lt_gap +0 q degenerate (finite_number q f) zero_below)

not_zero : (t : Bool) (n : ℕ) (d : ℤ) → (+0 ≺ fin t n d) ≡ true → 0 < n
unfolding lt of_bits
not_zero true n d h = clash h
not_zero false n d h = let l = ltb-true (0 * 1 * down d) (n * up d * 1) h in first_pos n (up d) (first_pos (n * up d) 1 (omega arith))

quotient_number : (x q : Float) → T (finite x) → T (finite q) → (+0 ≺ q) ≡ true → is_nan (x ⊘ q) ≡ false
unfolding div
quotient_number nan q f g h = absurd f
quotient_number (inf s) q f g h = absurd f
quotient_number (fin s m e) nan f g h = absurd g
quotient_number (fin s m e) (inf t) f g h = absurd g
quotient_number (fin s m e) (fin t n d) f g h =
    let l = not_zero t n d h in rw (ne_eqb n 0 (λ z. omega (arith, z))) (round_number (unlike s t) (m * up e * down d) (n * up d * down e))

inside : (x : Float) → is_nan x ≡ false → (x ≺ +0) ≡ false → (one ≺ x) ≡ false → T (finite x)
unfolding is_nan lt of_bits
inside nan n h k = clash (sym n)
inside (inf true) n h k = clash (sym h)
inside (inf false) n h k = clash (sym k)
inside (fin s m e) n h k = tt

clamp_finite : (x : Float) → is_nan x ≡ false → T (finite (clamp_of x +0 one))
unfolding clamp_of
clamp_finite x n =
    ⊎_elim (λ h. rw h (unfold of_bits in tt))
    (λ h. rw h (⊎_elim (λ k. rw k (unfold of_bits in tt)) (λ k. rw k (inside x n h k)) (either (one ≺ x)))) (either (x ≺ +0))

parameter-finite : (d q : Float) → T (finite d) → T (finite q) → (q ≺ degenerate) ≡ false → T (finite (parameter_of d q))
unfolding parameter_of
parameter-finite d q f g h = clamp_finite (d ⊘ q) (quotient_number d q f g (square_above q g h))

-- ---- directions between near points
offset_below : {x y : Float} → Below 27 x → Below 27 y → Below 28 (x ⊖ y)
offset_below h k = sub_below {k = 27} (omega arith) h k

dot-finite : {x y x' y' : Float} → Below 28 x → Below 28 y → Below 28 x' → Below 28 y' → T (finite (dot x y x' y'))
dot-finite a b c d = below-finite (add_below {k = 56} (omega arith) (mul_below {j = 28} {k = 28} (omega arith) a c) (mul_below {j = 28} {k = 28} (omega arith) b d))

-- ---- squares of lengths: a third coordinate that is a zero changes no bit
length_twin : {x x' y y' : Float} → Twin x x' → Twin y y' → length_sq x y ≡ length_sq x' y'
length_twin {x} {x'} {y} {y'} h k = ap (λ (z : Float). z ⊕ y ⊗ y) (twin_square h) ∙ ap (λ (z : Float). x' ⊗ x' ⊕ z) (twin_square k)

length_flat : (x y : Float) {z : Float} → Twin z +0 → length_sq3 x y z ≡ length_sq x y
length_flat x y {z} h = plus-square (length_sq x y) (add-fits binary64 (x ⊗ x) (y ⊗ y)) (sum_unsigned (x ⊗ x) (y ⊗ y) (square-unsigned x) (square-unsigned y)) h

-- ---- offsets from the foot
foot_twin : {t t' : Float} (s dx p : Float) → Twin t t' → Twin (off_foot t s dx p) (off_foot t' s dx p)
unfolding off_foot
foot_twin s dx p h = twin_sub (twin {x = p} refl) (twin_add (twin {x = s} refl) (twin_mul h (twin {x = dx} refl)))

foot_at_start : (t s dx p : Float) → T (fits binary64 s) → Twin (t ⊗ dx) +0 → Twin (off_foot t s dx p) (p ⊖ s)
unfolding off_foot
foot_at_start t s dx p f h = twin_sub (twin {x = p} refl) (twin_plus f h)

-- ---- three points of one height
module _ (a b p : Point3D) (A : Placed 27 a) (B : Placed 27 b) (P : Placed 27 p) (held : T (fits binary64 a.z)) (eb : eq b.z a.z ≡ true) (ep : eq p.z a.z ≡ true) where
  -- the chord is level, and so is the point's offset from its start
  level_chord : Twin (b.z ⊖ a.z) +0
  level_chord = equal_difference b.z a.z (below-finite B.in_z) eb

  level-point : Twin (p.z ⊖ a.z) +0
  level-point = equal_difference p.z a.z (below-finite P.in_z) ep

  abbrev square : Float
  square = length_sq (b.x ⊖ a.x) (b.y ⊖ a.y)

  abbrev along : Float
  along = dot (p.x ⊖ a.x) (p.y ⊖ a.y) (b.x ⊖ a.x) (b.y ⊖ a.y)

  abbrev along3 : Float
  along3 = along ⊕ (p.z ⊖ a.z) ⊗ (b.z ⊖ a.z)

  -- the chord's square is the same, and the dot product but for the sign of a zero
  same-square : length_sq3 (b.x ⊖ a.x) (b.y ⊖ a.y) (b.z ⊖ a.z) ≡ square
  same-square = length_flat (b.x ⊖ a.x) (b.y ⊖ a.y) level_chord

  chord_x : Below 28 (b.x ⊖ a.x)
  chord_x = offset_below B.in_x A.in_x

  chord_y : Below 28 (b.y ⊖ a.y)
  chord_y = offset_below B.in_y A.in_y

  square-finite : T (finite square)
  square-finite = dot-finite chord_x chord_y chord_x chord_y

  along_finite : T (finite along)
  along_finite = dot-finite (offset_below P.in_x A.in_x) (offset_below P.in_y A.in_y) chord_x chord_y

  same_along : Twin along3 along
  same_along =
      twin_plus (add-fits binary64 ((p.x ⊖ a.x) ⊗ (b.x ⊖ a.x)) ((p.y ⊖ a.y) ⊗ (b.y ⊖ a.y)))
      (twin_times (p.z ⊖ a.z) (below-finite (offset_below P.in_z A.in_z)) level_chord)

  -- so is the parameter
  same-parameter : Twin (parameter_of along3 square) (parameter_of along square)
  unfolding parameter_of
  same-parameter = twin_clamp (twin_div square same_along)

  -- the foot lies at the one height
  level_foot : (square ≺ degenerate) ≡ false → Twin (off_foot (parameter_of along3 square) a.z (b.z ⊖ a.z) p.z) +0
  level_foot h =
      let t = parameter_of along square in
      twin_through (foot_twin a.z (b.z ⊖ a.z) p.z same-parameter)
      (twin_through (foot_at_start t a.z (b.z ⊖ a.z) p.z held (twin_times t (parameter-finite along square along_finite square-finite h) level_chord)) level-point)

  abbrev foot : Float → Float
  foot t = length_sq (off_foot t a.x (b.x ⊖ a.x) p.x) (off_foot t a.y (b.y ⊖ a.y) p.y)

  abbrev foot3 : Float → Float
  foot3 t = length_sq3 (off_foot t a.x (b.x ⊖ a.x) p.x) (off_foot t a.y (b.y ⊖ a.y) p.y) (off_foot t a.z (b.z ⊖ a.z) p.z)

  same_foot : (square ≺ degenerate) ≡ false → foot3 (parameter_of along3 square) ≡ foot (parameter_of along square)
  same_foot h =
      let t = parameter_of along3 square in
      length_flat (off_foot t a.x (b.x ⊖ a.x) p.x) (off_foot t a.y (b.y ⊖ a.y) p.y) (level_foot h)
      ∙ length_twin (foot_twin a.x (b.x ⊖ a.x) p.x same-parameter) (foot_twin a.y (b.y ⊖ a.y) p.y same-parameter)

  -- both measures, written out
  abbrev choose3 : Float → Float
  choose3 q = if q ≺ degenerate then length_sq3 (p.x ⊖ a.x) (p.y ⊖ a.y) (p.z ⊖ a.z) else foot3 (parameter_of along3 q)

  measure3 : space_sq a b p ≡ choose3 (length_sq3 (b.x ⊖ a.x) (b.y ⊖ a.y) (b.z ⊖ a.z))
  unfolding space_sq segment_on
  measure3 = refl

  measure2 : segment_sq a b p ≡ (if square ≺ degenerate then length_sq (p.x ⊖ a.x) (p.y ⊖ a.y) else foot (parameter_of along square))
  unfolding segment_sq segment_on
  measure2 = refl

  -- The squared distance in x, y and z is that in x and y, bit for bit.
  pub one_height_distance : space_sq a b p ≡ segment_sq a b p
  one_height_distance =
      measure3 ∙ ap choose3 same-square
      ∙ ⊎_elim (λ h. rw h (length_flat (p.x ⊖ a.x) (p.y ⊖ a.y) level-point)) (λ h. rw h (same_foot h)) (either (square ≺ degenerate))
      ∙ sym measure2

-- Of points that share one height thinning by the distance in space keeps what it keeps by that in the plane.
pub one_height_points : (limit : Float) → (limit ≺ +0) ≡ false → (at : ℕ → Point3D) (n : ℕ) → ((i : ℕ) → i < n → Placed 27 (at i) × T (fits binary64 (at i).z))
    → ((i j : ℕ) → i < n → j < n → eq (at i).z (at j).z ≡ true) → thinned_points space_sq limit at n ≡ thinned_points segment_sq limit at n
one_height_points limit pos at n h e =
    thinned-points-same space_sq segment_sq limit pos at n
    (λ i j k a b c. one_height_distance (at i) (at j) (at k) (h i a).0 (h j b).0 (h k c).0 (h i a).1 (e j i b a) (e k i c a))
