-- Bounds of the points that a course fits: an end in the domain is at most 2 ^ 20 from zero, and a point of a linearised Bezier at most 2 ^ 27. Assumes nothing.
use Prim.Native.Nat.{ℕ, zero, suc, ◌+◌, ◌*◌, ◌^◌, ◌≤◌, ◌<◌}
use mathlib.Core.Path.{◌≡◌, sym, ap, ◌∙◌, subst}
use mathlib.Core.Bool.{Bool, true, false, ◌&&◌, cond}
use native.Mathlib.Omega.{arith}
use native.Mathlib.Nat.{lt_of_le_of_lt, lt_irrefl, mul-one, zero-mul, mul-pos, mul_comm, mul_assoc, mul-le-mul_right}
use lib.Dec.{T, eqb, eqb→eq, lit<}
use lib.Ieee.{Float, nan, inf, fin, binary64, up, down, unlike, round, div, of_bits, of_int}
use lib.Ieee.Fits.{down_pos}
use lib.Ieee.Exact.{HasValue}
use lib.Ieee.Back.{round_whole}
use Rattle.floats.specs.Ops.{◌⊕◌, ◌⊖◌, ◌⊗◌, ◌⊘◌, one, two, three}
use Rattle.floats.proofs.Order.{and_left, and_right}
use Rattle.floats.proofs.Bounds.{Within, Below, AtLeast, round_within, add_within, within_more, add_below, sub_below, mul_below, div_below, below_more}
use Rattle.geo.specs.declared.types.Point3D.{Point3D}
use Rattle.geo.specs.Domain.{coordinate, point3_in}
use Rattle.geo.specs.Lent.{triple, flat}
use Rattle.geo.specs.Walk.{list_from}
use Rattle.geo.proofs.Coordinates.{coordinate-below}
use Rattle.bezier.specs.declared.evaluation.Weights.{Weights}
use Rattle.bezier.specs.Curve.{weights_at, mixed, point_on3}
use Rattle.bezier.specs.Linearize.{share, step_end, step_at, steps, first_third, last_third}
use Rattle.course.proofs.FiniteCenters.{Placed, one_below, two-below}
use Rattle.course.proofs.FiniteFit.{EachBelow, each_append}

-- ---- ends and controls in the domain
pub and3 : (a b c : Bool) → (a && b && c) ≡ true → (a ≡ true) × (b ≡ true) × (c ≡ true)
and3 a b c h = let ab = and_left (a && b) c h in (and_left a b ab, and_right a b ab, and_right (a && b) c h)

pub point_in : (p : Point3D) → point3_in p ≡ true → Placed 20 p
unfolding point3_in
point_in p h =
    let a = and3 (coordinate p.x) (coordinate p.y) (coordinate p.z) h in
    record { in_x = coordinate-below a.0; in_y = coordinate-below a.1; in_z = coordinate-below a.2 }

pub placed-more : {j : ℕ} {p : Point3D} (k : ℕ) → j ≤ k → Placed j p → Placed k p
placed-more k l h = record { in_x = below_more k l h.in_x; in_y = below_more k l h.in_y; in_z = below_more k l h.in_z }

pub triple-each : {k : ℕ} {p : Point3D} → Placed k p → EachBelow k (triple p)
triple-each h = (h.in_x, (h.in_y, (h.in_z, tt)))

-- ---- a share i of n is at most 1
-- X is i, and Y is n, over their own denominators
ratio : (X Y de dd i n : ℕ) → X ≡ i * de → Y ≡ n * dd → i ≤ n → X * dd ≤ 1 * 2 ^ 0 * (Y * de)
ratio X Y de dd i n p q h =
    let a : X * dd ≡ i * (de * dd) = ap (λ (z : ℕ). z * dd) p ∙ mul_assoc i de dd in
    let b : Y * de ≡ n * (de * dd) = ap (λ (z : ℕ). z * de) q ∙ mul_assoc n dd de ∙ ap (λ (z : ℕ). n * z) (mul_comm dd de) in
    let c : i * (de * dd) ≤ n * (de * dd) = mul-le-mul_right (de * dd) h in
    omega arith

quotient_within : (x y : Float) (i n : ℕ) → HasValue x false i 1 → HasValue y false n 1 → 0 < n → i ≤ n → Within (1 * 2 ^ 0) (div binary64 x y)
unfolding div
quotient_within nan y i n h g z l = absurd h
quotient_within (inf s) y i n h g z l = absurd h
quotient_within (fin s m e) nan i n h g z l = absurd g
quotient_within (fin s m e) (inf t) i n h g z l = absurd g
quotient_within (fin s m e) (fin t k d) i n h g z l = go (eqb k 0) (eqb→eq k 0)
  where
    X : m * up e ≡ i * down e
    X = sym (mul-one (m * up e)) ∙ h.1

    Y : k * up d ≡ n * down d
    Y = sym (mul-one (k * up d)) ∙ g.1

    some : 0 < k * up d
    some = subst (λ (w : ℕ). 0 < w) (sym Y) (mul-pos z (down_pos d))

    go : (b : Bool) → (T b → k ≡ 0) → Within (1 * 2 ^ 0) (cond b (cond (eqb m 0) nan (inf (unlike s t))) (round binary64 (unlike s t) (m * up e * down d) (k * up d * down e)))
    go true q = absurd (lt_irrefl 0 (subst (λ (w : ℕ). 0 < w) (ap (λ (w : ℕ). w * up d) (q tt) ∙ zero-mul (up d)) some))
    go false q =
        round_within (unlike s t) (m * up e * down d) (k * up d * down e) 1 0 (mul-pos some (down_pos e)) (lit< tt) (lit< tt)
        (ratio (m * up e) (k * up d) (down e) (down d) i n X Y l)

pub share-below : (n i : ℕ) → 0 < n → n ≤ 2048 → i ≤ n → Below 0 (share n i)
unfolding share of_int
share-below n i z l h =
    record { within = quotient_within (round binary64 false i 1) (round binary64 false n 1) i n (round_whole binary64 false i (omega arith)) (round_whole binary64 false n (omega arith)) z h }

-- ---- a point of the curve, whose ends are at most 2 ^ 20 from zero and its controls 2 ^ 22
three-below : Below 2 three
unfolding of_bits
three-below = record { within = omega arith }

three-least : AtLeast 0 three
unfolding of_bits
three-least = omega arith

record Weighed (w : Weights) : Type 0 where
  in_0 : Below 3 w.w0
  in_1 : Below 4 w.w1
  in_2 : Below 3 w.w2
  in_3 : Below 0 w.w3

weights_below : (t : Float) → Below 0 t → Weighed (weights_at t)
unfolding weights_at
weights_below t h =
    let u : Below 1 (one ⊖ t) = sub_below (omega arith) one_below h in
    record {
      in_0 = mul_below (omega arith) u (mul_below (omega arith) u u);
      in_1 = mul_below (omega arith) (mul_below (omega arith) three-below (mul_below (omega arith) u u)) h;
      in_2 = mul_below (omega arith) (mul_below (omega arith) three-below u) (mul_below (omega arith) h h);
      in_3 = mul_below (omega arith) h (mul_below (omega arith) h h);
    }

-- sums of a few times 2 ^ 23
add_times : (a b : ℕ) (x y : Float) → a + b ≤ 16 → Within (a * 2 ^ 23) x → Within (b * 2 ^ 23) y → Within ((a + b) * 2 ^ 23) (x ⊕ y)
add_times a b x y h p q =
    add_within (a + b) 23 (omega arith) (lt_of_le_of_lt (mul-le-mul_right (2 ^ 23) h) (lit< tt)) (a * 2 ^ 23) (b * 2 ^ 23) x y (omega arith) p q

mixed-below : (w : Weights) (p0 c1 c2 p1 : Float) → Weighed w → Below 20 p0 → Below 22 c1 → Below 22 c2 → Below 20 p1 → Below 27 (mixed w p0 c1 c2 p1)
unfolding mixed
mixed-below w p0 c1 c2 p1 W A B C D =
    let a : Below 23 (w.w0 ⊗ p0) = mul_below (omega arith) W.in_0 A in
    let b : Below 26 (w.w1 ⊗ c1) = mul_below (omega arith) W.in_1 B in
    let c : Below 25 (w.w2 ⊗ c2) = mul_below (omega arith) W.in_2 C in
    let d : Below 20 (w.w3 ⊗ p1) = mul_below (omega arith) W.in_3 D in
    let s1 = add_times 1 8 (w.w0 ⊗ p0) (w.w1 ⊗ c1) (omega arith) a.within b.within in
    let s2 = add_times 9 4 (w.w0 ⊗ p0 ⊕ w.w1 ⊗ c1) (w.w2 ⊗ c2) (omega arith) s1 c.within in
    let s3 = add_times 13 1 (w.w0 ⊗ p0 ⊕ w.w1 ⊗ c1 ⊕ w.w2 ⊗ c2) (w.w3 ⊗ p1) (omega arith) s2 (below_more 23 (omega arith) d).within in
    record { within = within_more (14 * 2 ^ 23) (2 ^ 27) (w.w0 ⊗ p0 ⊕ w.w1 ⊗ c1 ⊕ w.w2 ⊗ c2 ⊕ w.w3 ⊗ p1) (omega arith) s3 }

on-curve : {p0 c1 c2 p1 : Point3D} (t : Float) → Below 0 t → Placed 20 p0 → Placed 22 c1 → Placed 22 c2 → Placed 20 p1 → Placed 27 (point_on3 p0 c1 c2 p1 t)
unfolding point_on3
on-curve {p0} {c1} {c2} {p1} t h A B C D =
    let W = weights_below t h in
    record {
      in_x = mixed-below (weights_at t) p0.x c1.x c2.x p1.x W A.in_x B.in_x C.in_x D.in_x;
      in_y = mixed-below (weights_at t) p0.y c1.y c2.y p1.y W A.in_y B.in_y C.in_y D.in_y;
      in_z = mixed-below (weights_at t) p0.z c1.z c2.z p1.z W A.in_z B.in_z C.in_z D.in_z;
    }

-- ---- the thirds of z
one_third : Below 1 (one ⊘ three)
one_third = below_more 1 (omega arith) (div_below 0 three (omega arith) one_below three-least)

two_thirds : Below 1 (two ⊘ three)
two_thirds = div_below 0 three (omega arith) two-below three-least

pub first_third_lem : {a b c : Point3D} → Placed 20 a → Placed 20 b → Placed 20 c → Placed 22 (first_third a b c)
unfolding first_third
first_third_lem A B C =
    record {
      in_x = below_more 22 (omega arith) C.in_x;
      in_y = below_more 22 (omega arith) C.in_y;
      in_z = add_below (omega arith) (mul_below (omega arith) A.in_z two_thirds) (mul_below (omega arith) B.in_z one_third);
    }

pub last_third_lem : {a b c : Point3D} → Placed 20 a → Placed 20 b → Placed 20 c → Placed 22 (last_third a b c)
unfolding last_third
last_third_lem A B C =
    record {
      in_x = below_more 22 (omega arith) C.in_x;
      in_y = below_more 22 (omega arith) C.in_y;
      in_z = add_below (omega arith) (mul_below (omega arith) A.in_z one_third) (mul_below (omega arith) B.in_z two_thirds);
    }

-- ---- the ends of n steps
module _ {p0 c1 c2 p1 : Point3D} (n : ℕ) (few : n ≤ 2048) (A : Placed 20 p0) (B : Placed 22 c1) (C : Placed 22 c2) (D : Placed 20 p1) where
  step_each : (i : ℕ) → i < n → EachBelow 27 (step_end (step_at p0 c1 c2 p1 n i))
  unfolding step_at
  step_each i h = triple-each (on-curve (share n (i + 1)) (share-below n (i + 1) (omega arith) few (omega arith)) A B C D)

  list_each : (k i : ℕ) → i + k ≤ n → EachBelow 27 (flat step_end (list_from (step_at p0 c1 c2 p1 n) k i))
  unfolding flat list_from
  list_each zero i h = tt
  list_each (suc k) i h =
      each_append 27 (step_end (step_at p0 c1 c2 p1 n i)) (flat step_end (list_from (step_at p0 c1 c2 p1 n) k (i + 1)))
      (step_each i (omega arith)) (list_each k (i + 1) (omega arith))

  -- The points at which a Bezier of n steps is cut are at most 2 ^ 27 from zero.
  pub steps-each : EachBelow 27 (flat step_end (steps p0 c1 c2 p1 n))
  unfolding steps
  steps-each = list_each n 0 (omega arith)
