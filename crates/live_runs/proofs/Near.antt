-- Where the deviation of a line is below a tolerance, each point between is: the squared distances of points in the domain are numbers. Assumes nothing.
use Rattle.std.specs.Prelude.{if◌then◌else◌}
use Prim.Native.Nat.{ℕ, ◌^◌, ◌≤◌, ◌<◌}
use mathlib.Core.Path.{◌≡◌, refl, sym, subst}
use mathlib.Core.Logic.{⊎_elim}
use mathlib.Core.Bool.{true, false, ◌&&◌}
use native.Mathlib.Omega.{arith}
use lib.Dec.{T}
use lib.Ieee.{Float, nan, inf, fin, lt, is_nan, of_bits}
use Rattle.floats.specs.Ops.{◌⊖◌, ◌⊗◌, ◌⊘◌, ◌≺◌}
use Rattle.floats.specs.Float.{abs_of}
use Rattle.floats.specs.Root.{root_of, plain}
use Rattle.floats.proofs.Order.{either, clash, and_left, and_right}
use Rattle.floats.proofs.Bounds.{Within, Below, AtLeast, at_least_of_abs, add_below, sub_below, mul_below, div_below}
use Rattle.floats.proofs.Unsigned.{Unsigned, square-unsigned, sum_unsigned}
use Rattle.geo.specs.declared.types.Point3D.{Point3D}
use Rattle.geo.specs.Domain.{coordinate, point3_in}
use Rattle.geo.specs.Vector.{length_sq, perp_dot}
use Rattle.geo.proofs.Coordinates.{coordinate-below}
use Rattle.segment.specs.Segment.{degenerate}
use Rattle.deviations.specs.Line.{line_deviation}
use Rattle.deviations.proofs.Between.{point-below}
use Rattle.farthest.specs.Measure.{chord_of, to_line, line_sq}

-- ---- squared distances of points in the domain
within-number : (b : ℕ) (x : Float) → Within b x → is_nan x ≡ false
unfolding is_nan
within-number b nan h = absurd h
within-number b (inf s) h = refl
within-number b (fin s m e) h = refl

below-number : {k : ℕ} (x : Float) → Below k x → is_nan x ≡ false
below-number {k} x h = within-number (2 ^ k) x h.within

-- the three coordinates of a point in the domain
pub coordinates : (p : Point3D) → point3_in p ≡ true → (coordinate p.x ≡ true) × (coordinate p.y ≡ true) × (coordinate p.z ≡ true)
unfolding point3_in
coordinates p h =
    let xy = and_left (coordinate p.x && coordinate p.y) (coordinate p.z) h in
    (and_left (coordinate p.x) (coordinate p.y) xy, and_right (coordinate p.x) (coordinate p.y) xy, and_right (coordinate p.x && coordinate p.y) (coordinate p.z) h)

-- of an offset (x, y) from a chord's started, each at most 2 ^ 21 as the chord's own direction
length_below : (u v : Float) → Below 21 u → Below 21 v → Below 43 (length_sq u v)
length_below u v hu hv = add_below {k = 42} (omega arith) (mul_below (omega arith) hu hu) (mul_below (omega arith) hv hv)

length_unsigned : (u v : Float) → Unsigned (length_sq u v)
length_unsigned u v = sum_unsigned (u ⊗ u) (v ⊗ v) (square-unsigned u) (square-unsigned v)

abs_unsigned : (x : Float) → Unsigned x → abs_of x ≡ x
unfolding abs_of
abs_unsigned nan p = refl
abs_unsigned (inf true) p = clash (sym p)
abs_unsigned (inf false) p = refl
abs_unsigned (fin true m e) p = clash (sym p)
abs_unsigned (fin false m e) p = refl

-- 1e-12 is above 2 ^ -40
degenerate-plain : T (plain degenerate)
unfolding plain of_bits
degenerate-plain = tt

degenerate-least : AtLeast 40 degenerate
unfolding of_bits
degenerate-least = omega arith

module _ (x y dx dy : Float) (hx : Below 21 x) (hy : Below 21 y) (hdx : Below 21 dx) (hdy : Below 21 dy) where
  cross_below : Below 43 (perp_dot x y dx dy)
  cross_below = sub_below {k = 42} (omega arith) (mul_below (omega arith) hx hdy) (mul_below (omega arith) hy hdx)

  chord_least : (length_sq dx dy ≺ degenerate) ≡ false → AtLeast 40 (length_sq dx dy)
  chord_least h =
      let L = length_sq dx dy in
      at_least_of_abs 40 (2 ^ 43) L degenerate (length_below dx dy hdx hdy).within degenerate-plain
      (subst (λ (z : Float). lt z degenerate ≡ false) (sym (abs_unsigned L (length_unsigned dx dy))) h) degenerate-least

  offset_number : is_nan (if length_sq dx dy ≺ degenerate then length_sq x y else perp_dot x y dx dy ⊗ perp_dot x y dx dy ⊘ length_sq dx dy) ≡ false
  offset_number =
      let L = length_sq dx dy in
      let c = perp_dot x y dx dy in
      ⊎_elim (λ h. rw h (below-number (length_sq x y) (length_below x y hx hy)))
      (λ h. rw h (below-number (c ⊗ c ⊘ L) (div_below 40 L (omega arith) (mul_below (omega arith) cross_below cross_below) (chord_least h)))) (either (L ≺ degenerate))

-- the squared distance of a point to the line of two others is a number
pub line-number : (a b p : Point3D) → point3_in a ≡ true → point3_in b ≡ true → point3_in p ≡ true → is_nan (line_sq a b p) ≡ false
unfolding line_sq to_line chord_of
line-number a b p ha hb hp =
    let u = coordinates a ha in
    let v = coordinates b hb in
    let w = coordinates p hp in
    offset_number (p.x ⊖ a.x) (p.y ⊖ a.y) (b.x ⊖ a.x) (b.y ⊖ a.y)
    (sub_below (omega arith) (coordinate-below w.0) (coordinate-below u.0)) (sub_below (omega arith) (coordinate-below w.1) (coordinate-below u.1))
    (sub_below (omega arith) (coordinate-below v.0) (coordinate-below u.0)) (sub_below (omega arith) (coordinate-below v.1) (coordinate-below u.1))

-- ---- a range
module _ (at : ℕ → Point3D) (lo hi : ℕ) (inside : (i : ℕ) → lo ≤ i → i ≤ hi → point3_in (at i) ≡ true) (t : Float) where
  -- Where the line's deviation is below t, each point strictly between is below t from the line.
  pub each_below : ((line_deviation line_sq at lo hi).dist ≺ t) ≡ true → (j : ℕ) → lo < j → j < hi → (root_of (line_sq (at lo) (at hi) (at j)) ≺ t) ≡ true
  each_below d j l h =
      point-below at lo hi t d j l h
      (line-number (at lo) (at hi) (at j) (inside lo (omega arith) (omega arith)) (inside hi (omega arith) (omega arith)) (inside j (omega arith) (omega arith)))
