-- The height after each part of an accepted Arc is finite. Assumes nothing.
use Prim.Native.Nat.{ℕ, ◌≤◌}
use mathlib.Core.Path.{◌≡◌}
use mathlib.Core.Bool.{true, false}
use native.Mathlib.Omega.{arith}
use lib.IntN.{pos}
use lib.Dec.{lit<}
use lib.Ieee.{binary64, of_int}
use Rattle.floats.specs.Ops.{◌⊖◌, ◌⊘◌}
use Rattle.floats.proofs.Bounds.{Below, round_within, below_more, add_below, sub_below, mul_below, div_below}
use Rattle.geo.specs.declared.types.Point3D.{Point3D}
use Rattle.geo.specs.Domain.{is_finite, point3_in}
use Rattle.course.proofs.FinitePoints.{point_in}
use Rattle.course.proofs.FiniteFit.{below-is-finite}
use Rattle.flatten.specs.Lines.{height_after}
use Rattle.arc_lines.proofs.Sizes.{whole-least}

count-below : (n : ℕ) → n ≤ 4096 → Below 12 (of_int binary64 (pos n))
unfolding of_int
count-below n h = record { within = round_within false n 1 1 12 (omega arith) (omega arith) (lit< tt) (omega arith) }

-- Of an Arc in the domain with at most 4,096 parts each height is finite.
pub height_finite : (a b : Point3D) (n i : ℕ) → point3_in a ≡ true → point3_in b ≡ true → 1 ≤ n → n ≤ 4096 → i ≤ 4096 → is_finite (height_after a b n i) ≡ true
unfolding height_after
height_finite a b n i A B s f g =
    let z₀ : Below 20 a.z = (point_in a A).in_z in
    let z₁ : Below 20 b.z = (point_in b B).in_z in
    let d : Below 21 (b.z ⊖ a.z) = sub_below (omega arith) z₁ z₀ in
    let q : Below 12 (of_int binary64 (pos i) ⊘ of_int binary64 (pos n)) = div_below 0 (of_int binary64 (pos n)) (omega arith) (count-below i g) (whole-least n s f) in
    below-is-finite (add_below {k = 33} (omega arith) (below_more 33 (omega arith) z₀) (mul_below (omega arith) d q))
