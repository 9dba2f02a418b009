-- Kasa's least squares: sums, normal equations, centre, radius, greatest error. Definitions only.
use Rattle.std.specs.Prelude.{ℕ, ◌+◌, ◌-◌, pos, Option, None, Some, Float, if◌then◌else◌}
use Rattle.std.specs.Float.{binary64}
use Rattle.std.specs.Float.Ieee.{of_int}
use Rattle.floats.specs.Limits.{hundredth, tenth_nano, femto}
use Rattle.floats.specs.Root.{root_of}
use Rattle.floats.specs.Float.{abs_of}
use Rattle.floats.specs.Ops.{◌⊕◌, ◌⊖◌, ◌⊗◌, ◌⊘◌, ◌≺◌, +0, one, two}
use Rattle.geo.specs.declared.types.Point3D.{Point3D}
use Rattle.geo.specs.declared.types.Point.{Point}
use Rattle.circle.specs.declared.circle.Deviation.{Deviation}
use Rattle.geo.specs.Walk.{fold}
use Rattle.geo.specs.Vector.{dot3, cross3}
use Rattle.circle.specs.Worst.{worst}
use Rattle.circle.specs.declared.circle.Sums.{Sums}
use Rattle.circle.specs.declared.circle.Axes.{Axes}
use Rattle.circle.specs.declared.circle.Center.{Center}
use Rattle.circle.specs.declared.circle.LeastSquares.{LeastSquares}
use Rattle.circle.specs.Collinear.{collinear}
use Rattle.circle.specs.Three.{radius_from}

-- ---- the limits: points that lie on a line within this have no circle
abbrev pub on_one_line : Float
on_one_line = hundredth

-- a matrix whose determinant is below this has no inverse
abbrev pub no_inverse : Float
no_inverse = femto

-- a squared radius below this is none
abbrev pub no_radius : Float
no_radius = tenth_nano

-- ---- the sums

abbrev pub no_sums : Sums
no_sums = record { xx = +0; xy = +0; x = +0; yy = +0; y = +0; xb = +0; yb = +0; b = +0 }

-- one point more
unfoldable pub plus : Point3D → Sums → Sums
plus p s =
    let sq = p.x ⊗ p.x ⊕ p.y ⊗ p.y in
    record {
      xx = s.xx ⊕ two ⊗ p.x ⊗ two ⊗ p.x;
      xy = s.xy ⊕ two ⊗ p.x ⊗ two ⊗ p.y;
      x = s.x ⊕ two ⊗ p.x;
      yy = s.yy ⊕ two ⊗ p.y ⊗ two ⊗ p.y;
      y = s.y ⊕ two ⊗ p.y;
      xb = s.xb ⊕ two ⊗ p.x ⊗ sq;
      yb = s.yb ⊕ two ⊗ p.y ⊗ sq;
      b = s.b ⊕ sq;
    }

unfoldable pub sums_of : (ℕ → Point3D) → ℕ → ℕ → Sums
sums_of at lo hi = fold (λ i. plus (at i)) (hi + 1 - lo) lo no_sums

-- ---- three rows of three, as vectors

unfoldable pub scaled : Point3D → Float → Point3D
scaled u k = record { x = u.x ⊗ k; y = u.y ⊗ k; z = u.z ⊗ k }

unfoldable pub det_of : Axes → Float
det_of a = dot3 a.z (cross3 a.x a.y)

-- the inverse, cross products times k = 1 / determinant, times b
unfoldable pub inverse_times : Axes → Float → Point3D → Point3D
inverse_times a k b =
    record {
      x = dot3 (scaled (cross3 a.y a.z) k) b;
      y = dot3 (scaled (cross3 a.z a.x) k) b;
      z = dot3 (scaled (cross3 a.x a.y) k) b;
    }

unfoldable pub solved : Axes → Point3D → Option Point3D
solved a b = if abs_of (det_of a) ≺ no_inverse then None else Some (inverse_times a (one ⊘ det_of a) b)

-- ---- the circle

unfoldable pub matrix_of : Sums → ℕ → Axes
matrix_of s n =
    record {
      x = record { x = s.xx; y = s.xy; z = s.x };
      y = record { x = s.xy; y = s.yy; z = s.y };
      z = record { x = s.x; y = s.y; z = of_int binary64 (pos n) };
    }

unfoldable pub sides_of : Sums → Point3D
sides_of s = record { x = s.xb; y = s.yb; z = s.b }

abbrev pub squared_radius : Point3D → Float
squared_radius v = v.x ⊗ v.x ⊕ v.y ⊗ v.y ⊕ v.z

-- by the solution: centre, and the constant
unfoldable pub centered : Option Point3D → Option Center
centered None = None
centered (Some v) =
    if squared_radius v ≺ no_radius then None
    else Some (record { center = record { x = v.x; y = v.y }; square = squared_radius v })

unfoldable pub kasa_center : (ℕ → Point3D) → ℕ → ℕ → Option Center
kasa_center at lo hi =
    if collinear on_one_line at lo hi then None
    else let s = sums_of at lo hi in centered (solved (matrix_of s (hi - lo + 1)) (sides_of s))

-- how far p is off the circle
unfoldable pub error_of : Point → Float → Point3D → Float
error_of m r p = abs_of (radius_from m p ⊖ r)

unfoldable pub worst_error : Point → Float → (ℕ → Point3D) → ℕ → ℕ → Deviation
worst_error m r at lo hi = worst (λ i. error_of m r (at i)) (hi + 1 - lo) lo (record { dist = +0; index = lo })

-- the circle of least squares and its greatest error, by the centre and the squared radius
unfoldable pub fitted_to : (ℕ → Point3D) → ℕ → ℕ → Option Center → Option LeastSquares
fitted_to at lo hi None = None
fitted_to at lo hi (Some c) =
    Some (record { center = c.center; radius = root_of c.square; error = (worst_error c.center (root_of c.square) at lo hi).dist })

-- the circle, or none
unfoldable pub kasa_circle : (ℕ → Point3D) → ℕ → ℕ → Option LeastSquares
kasa_circle at lo hi = fitted_to at lo hi (kasa_center at lo hi)
