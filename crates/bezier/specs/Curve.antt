-- A cubic curve: whether it is in the domain, its point at a parameter, and its two parts there. Each operation in the Rust's order; powi(3) is a×(a×a). Definitions only.
use Rattle.std.specs.Prelude.{Bool, ◌&&◌, Float}
use Rattle.floats.specs.Ops.{◌⊕◌, ◌⊖◌, ◌⊗◌, one, three}
use Rattle.geo.specs.declared.types.Point.{Point}
use Rattle.geo.specs.declared.types.Point3D.{Point3D}
use Rattle.geo.specs.declared.types.CubicBezier.{CubicBezier}
use Rattle.geo.specs.Vector.{lerp, cubic}
use Rattle.geo.specs.Domain.{point_in, point3_in}
use Rattle.bezier.specs.declared.evaluation.Weights.{Weights}
use Rattle.bezier.specs.declared.bezier.Halves.{Halves}

-- ---- all four points are in the domain
abbrev pub all_in : {P : Type 0} → (P → Bool) → CubicBezier P → Bool
all_in ok q = ok q.0 && ok q.1 && ok q.2 && ok q.3

abbrev pub curve_in : CubicBezier Point → Bool
curve_in q = all_in point_in q

abbrev pub curve3_in : Point3D → Point3D → Point3D → Point3D → Bool
curve3_in p0 c1 c2 p1 = all_in point3_in (cubic p0 c1 c2 p1)

-- ---- the point at a parameter
abbrev pub square : Float → Float
square a = a ⊗ a

abbrev pub cube : Float → Float
cube a = a ⊗ (a ⊗ a)

-- Bernstein's weights at t
unfoldable pub weights_at : Float → Weights
weights_at t = record { w0 = cube (one ⊖ t); w1 = three ⊗ square (one ⊖ t) ⊗ t; w2 = three ⊗ (one ⊖ t) ⊗ square t; w3 = cube t }

-- one coordinate, with these weights
unfoldable pub mixed : Weights → Float → Float → Float → Float → Float
mixed w p0 c1 c2 p1 = w.w0 ⊗ p0 ⊕ w.w1 ⊗ c1 ⊕ w.w2 ⊗ c2 ⊕ w.w3 ⊗ p1

-- each coordinate of a curve's four points, with these weights
abbrev pub weighed : Weights → CubicBezier Point → Point
weighed w q = record { x = mixed w q.0.x q.1.x q.2.x q.3.x; y = mixed w q.0.y q.1.y q.2.y q.3.y }

abbrev pub weighed3 : Weights → CubicBezier Point3D → Point3D
weighed3 w q = record { x = mixed w q.0.x q.1.x q.2.x q.3.x; y = mixed w q.0.y q.1.y q.2.y q.3.y; z = mixed w q.0.z q.1.z q.2.z q.3.z }

-- the point at t
unfoldable pub point_on : CubicBezier Point → Float → Point
unfolding weights_at mixed
point_on q t = weighed (weights_at t) q

unfoldable pub point_on3 : Point3D → Point3D → Point3D → Point3D → Float → Point3D
unfolding weights_at mixed
point_on3 p0 c1 c2 p1 t = weighed3 (weights_at t) (cubic p0 c1 c2 p1)

-- the same of a curve
abbrev pub point_of : CubicBezier Point3D → Float → Point3D
point_of q = point_on3 q.0 q.1 q.2 q.3

-- ---- de Casteljau's rule: each point of the next row lies at t between two of the last

-- the point where the two parts meet
unfoldable pub meeting : CubicBezier Point → Float → Point
unfolding lerp
meeting q t =
    lerp (lerp (lerp q.0 q.1 t) (lerp q.1 q.2 t) t) (lerp (lerp q.1 q.2 t) (lerp q.2 q.3 t) t) t

unfoldable pub left_part : CubicBezier Point → Float → CubicBezier Point
unfolding lerp meeting
left_part q t = cubic q.0 (lerp q.0 q.1 t) (lerp (lerp q.0 q.1 t) (lerp q.1 q.2 t) t) (meeting q t)

unfoldable pub right_part : CubicBezier Point → Float → CubicBezier Point
unfolding lerp meeting
right_part q t = cubic (meeting q t) (lerp (lerp q.1 q.2 t) (lerp q.2 q.3 t) t) (lerp q.2 q.3 t) q.3

abbrev pub parts_at : CubicBezier Point → Float → Halves Point
parts_at q t = record { left = left_part q t; right = right_part q t }
