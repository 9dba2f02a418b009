-- Operations on points, each float operation in the order in which the Rust, and glam below it, rounds (document 01, "glam's forms"). Definitions only.
use Rattle.std.specs.Prelude.{Float}
use Rattle.floats.specs.Ops.{◌⊕◌, ◌⊖◌, ◌⊗◌, ◌⊘◌, one, two}
use Rattle.floats.specs.Root.{root_of}
use Rattle.geo.specs.declared.types.Point.{Point}
use Rattle.geo.specs.declared.types.Point3D.{Point3D}
use Rattle.geo.specs.declared.types.CubicBezier.{CubicBezier}

-- a position in the plane, of a position in space
abbrev pub flatten : Point3D → Point
flatten p = record { x = p.x; y = p.y }

-- a curve from p0 to p1, with its controls
abbrev pub cubic : {P : Type 0} → P → P → P → P → CubicBezier P
cubic p0 c1 c2 p1 = record { 0 = p0; 1 = c1; 2 = c2; 3 = p1 }

-- ---- in the plane: a direction by its two numbers
abbrev pub dot : Float → Float → Float → Float → Float
dot x y x' y' = x ⊗ x' ⊕ y ⊗ y'

abbrev pub perp_dot : Float → Float → Float → Float → Float
perp_dot x y x' y' = x ⊗ y' ⊖ y ⊗ x'

-- length_squared and length
abbrev pub length_sq : Float → Float → Float
length_sq x y = dot x y x y

unfoldable pub length_of : Float → Float → Float
length_of x y = root_of (length_sq x y)

unfoldable pub distance_sq : Point → Point → Float
distance_sq p q = length_sq (p.x ⊖ q.x) (p.y ⊖ q.y)

unfoldable pub distance : Point → Point → Float
unfolding length_of
distance p q = length_of (p.x ⊖ q.x) (p.y ⊖ q.y)

-- the point at parameter t between a and b
unfoldable pub lerp : Point → Point → Float → Point
lerp a b t = record { x = a.x ⊗ (one ⊖ t) ⊕ b.x ⊗ t; y = a.y ⊗ (one ⊖ t) ⊕ b.y ⊗ t }

-- ---- in space
abbrev pub length_sq3 : Float → Float → Float → Float
length_sq3 x y z = x ⊗ x ⊕ y ⊗ y ⊕ z ⊗ z

unfoldable pub distance3 : Point3D → Point3D → Float
distance3 p q = root_of (length_sq3 (p.x ⊖ q.x) (p.y ⊖ q.y) (p.z ⊖ q.z))

unfoldable pub dot3 : Point3D → Point3D → Float
dot3 u v = u.x ⊗ v.x ⊕ u.y ⊗ v.y ⊕ u.z ⊗ v.z

unfoldable pub cross3 : Point3D → Point3D → Point3D
cross3 u v =
    record {
      x = u.y ⊗ v.z ⊖ v.y ⊗ u.z;
      y = u.z ⊗ v.x ⊖ v.z ⊗ u.x;
      z = u.x ⊗ v.y ⊖ v.x ⊗ u.y;
    }

unfoldable pub midpoint : Point3D → Point3D → Point3D
midpoint a b = record { x = (a.x ⊕ b.x) ⊘ two; y = (a.y ⊕ b.y) ⊘ two; z = (a.z ⊕ b.z) ⊘ two }
