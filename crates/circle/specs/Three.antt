-- The circle through three points. Definitions only.
use Rattle.std.specs.Prelude.{Option, None, Some, Float, if◌then◌else◌}
use Rattle.std.specs.Float.Ieee.{neg}
use Rattle.floats.specs.Float.{abs_of}
use Rattle.floats.specs.Ops.{◌⊕◌, ◌⊖◌, ◌⊗◌, ◌⊘◌, ◌≺◌, two}
use Rattle.geo.specs.Vector.{dot, perp_dot, length_of}
use Rattle.geo.specs.declared.types.Point3D.{Point3D}
use Rattle.geo.specs.declared.types.Point.{Point}
use Rattle.circle.specs.declared.circle.Circle.{Circle}
use Rattle.floats.specs.Limits.{nano}

-- three points whose area or whose turn is below this have no circle
abbrev pub flat_triangle : Float
flat_triangle = nano

unfoldable pub area_of : Point3D → Point3D → Point3D → Float
area_of a b c = a.x ⊗ (b.y ⊖ c.y) ⊕ b.x ⊗ (c.y ⊖ a.y) ⊕ c.x ⊗ (a.y ⊖ b.y)

unfoldable pub turn_of : Point3D → Point3D → Point3D → Float
turn_of a b c = neg two ⊗ perp_dot (b.x ⊖ a.x) (b.y ⊖ a.y) (c.x ⊖ b.x) (c.y ⊖ b.y)

abbrev pub square_of : Point3D → Float
square_of p = dot p.x p.y p.x p.y

-- the centre, where d is the turn
unfoldable pub center3 : Point3D → Point3D → Point3D → Float → Point
center3 a b c d =
    let ab = square_of a ⊖ square_of b in
    let bc = square_of b ⊖ square_of c in
    record {
      x = (ab ⊗ (c.y ⊖ b.y) ⊖ bc ⊗ (b.y ⊖ a.y)) ⊘ d;
      y = ((b.x ⊖ a.x) ⊗ bc ⊖ (c.x ⊖ b.x) ⊗ ab) ⊘ d;
    }

-- the distance of p from the centre m
unfoldable pub radius_from : Point → Point3D → Float
radius_from m p = length_of (p.x ⊖ m.x) (p.y ⊖ m.y)

-- by the area and the turn
unfoldable pub center_by : Float → Float → Point3D → Point3D → Point3D → Option Point
center_by area d a b c =
    if abs_of area ≺ flat_triangle then None
    else if abs_of d ≺ flat_triangle then None
    else Some (center3 a b c d)

-- the centre of the circle, where there is one
unfoldable pub center_three : Point3D → Point3D → Point3D → Option Point
center_three a b c = center_by (area_of a b c) (turn_of a b c) a b c

-- its radius is measured to the point p
unfoldable pub circle_round : Point3D → Option Point → Option Circle
circle_round p (Some m) = Some (record { center = m; radius = radius_from m p })
circle_round p None = None

-- the circle, or none
unfoldable pub through_three : Point3D → Point3D → Point3D → Option Circle
through_three a b c = circle_round a (center_three a b c)
