-- A centre moved along a chord to the chord's bisector. Definitions only.
use Rattle.std.specs.Prelude.{Float, if◌then◌else◌}
use Rattle.floats.specs.Limits.{pico}
use Rattle.floats.specs.Ops.{◌⊕◌, ◌⊖◌, ◌⊗◌, ◌⊘◌, ◌≺◌, two}
use Rattle.geo.specs.Vector.{dot}
use Rattle.geo.specs.declared.types.Point3D.{Point3D}
use Rattle.geo.specs.declared.types.Point.{Point}

-- a chord whose square is below this has no bisector
abbrev pub no_bisector : Float
no_bisector = pico

-- by the direction and its square
unfoldable pub moved_by : Float → Float → Float → Point3D → Point3D → Point → Point
moved_by dx dy sq a b m =
    let vx = m.x ⊖ (a.x ⊕ b.x) ⊘ two in
    let vy = m.y ⊖ (a.y ⊕ b.y) ⊘ two in
    let k = dot vx vy dx dy ⊘ sq in
    if sq ≺ no_bisector then m else record { x = m.x ⊖ dx ⊗ k; y = m.y ⊖ dy ⊗ k }

unfoldable pub projected : Point3D → Point3D → Point → Point
projected a b m =
    let dx = b.x ⊖ a.x in
    let dy = b.y ⊖ a.y in
    moved_by dx dy (dot dx dy dx dy) a b m
