-- How far a point lies from the chord of a range, in x and y: document 01's measure, to the endless line; and which measure a ruler stands for. Those to the segment are in
-- `segment/specs/Segment.antt`. Definitions only.
use Rattle.std.specs.Prelude.{Float, if◌then◌else◌}
use Rattle.floats.specs.Ops.{◌⊖◌, ◌⊗◌, ◌⊘◌, ◌≺◌, +0}
use Rattle.geo.specs.declared.types.Point.{Point}
use Rattle.geo.specs.declared.types.Point3D.{Point3D}
use Rattle.geo.specs.Vector.{length_sq, perp_dot}
use Rattle.segment.specs.Segment.{degenerate, segment_sq, space_sq}
use Rattle.farthest.specs.declared.farthest.Chord.{Chord}
use Rattle.farthest.specs.declared.farthest.Ruler.{Ruler}
use Rattle.farthest.specs.declared.farthest.Ruler.TheVariants.{Line, Segment, Space}

-- A measure gives the squared distance of a point, its last argument, to the chord of two others, its first and second.
-- Thinning and its laws are stated over any measure.
abbrev pub Measure : Type 0 → Type 0
Measure P = P → P → P → Float

-- the chord from a to b: its start, its direction in the plane, and the square of its length there
unfoldable pub chord_of : Point3D → Point3D → Chord
chord_of a b = record { start = a; dx = b.x ⊖ a.x; dy = b.y ⊖ a.y; square = length_sq (b.x ⊖ a.x) (b.y ⊖ a.y) }

-- of an offset (x, y) from the start of a chord: the squared distance to the endless line through the chord, or to its start where it is degenerate
abbrev pub off_line : Chord → Float → Float → Float
off_line c x y =
    if c.square ≺ degenerate then length_sq x y
    else perp_dot x y c.dx c.dy ⊗ perp_dot x y c.dx c.dy ⊘ c.square

-- of a point
unfoldable pub to_line : Chord → Point3D → Float
to_line c p = off_line c (p.x ⊖ c.start.x) (p.y ⊖ c.start.y)

-- the measure of points: in x and y, to the endless line
unfoldable pub line_sq : Measure Point3D
unfolding chord_of to_line
line_sq a b p = to_line (chord_of a b) p

-- the measure of a ruler
abbrev pub measure_of : Ruler → Measure Point3D
measure_of Line = line_sq
measure_of Segment = segment_sq
measure_of Space = space_sq

-- and of points of the plane, which stand at height 0
abbrev pub raised : Point → Point3D
raised p = record { x = p.x; y = p.y; z = +0 }

unfoldable pub plane_sq : Measure Point
unfolding line_sq
plane_sq a b p = line_sq (raised a) (raised b) (raised p)
