-- The code's own way: how the search for the first farthest point saves divisions. What a reader has to believe stands in Farthest.antt. Definitions only.
use Rattle.std.specs.Prelude.{◌≡◌, false, Float, if◌then◌else◌}
use Rattle.floats.specs.Ops.{◌⊖◌, ◌⊗◌, ◌⊘◌, ◌≺◌, +0}
use Rattle.geo.specs.declared.types.Point3D.{Point3D}
use Rattle.geo.specs.Vector.{length_sq, perp_dot}
use Rattle.segment.specs.Segment.{degenerate}
use Rattle.farthest.specs.declared.farthest.Chord.{Chord}
use Rattle.farthest.specs.declared.farthest.Farthest.{Farthest}
use Rattle.farthest.specs.Measure.{to_line}

-- of an offset: what its distance to the chord grows with, the dividend of the squared distance, or the squared distance itself where the chord is degenerate
abbrev pub dividend : Chord → Float → Float → Float
dividend c x y = if c.square ≺ degenerate then length_sq x y else perp_dot x y c.dx c.dy ⊗ perp_dot x y c.dx c.dy

unfoldable pub spread_of : Chord → Point3D → Float
spread_of c p = dividend c (p.x ⊖ c.start.x) (p.y ⊖ c.start.y)

-- the squared distance of a point with the spread v
unfoldable pub square_of_spread : Chord → Float → Float
square_of_spread c v = if c.square ≺ degenerate then v else v ⊘ c.square

-- A search may pass over a point whose spread is not above its top: no such point lies farther than its best.
pub record Sound (c : Chord) (top : Float) (best : Farthest) : Type 0 where
  pub positive : (best.square ≺ +0) ≡ false
  pub covers : (p : Point3D) → (top ≺ spread_of c p) ≡ false → (best.square ≺ to_line c p) ≡ false
