-- The code's own way: a Line is tested once, and its first farthest point is told with it. Definitions only.
use Rattle.std.specs.Prelude.{ℕ}
use Rattle.floats.specs.Ops.{◌≺◌}
use Rattle.geo.specs.declared.types.Point3D.{Point3D}
use Rattle.deviations.specs.Line.{line_deviation}
use Rattle.pieces.specs.declared.pieces.Rule.{Rule}
use Rattle.pieces.specs.declared.pieces.Tested.{Tested}
use Rattle.pieces.specs.Pieces.{distance}

-- what the Line of a range comes to: whether its deviation is below the tolerance, and its first farthest point
unfoldable pub line_tested : Rule → (ℕ → Point3D) → ℕ → ℕ → Tested
line_tested r at lo hi =
    let w = line_deviation (distance r) at lo hi in
    record { passes = w.dist ≺ r.tolerance; index = w.index }
