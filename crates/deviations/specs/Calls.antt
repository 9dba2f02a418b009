-- The public calls of both deviations: which row of document 01's table refuses them, else what they give. Definitions only.
use Rattle.std.specs.Prelude.{ℕ, ◌-◌, ◌/◌, not, List, [], ◌∷◌, ◌++◌, length, ltb, Float}
use Rattle.geo.specs.declared.types.Point.{Point}
use Rattle.geo.specs.Lent.{point_at}
use Rattle.geo.specs.Domain.{radius, centre}
use Rattle.geo.specs.Outcome.{Row, row, refusal, Outcome, unless}
use Rattle.farthest.specs.Measure.{line_sq}
use Rattle.circle.specs.declared.circle.Deviation.{Deviation}
use Rattle.circle.specs.Calls.{points_rows}
use Rattle.trial.specs.Deviation.{arc_deviation}
use Rattle.deviations.specs.Line.{line_deviation}

-- ---- get_polyline_line_deviation: both indices lie inside the points
unfoldable pub line_rows : List Float → ℕ → ℕ → List Row
line_rows s lo hi = points_rows s ++ (row 7 (not (ltb lo (length s / 3))) ∷ row 7 (not (ltb hi (length s / 3))) ∷ [])

unfoldable pub line_call : List Float → ℕ → ℕ → Outcome Deviation
line_call s lo hi = unless (refusal (line_rows s lo hi)) (line_deviation line_sq (point_at s) lo hi)

-- ---- get_polyline_arc_deviation: the greatest deviation and the first step that reaches it, +0 and 0 below two points, which have no step
unfoldable pub arc_rows : List Float → Point → Float → List Row
arc_rows s m r = points_rows s ++ (row 5 (not (centre m.x)) ∷ row 5 (not (centre m.y)) ∷ row 5 (not (radius r)) ∷ [])

unfoldable pub arc_call : List Float → Point → Float → Outcome Deviation
arc_call s m r = unless (refusal (arc_rows s m r)) (arc_deviation m r (point_at s) 0 (length s / 3 - 1))
