-- The public calls: which row of document 01's table refuses them, else what they give. Definitions only.
use Rattle.std.specs.Prelude.{ℕ, ◌*◌, not, ◌&&◌, ◌||◌, List, [], ◌∷◌, ◌++◌, length, ◌==◌, nat_lt, Float}
use Rattle.floats.specs.Limits.{eight_hundred}
use Rattle.floats.specs.Ops.{◌≼◌}
use Rattle.geo.specs.declared.types.Point.{Point}
use Rattle.geo.specs.declared.types.Point3D.{Point3D}
use Rattle.geo.specs.Vector.{cubic}
use Rattle.geo.specs.Outcome.{Row, row, refusal, Outcome, unless}
use Rattle.geo.specs.Domain.{parameter, tolerance, whole}
use Rattle.bezier.specs.declared.bezier.Halves.{Halves}
use Rattle.bezier.specs.Curve.{curve_in, curve3_in, point_on, parts_at}
use Rattle.bezier.specs.Linearize.{most_asked, Step, steps, steps_needed, param_steps}

-- ---- get_bezier_point_at
unfoldable pub point_call : Point → Point → Point → Point → Float → Outcome Point
unfolding refusal unless point_on
point_call p0 c1 c2 p1 t = unless (refusal (row 5 (not (curve_in (cubic p0 c1 c2 p1) && parameter t)) ∷ [])) (point_on (cubic p0 c1 c2 p1) t)

-- ---- split_bezier
unfoldable pub split_call : Point → Point → Point → Point → Float → Outcome (Halves Point)
unfolding refusal unless
split_call p0 c1 c2 p1 t =
    unless (refusal (row 5 (not (curve_in (cubic p0 c1 c2 p1) && parameter t)) ∷ [])) (parts_at (cubic p0 c1 c2 p1) t)

-- ---- linearize_bezier: a step is six numbers; `room` counts lent numbers
unfoldable pub linearize_rows : Point3D → Point3D → Point3D → Point3D → ℕ → ℕ → List Row
linearize_rows p0 c1 c2 p1 n room =
    row 1 (not (whole 6 room))
    ∷ row 2 (n == 0 || nat_lt most_asked n)
    ∷ row 5 (not (curve3_in p0 c1 c2 p1))
    ∷ row 9 (nat_lt room (6 * n))
    ∷ []

unfoldable pub linearize_call : Point3D → Point3D → Point3D → Point3D → ℕ → ℕ → Outcome (List Step)
unfolding refusal unless linearize_rows steps
linearize_call p0 c1 c2 p1 n room = unless (refusal (linearize_rows p0 c1 c2 p1 n room)) (steps p0 c1 c2 p1 n)

-- ---- linearize_bezier_from_params
abbrev pub most_steps : Float
most_steps = eight_hundred

-- the rows before the steps are counted
unfoldable pub param_first_rows : Point3D → Point3D → Point3D → Point3D → Float → ℕ → List Row
param_first_rows end c1 c2 start resolution room =
    row 1 (not (whole 6 room))
    ∷ row 5 (not (curve3_in end c1 c2 start))
    ∷ row 6 (not (tolerance resolution))
    ∷ []

-- and those after it
unfoldable pub param_last_rows : Point3D → Point3D → Point3D → Point3D → Float → ℕ → List Row
param_last_rows end c1 c2 start resolution room =
    row 8 (not (steps_needed end c1 c2 start resolution ≼ most_steps))
    ∷ row 9 (nat_lt room (6 * length (param_steps end c1 c2 start resolution)))
    ∷ []

unfoldable pub param_rows : Point3D → Point3D → Point3D → Point3D → Float → ℕ → List Row
unfolding param_first_rows param_last_rows
param_rows end c1 c2 start resolution room = param_first_rows end c1 c2 start resolution room ++ param_last_rows end c1 c2 start resolution room

unfoldable pub param_call : Point3D → Point3D → Point3D → Point3D → Float → ℕ → Outcome (List Step)
unfolding refusal unless param_rows param_steps
param_call end c1 c2 start resolution room = unless (refusal (param_rows end c1 c2 start resolution room)) (param_steps end c1 c2 start resolution)
