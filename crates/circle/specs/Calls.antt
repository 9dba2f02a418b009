-- The public calls: which row of document 01's table refuses them, else what they give. Definitions only.
use Rattle.std.specs.Prelude.{◌-◌, ◌/◌, Bool, true, not, ◌&&◌, List, [], ◌∷◌, length, ltb, Option, None, Float, if◌then◌else◌}
use Rattle.geo.specs.declared.types.Point.{Point}
use Rattle.geo.specs.declared.types.Point3D.{Point3D}
use Rattle.geo.specs.Lent.{point_at}
use Rattle.geo.specs.Domain.{most_points, point3_in, tolerance, coordinate, centre, numbers_in, whole}
use Rattle.geo.specs.Outcome.{Row, row, refusal, Outcome, unless}
use Rattle.circle.specs.Collinear.{collinear}
use Rattle.circle.specs.declared.circle.Circle.{Circle}
use Rattle.circle.specs.declared.circle.LeastSquares.{LeastSquares}
use Rattle.circle.specs.Three.{through_three}
use Rattle.circle.specs.Kasa.{kasa_circle}
use Rattle.circle.specs.Bisector.{projected}

-- the rows of a list of triples alone
unfoldable pub points_rows : List Float → List Row
points_rows s =
    row 1 (not (whole 3 (length s)))
    ∷ row 2 (ltb most_points (length s / 3))
    ∷ row 5 (not (numbers_in coordinate s))
    ∷ []

-- ---- are_points_collinear_3d: fewer than three points are on a line
unfoldable pub collinear_rows : List Float → Float → List Row
collinear_rows s tol =
    row 1 (not (whole 3 (length s)))
    ∷ row 2 (ltb most_points (length s / 3))
    ∷ row 5 (not (numbers_in coordinate s))
    ∷ row 6 (not (tolerance tol))
    ∷ []

unfoldable pub collinear_call : List Float → Float → Outcome Bool
unfolding refusal unless collinear_rows collinear
collinear_call s tol =
    unless (refusal (collinear_rows s tol)) (if ltb (length s / 3) 3 then true else collinear tol (point_at s) 0 (length s / 3 - 1))

-- ---- fit_circle_to_3_points
unfoldable pub through_call : Point3D → Point3D → Point3D → Outcome (Option Circle)
unfolding refusal unless through_three
through_call a b c = unless (refusal (row 5 (not (point3_in a && point3_in b && point3_in c)) ∷ [])) (through_three a b c)

-- ---- fit_circle_to_points_3d: none below three points
unfoldable pub fitted_call : List Float → Outcome (Option LeastSquares)
unfolding refusal unless points_rows kasa_circle
fitted_call s =
    unless (refusal (points_rows s)) (if ltb (length s / 3) 3 then None else kasa_circle (point_at s) 0 (length s / 3 - 1))

-- ---- project_circle_center_to_bisector
unfoldable pub projected_call : Point3D → Point3D → Point → Outcome Point
unfolding refusal unless projected
projected_call a b m = unless (refusal (row 5 (not (point3_in a && point3_in b && centre m.x && centre m.y)) ∷ [])) (projected a b m)
