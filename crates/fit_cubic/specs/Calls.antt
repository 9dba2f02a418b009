-- The public call: which row of document 01's table refuses it, else what it gives. Definitions only.
use Rattle.std.specs.Prelude.{◌/◌, not, List, [], ◌∷◌, length, ltb, Float, Option}
use Rattle.geo.specs.declared.types.Point.{Point}
use Rattle.geo.specs.declared.types.CubicBezier.{CubicBezier}
use Rattle.geo.specs.Outcome.{Row, row, refusal, Outcome, unless}
use Rattle.geo.specs.Lent.{pair_at}
use Rattle.geo.specs.Domain.{most_points, coordinate, numbers_in, whole}
use Rattle.fit_cubic.specs.FitCubic.{cubic_fitted}

-- ---- fit_cubic_bezier: at most 2,048 points, a pair of numbers each
unfoldable pub cubic_rows : List Float → List Row
cubic_rows s =
    row 1 (not (whole 2 (length s)))
    ∷ row 2 (ltb most_points (length s / 2))
    ∷ row 5 (not (numbers_in coordinate s))
    ∷ []

unfoldable pub cubic_call : List Float → Outcome (Option (CubicBezier Point))
unfolding refusal unless cubic_rows cubic_fitted
cubic_call s = unless (refusal (cubic_rows s)) (cubic_fitted (pair_at s) (length s / 2))
