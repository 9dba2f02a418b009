-- `geo::domain::is_coordinate` meets its contract: at most a million from zero is from minus a million to a million. Assumes nothing.
use mathlib.Core.Path.{◌∙◌}
use Rattle.geo.proofs.Sides.{coordinate-between}
use Rattle.geo.proofs.domain.is_coordinate.Goals as goal

pub returns : goal.returns
returns c = c.is_within.ensures ∙ coordinate-between _
