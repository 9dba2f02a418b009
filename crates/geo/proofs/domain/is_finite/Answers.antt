-- `geo::domain::is_finite` meets its contract: the library's test is the definition's. Assumes nothing.
use mathlib.Core.Path.{◌∙◌}
use Rattle.geo.proofs.Zero.{finite-is}
use Rattle.geo.proofs.domain.is_finite.Goals as goal

pub returns : goal.returns
returns c = c.is_finite.ensures.value ∙ finite-is c.args.x
