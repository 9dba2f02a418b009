-- `geo::domain::is_centre` meets its contract: its test is the definition, of the absolute value that `abs` promises. Assumes nothing.
use Rattle.geo.specs.Domain.{centre}
use Rattle.geo.proofs.domain.is_centre.Goals as goal

pub returns : goal.returns
unfolding centre
returns c = rw c.abs.ensures
