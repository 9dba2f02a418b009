-- `geo::point::get_distance` meets its contract: the length of the difference, as the definition has it. Assumes nothing.
use Rattle.geo.specs.Vector.{distance}
use Rattle.geo.proofs.point.get_distance.Goals as goal

pub returns : goal.returns
unfolding distance
returns c = c.get_length.ensures
