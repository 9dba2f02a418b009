-- `geo::point::get_distance_3d` meets its contract: the root of the sum of squares, as the definition has it. Assumes nothing.
use Rattle.geo.specs.Vector.{distance3}
use Rattle.geo.proofs.point.get_distance_3d.Goals as goal

pub returns : goal.returns
unfolding distance3
returns c = c.sqrt.ensures.value
