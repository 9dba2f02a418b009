-- `geo::point::get_length` meets its contract: the root of the sum of squares, as the definition has it. Assumes nothing.
use Rattle.geo.specs.Vector.{length_of}
use Rattle.geo.proofs.point.get_length.Goals as goal

pub returns : goal.returns
unfolding length_of
returns c = c.sqrt.ensures.value
