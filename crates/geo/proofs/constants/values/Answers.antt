-- `geo::constants::values` meets its contract: each pattern is the float nearest to its fraction, by evaluation. Assumes nothing.
use mathlib.Core.Path.{refl}
use lib.Ieee.{span, climb, size, odd, units, round, of_fields, of_bits}
use Rattle.geo.specs.Constants.{constants}
use Rattle.geo.proofs.constants.values.Goals as goal

pub returns : goal.returns
unfolding constants span climb size odd units round of_fields of_bits
returns c = refl
