-- `geo::domain::is_plus_zero` meets its contract: among what equals 0 the pattern tells +0 from -0. Assumes nothing.
use mathlib.Core.Path.{sym, subst, ◌∙◌}
use lib.Dec.{T}
use lib.Ieee.{binary64, fits}
use Rattle.geo.proofs.Zero.{eq_no_nan, plus_zero_is, not_plus_zero}
use Rattle.geo.proofs.domain.is_plus_zero.Goals as goal
use Rattle.geo.proofs.domain.is_plus_zero.Goals.{Start}

-- what owning an `f64` tells: the format holds it
held : (c : Start) → T (fits binary64 c.args.x)
held c = subst T (sym c.well_formed.0.1) tt

pub float_to_bits-result : goal.float_to_bits-result
float_to_bits-result c = eq_no_nan _ _ c.if-x.true

pub returns-then-x : goal.returns-then-x
returns-then-x c = plus_zero_is _ (held (goal.at.returns-then-x c).Start) c.if-x.true

pub returns-else-x : goal.returns-else-x
returns-else-x c = c.if-x.false ∙ not_plus_zero _ c.if-x.false
