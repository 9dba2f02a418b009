-- `floats::float::abs` meets its contract: a pattern without the sign's bit is the value without its sign. Assumes nothing.
use Rattle.std.proofs.Common.{T, sym, subst, ◌∙◌}
use lib.Ieee.{binary64, fits}
use Rattle.floats.proofs.float.Absolute.{abs_is, abs_no_nan, nan_abs, no_nan}
use Rattle.floats.proofs.float.abs.Goals as goal
use Rattle.floats.proofs.float.abs.Goals.{Start}

-- what owning an `f64` tells: the format holds it
held : (c : Start) → T (fits binary64 c.args.x)
held c = subst T (sym c.well_formed.0.1) tt

pub returns-then-is_nan : goal.returns-then-is_nan
returns-then-is_nan c = nan_abs c.args.x (sym c.is_nan.ensures.value ∙ c.if-is_nan.true)

pub float_to_bits-result : goal.float_to_bits-result
float_to_bits-result c = no_nan c.args.x (sym c.is_nan.ensures.value ∙ c.if-is_nan.false)

pub float_from_bits-result : goal.float_from_bits-result
float_from_bits-result c = abs_no_nan c.args.x (held (goal.at.float_from_bits-result c).Start) (no_nan c.args.x (sym c.is_nan.ensures.value ∙ c.if-is_nan.false))

pub returns : goal.returns
returns c = abs_is c.args.x (held (goal.at.returns c).Start)
