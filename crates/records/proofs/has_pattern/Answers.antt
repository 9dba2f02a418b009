-- `records::has_pattern` meets its contract: a NaN has every NaN's pattern, and of any other float the pattern may be read. Assumes nothing.
use mathlib.Core.Path.{sym, subst, ◌∙◌}
use mathlib.Core.Bool.{Bool, not, ◌||◌}
use lib.Dec.{T}
use lib.Ieee as ieee
use Rattle.records.specs.Words.{has_pattern}
use Rattle.records.proofs.has_pattern.Goals as goal

pub returns-then-is_nan : goal.returns-then-is_nan
unfolding has_pattern
returns-then-is_nan c = rw (sym c.is_nan.ensures.value ∙ c.if-is_nan.true) c.is_nan-then-is_nan.ensures

pub float_to_bits-result : goal.float_to_bits-result
float_to_bits-result c = subst (λ (b : Bool). T (b || not (ieee.is_nan c.args.x))) c.if-is_nan.false c.is_nan.ensures.not_nan

pub returns : goal.returns
unfolding has_pattern
returns c = rw (sym c.is_nan.ensures.value ∙ c.if-is_nan.false)
