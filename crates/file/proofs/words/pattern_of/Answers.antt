-- `file::words::pattern_of` meets its contract: a NaN is written by one pattern, and of any other float the pattern may be read. Assumes nothing.
use mathlib.Core.Path.{sym, ◌∙◌, subst}
use mathlib.Core.Bool.{Bool, not, ◌||◌}
use lib.Dec.{T}
use lib.Ieee.{is_nan}
use Rattle.file.proofs.Floats.{nan_pattern}
use Rattle.file.proofs.words.pattern_of.Goals as goal

pub returns-then-is_nan : goal.returns-then-is_nan
returns-then-is_nan c = nan_pattern c.args.x (sym c.is_nan.ensures.value ∙ c.if-is_nan.true)

pub float_to_bits-result : goal.float_to_bits-result
float_to_bits-result c = subst (λ (b : Bool). T (b || not (is_nan c.args.x))) c.if-is_nan.false c.is_nan.ensures.not_nan
