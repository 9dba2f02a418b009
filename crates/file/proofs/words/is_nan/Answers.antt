-- `file::words::is_nan` meets its contract: without the sign's bit, the patterns above the infinity's are the NaNs'. Assumes nothing.
use mathlib.Core.Path.{sym}
use lib.Ieee.{binary64}
use lib.Ieee.Bits.{nan_bits_above}
use Rattle.file.proofs.words.is_nan.Goals as goal

pub returns : goal.returns
returns c = sym (nan_bits_above binary64 c.args.p)
