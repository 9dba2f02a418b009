-- `file::words::half_at` meets its contract: four bytes, each below 256. Assumes nothing.
use mathlib.Core.Path.{◌∙◌}
use native.Mathlib.Omega.{arith}
use Rattle.file.specs.Bytes.{half_at}
use Rattle.file.proofs.words.half_at.Goals as goal

pub returns : goal.returns
unfolding half_at
returns c = (c.from.ensures ∙ c.from_le_bytes.ensures, omega arith)
