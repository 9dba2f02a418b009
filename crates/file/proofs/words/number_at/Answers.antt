-- `file::words::number_at` meets its contract: the float of the word that stands there. Assumes nothing.
use mathlib.Core.Path.{ap, ◌∙◌}
use lib.Ieee.{binary64, of_bits}
use Rattle.file.specs.Bytes.{number_at}
use Rattle.file.proofs.words.number_at.Goals as goal

pub returns : goal.returns
unfolding number_at
returns c = c.float_of.ensures ∙ ap (of_bits binary64) c.word_at.ensures
