-- `file::words::word_at` meets its contract: two halves. Assumes nothing.
use Rattle.file.specs.Bytes.{word_at}
use Rattle.file.proofs.words.word_at.Goals as goal

pub returns : goal.returns
unfolding word_at
returns c = rw (c.half_at-2.ensures.0, c.half_at.ensures.0)
