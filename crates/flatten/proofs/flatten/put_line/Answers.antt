-- `flatten::flatten::put_line` meets its contract: one command at a place. Assumes nothing.
use Rattle.flatten.specs.Written.{low_line}
use Rattle.pieces.proofs.Writing.{one_placed}
use Rattle.flatten.proofs.flatten.put_line.Goals as goal

pub returns : goal.returns
unfolding low_line
returns c = let a = c.args in one_placed _ a.at a.kinds.now _ a.nums.now _ c.put_command.ensures.kinds c.put_command.ensures.numbers
