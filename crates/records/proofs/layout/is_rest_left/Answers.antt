-- `layout::is_rest_left` meets its contract: the numbers, and the bytes where these are left. Assumes nothing.
use lib.Ieee.{nan}
use Rattle.records.specs.Words.{numbers_left, bytes_left}
use Rattle.records.proofs.layout.is_rest_left.Goals as goal

pub returns-then-are_left : goal.returns-then-are_left
unfolding numbers_left bytes_left
returns-then-are_left c = let e = c.are_left.ensures nan in rw (← e, c.if-are_left.true) (c.are_left-then-are_left.ensures 0)

pub returns-else-are_left : goal.returns-else-are_left
unfolding numbers_left bytes_left
returns-else-are_left c = let e = c.are_left.ensures nan in rw (← e, c.if-are_left.false)
