-- `file::command::read_commands` meets its contract: the commands that are left, read from here, give the whole. The measure is how many are left. Assumes nothing.
use mathlib.Core.Path.{ap}
use native.Mathlib.Omega.{arith}
use Rattle.file.specs.Command.{decoded}
use Rattle.file.proofs.Walks.{reading_start, reading_step, reading_done}
use Rattle.file.proofs.command.read_commands.Goals as goal

pub loop-i-init : goal.loop-i-init
loop-i-init c = let a = c.args in reading_start a.body.bytes.now a.body.at a.body.count a.kinds.now a.nums.now

pub read_to-requires : goal.read_to-requires
read_to-requires c = let p = c.loop-i.invariant in let k = p.long_kinds in let m = p.long_numbers in (omega arith, omega arith)

pub loop-i-preserved : goal.loop-i-preserved
loop-i-preserved c = let a = c.args in let l = c.loop-i in reading_step a.body.bytes.now a.body.at a.body.count a.kinds.now a.nums.now l.kinds _ l.nums _ l.i _ l.invariant c.loop-i-test.true (ap decoded c.command.ensures.bytes) c.read_to.ensures.kinds c.read_to.ensures.numbers

pub shape_of-kinds : goal.shape_of-kinds
shape_of-kinds c = c.loop-i.invariant.long_kinds

pub shape_of-nums : goal.shape_of-nums
shape_of-nums c = c.loop-i.invariant.long_numbers

pub returns : goal.returns
returns c = let a = c.args in let l = c.loop-i in record { kinds = (reading_done a.body.bytes.now a.body.at a.body.count a.kinds.now a.nums.now l.kinds l.nums l.i l.invariant c.loop-i-test.false).0; numbers = (reading_done a.body.bytes.now a.body.at a.body.count a.kinds.now a.nums.now l.kinds l.nums l.i l.invariant c.loop-i-test.false).1 }
