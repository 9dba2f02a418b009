-- `file::command::write_commands` meets its contract: the commands that are left, written from here, give the whole. The measure is how many are left. Assumes nothing.
use native.Mathlib.Omega.{arith}
use lib.ListN.{length}
use Rattle.file.proofs.Walks.{putting_start, putting_step, putting_done}
use Rattle.file.proofs.command.write_commands.Goals as goal

pub loop-i-init : goal.loop-i-init
loop-i-init c = let a = c.args in putting_start a.commands.kinds.now a.commands.nums.now (length a.commands.kinds.now) a.out.now a.to

pub write_command-requires : goal.write_command-requires
write_command-requires c = let q = c.loop-i.invariant.long in omega arith

pub loop-i-preserved : goal.loop-i-preserved
loop-i-preserved c = let a = c.args in let l = c.loop-i in putting_step a.commands.kinds.now a.commands.nums.now (length a.commands.kinds.now) a.out.now a.to l.out _ l.i _ l.invariant c.loop-i-test.true c.at.ensures c.write_command.ensures

pub shape_of-out : goal.shape_of-out
shape_of-out c = c.loop-i.invariant.long

pub returns : goal.returns
returns c = let a = c.args in let l = c.loop-i in putting_done a.commands.kinds.now a.commands.nums.now (length a.commands.kinds.now) a.out.now a.to l.out l.i l.invariant c.loop-i-test.false
