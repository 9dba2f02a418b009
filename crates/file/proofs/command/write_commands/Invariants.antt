-- `file::command::write_commands` meets its contract: the commands that are left, written from here, give the whole. The measure is how many are left. Assumes nothing.
use Prim.Native.Nat.{◌-◌}
use lib.ListN.{length}
use Rattle.file.proofs.Walks.{Putting}
use Rattle.file.proofs.command.write_commands.Given as goal

abbrev pub invariant-loop-i : goal.invariant-loop-i
invariant-loop-i l = Putting l.commands.kinds.now l.commands.nums.now (length l.commands.kinds.now) l.initial.out l.out l.to l.i

abbrev pub decreases-loop-i : goal.decreases-loop-i
decreases-loop-i l = length l.commands.kinds.now - l.i
