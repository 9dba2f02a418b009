-- `file::command::read_commands` meets its contract: the commands that are left, read from here, give the whole. The measure is how many are left. Assumes nothing.
use Prim.Native.Nat.{◌-◌}
use Rattle.file.proofs.Walks.{Reading}
use Rattle.file.proofs.command.read_commands.Given as goal

abbrev pub invariant-loop-i : goal.invariant-loop-i
invariant-loop-i l = Reading l.body.bytes.now l.body.at l.body.count l.initial.kinds l.kinds l.initial.nums l.nums l.i

abbrev pub decreases-loop-i : goal.decreases-loop-i
decreases-loop-i l = l.body.count - l.i
