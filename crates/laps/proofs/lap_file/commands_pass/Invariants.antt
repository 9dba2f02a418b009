-- `laps::lap_file::commands_pass` meets its contract: the commands that are left decide the whole answer. The measure is how many are left. Assumes nothing.
use Prim.Native.Nat.{◌+◌, ◌-◌, ◌*◌}
use mathlib.Core.Path.{◌≡◌}
use Rattle.file.specs.Command.{commands_at}
use Rattle.laps.specs.File.{lap_ok}
use Rattle.laps.proofs.lap_file.commands_pass.Given as goal

abbrev pub invariant-loop-i : goal.invariant-loop-i
invariant-loop-i g l = lap_ok g.T.Test.asks l.first (commands_at l.body.bytes.now (l.body.at + 73 * l.i) (l.body.count - l.i)) ≡ lap_ok g.T.Test.asks l.fn.opening (commands_at l.body.bytes.now l.body.at l.body.count)
