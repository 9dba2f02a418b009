-- `lap_fit::fit::most_lap` meets its contract: what is counted, and what the commands that are left count as, gives the whole. The measure is how many are left. Assumes nothing.
use Prim.Native.Nat.{◌+◌, ◌-◌, ◌*◌, ◌≤◌}
use mathlib.Core.Path.{◌≡◌}
use Rattle.chain.specs.Chains.{cap}
use Rattle.file.specs.Command.{commands_at}
use Rattle.lap_fit.specs.Fit.{lap_end, most_lap}
use Rattle.lap_fit.proofs.Lap.{weights}
use Rattle.lap_fit.proofs.fit.most_lap.Given as goal

abbrev pub invariant-loop-i : goal.invariant-loop-i
invariant-loop-i l = (l.most ≤ 801)
    × (cap (l.most + weights l.tolerance l.lap.body.bytes.now (lap_end l.lap.start (commands_at l.lap.body.bytes.now l.lap.body.at l.i)) (l.lap.body.at + 73 * l.i) (l.lap.body.count - l.i)) ≡ cap (most_lap l.tolerance l.lap.start (commands_at l.lap.body.bytes.now l.lap.body.at l.lap.body.count)))
