-- `lap_swap::swap::copy_lap` meets its contract: the bytes that are left to copy, stored from here, give the whole. Assumes nothing.
use Prim.Native.Nat.{◌+◌, ◌-◌, ◌*◌}
use mathlib.Core.Path.{◌≡◌}
use lib.ListN.{take, drop}
use lib.Seq.{sets}
use Rattle.lap_swap.proofs.swap.copy_lap.Given as goal

abbrev pub invariant-loop-i : goal.invariant-loop-i
invariant-loop-i l = sets l.out (l.to + l.i) (take (73 * l.lap.count - l.i) (drop (l.lap.at + l.i) l.lap.bytes.now)) ≡ sets l.initial.out l.to (take (73 * l.lap.count) (drop l.lap.at l.lap.bytes.now))
