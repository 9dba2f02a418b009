-- `replay_root::differences` is safe and ends: at most i of the records passed differ. The measure is how many are left. Assumes nothing.
use Prim.Native.Nat.{◌≤◌, ◌-◌, ◌/◌}
use mathlib.Core.Path.{◌≡◌}
use lib.ListN.{length}
use Rattle.replay_root.proofs.differences.Given as goal

abbrev pub invariant-loop-i : goal.invariant-loop-i
invariant-loop-i l = (l.differ ≤ l.i) × (l.i-end ≡ length l.s / 16)

abbrev pub decreases-loop-i : goal.decreases-loop-i
decreases-loop-i l = l.i-end - l.i
