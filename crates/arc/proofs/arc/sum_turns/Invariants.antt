-- `arc::arc::sum_turns` meets its contract: the loop's invariant is that the neighbours left decide the whole sum. The measure is how many are left. Assumes nothing.
use mathlib.Core.Path.{◌≡◌}
use Prim.Native.Nat.{◌+◌, ◌-◌, ◌/◌}
use lib.ListN.{length}
use Rattle.floats.specs.Ops.{◌⊕◌}
use Rattle.geo.specs.Lent.{pair_at}
use Rattle.geo.specs.Walk.{fold}
use Rattle.arc.specs.Direction.{turn_at, cross_sum}
use Rattle.arc.proofs.arc.sum_turns.Given as goal

abbrev pub invariant-loop-i : goal.invariant-loop-i
invariant-loop-i l = fold (λ k s. s ⊕ turn_at l.center (pair_at l.points k) (pair_at l.points (k + 1))) (length l.points / 2 - 1 - l.i) l.i l.sum ≡ cross_sum (pair_at l.points) 0 (length l.points / 2 - 1) l.center

abbrev pub decreases-loop-i : goal.decreases-loop-i
decreases-loop-i l = length l.points / 2 - l.i
