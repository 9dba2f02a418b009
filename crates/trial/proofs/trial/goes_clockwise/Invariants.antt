-- `trial::trial::goes_clockwise` meets its contract: the loop's invariant is that the steps left decide the whole sum, and that p is the point reached. The measure is how many steps are left. Assumes nothing.
use mathlib.Core.Path.{◌≡◌}
use Prim.Native.Nat.{◌+◌, ◌-◌}
use Rattle.floats.specs.Ops.{◌⊕◌}
use Rattle.geo.specs.Vector.{flatten}
use Rattle.geo.specs.Lent.{point_at}
use Rattle.geo.specs.Walk.{fold}
use Rattle.arc.specs.Direction.{turn_at, cross_sum}
use Rattle.trial.proofs.trial.goes_clockwise.Given as goal

abbrev pub invariant-loop-i : goal.invariant-loop-i
invariant-loop-i l = (l.p ≡ flatten (point_at l.stretch.points.now l.i)) × (fold (λ j x. x ⊕ turn_at l.m (flatten (point_at l.stretch.points.now j)) (flatten (point_at l.stretch.points.now (j + 1)))) (l.stretch.end - l.i) l.i l.sum ≡ cross_sum (λ j. flatten (point_at l.stretch.points.now j)) l.stretch.start l.stretch.end l.m)

abbrev pub decreases-loop-i : goal.decreases-loop-i
decreases-loop-i l = l.stretch.end - l.i
