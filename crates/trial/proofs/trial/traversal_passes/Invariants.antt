-- `trial::trial::traversal_passes` meets its contract: the loop's invariant is a record of where the walk stands: the offset, the half and the count W so far, and no point at the centre. The measure is how many steps are left. Assumes nothing.
use mathlib.Core.Path.{◌≡◌}
use Prim.Native.Nat.{◌-◌}
use Rattle.geo.specs.Lent.{point_at}
use Rattle.trial.specs.Traversal.{offset_of}
use Rattle.trial.proofs.Going.{Going}
use Rattle.trial.proofs.trial.traversal_passes.Given as goal

abbrev pub invariant-loop-i : goal.invariant-loop-i
invariant-loop-i l = (l.q0 ≡ offset_of l.m (point_at l.stretch.points.now l.stretch.start)) × Going (λ j. offset_of l.m (point_at l.stretch.points.now j)) l.stretch.start l.stretch.end l.q l.h l.w l.i

abbrev pub decreases-loop-i : goal.decreases-loop-i
decreases-loop-i l = l.stretch.end - l.i
