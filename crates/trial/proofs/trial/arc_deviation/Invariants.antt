-- `trial::trial::arc_deviation` meets its contract: the loop's invariant is that the steps left decide the greatest deviation, and that p and s are the point and the spoke reached. The measure is how many steps are left. Assumes nothing.
use mathlib.Core.Path.{◌≡◌}
use Prim.Native.Nat.{◌+◌, ◌-◌}
use Rattle.geo.specs.Lent.{point_at}
use Rattle.geo.specs.Walk.{fold}
use Rattle.trial.specs.Deviation.{spoke_of, step_between, arc_deviation}
use Rattle.trial.proofs.Steps.{walk}
use Rattle.trial.proofs.trial.arc_deviation.Given as goal

abbrev pub invariant-loop-i : goal.invariant-loop-i
invariant-loop-i l = (l.p ≡ point_at l.stretch.points.now l.i) × (l.s ≡ spoke_of l.arc.center (point_at l.stretch.points.now l.i)) × (fold (walk (λ j. step_between l.arc.center l.arc.radius (point_at l.stretch.points.now j) (point_at l.stretch.points.now (j + 1)))) (l.stretch.end - l.i) l.i l.worst ≡ arc_deviation l.arc.center l.arc.radius (point_at l.stretch.points.now) l.stretch.start l.stretch.end)

abbrev pub decreases-loop-i : goal.decreases-loop-i
decreases-loop-i l = l.stretch.end - l.i
