-- `trial::trial::Trials.measure` meets its contract: as for `arc_deviation`, with the length of the spoke that is handed in for a radius; and a greatest deviation that is not below the tolerance stays so, so the walk may end there; so does a step whose end alone decides. Assumes nothing.
use mathlib.Core.Path.{◌≡◌}
use Prim.Native.Nat.{◌+◌, ◌-◌}
use Rattle.geo.specs.Lent.{point_at}
use Rattle.geo.specs.Walk.{fold}
use Rattle.circle.specs.Three.{radius_from}
use Rattle.trial.specs.Deviation.{spoke_of, step_between, arc_deviation}
use Rattle.trial.proofs.Steps.{walk}
use Rattle.trial.proofs.trial.Trials.measure.Given as goal

abbrev pub invariant-loop-i : goal.invariant-loop-i
invariant-loop-i l = (l.p ≡ point_at l.self.stretch.points.now l.i) × (l.s ≡ spoke_of l.m (point_at l.self.stretch.points.now l.i)) × (fold (walk (λ j. step_between l.m l.r (point_at l.self.stretch.points.now j) (point_at l.self.stretch.points.now (j + 1)))) (l.self.stretch.end - l.i) l.i l.worst ≡ arc_deviation l.m (radius_from l.m (point_at l.self.stretch.points.now l.self.stretch.start)) (point_at l.self.stretch.points.now) l.self.stretch.start l.self.stretch.end)

abbrev pub decreases-loop-i : goal.decreases-loop-i
decreases-loop-i l = l.self.stretch.end - l.i
