-- `bezier::evaluation::Walk::put_steps` meets its contract: the loop's invariant is that the steps left, written from here, give the whole, that `from` is the point at the parameter reached, and that it counts one evaluation more than the steps made. The measure is how many steps are left. Assumes nothing.
use Rattle.std.proofs.Common.{◌-◌}
use Rattle.bezier.proofs.Evaluations.{Stepping}
use Rattle.bezier.proofs.evaluation.Walk.put_steps.Given as goal

abbrev pub invariant-loop-i : goal.invariant-loop-i
invariant-loop-i l = Stepping l.self.curve.0 l.self.curve.1 l.self.curve.2 l.self.curve.3 l.self.steps l.initial.out l.out l.from l.i

abbrev pub decreases-loop-i : goal.decreases-loop-i
decreases-loop-i l = l.self.steps - l.i
