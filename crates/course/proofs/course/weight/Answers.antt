-- `course::course::weight` meets its contract: a Bezier counts as its steps, any other command as one. Assumes nothing.
use mathlib.Core.Path.{sym, ap, ◌∙◌}
use Rattle.chain.specs.Joins.{joined}
use Rattle.chain.specs.Chains.{cap}
use Rattle.chain.proofs.Steps.{steps_capped}
use Rattle.course.proofs.Most.{bezier_weight}
use Rattle.course.proofs.course.weight.Goals as goal

pub returns-in-Bezier : goal.returns-in-Bezier
unfolding joined
returns-in-Bezier c = rw c.in-Bezier.is (steps_capped _ _ _ _ _ _ _ c.raise_controls-q.ensures c.bezier_steps.ensures ∙ ap cap (sym (bezier_weight _)))
