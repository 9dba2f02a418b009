-- `fewest::fewest::Search::try_point` meets its contract: a point of the layer, or another. Assumes nothing.
use mathlib.Core.Path.{refl, sym, ◌∙◌}
use Rattle.ways.proofs.Steps.{point_now, point_else}
use Rattle.fewest.specs.Search.{state_of, test_of}
use Rattle.fewest.proofs.Search.{level-at}
use Rattle.fewest.proofs.fewest.Search.try_point.Goals as goal

pub returns-then-from-self : goal.returns-then-from-self
returns-then-from-self c = let s = c.args.self.now in let q = c.try_later.ensures in
    record { task = q.task; finished = q.finished; state = point_now (test_of s.task) s.task.last s.task.budget c.args.u (state_of s) _ (level-at s.reached c.args.u ∙ sym c.from.ensures ∙ c.if-from-self.true) q.state }

pub returns-else-from-self : goal.returns-else-from-self
returns-else-from-self c = let s = c.args.self.now in
    record { task = refl; finished = refl; state = point_else (test_of s.task) s.task.last s.task.budget c.args.u (state_of s) (λ e. c.if-from-self.false (c.from.ensures ∙ sym (level-at s.reached c.args.u) ∙ e)) }
