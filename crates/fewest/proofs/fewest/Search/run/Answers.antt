-- `fewest::fewest::Search::run` meets its contract: the layers left give the whole; the measure is what is left of `last`. Assumes nothing.
use mathlib.Core.Path.{◌∙◌}
use Rattle.ways.proofs.Steps.{loop_done}
use Rattle.ways.proofs.Told.{stopped, goes_on}
use Rattle.fewest.specs.Search.{layer_of}
use Rattle.fewest.proofs.Search.{layer-stops, layer-next}
use Rattle.fewest.proofs.fewest.Search.run.Goals as goal

pub returns-then-ne : goal.returns-then-ne
returns-then-ne c = let l = c.loop-self in let q = c.try_layer.ensures in
    record { task = q.task ∙ l.invariant.0; state = layer-stops c.args.self.now _ l.self _ l.invariant.0 l.invariant.1 c.loop-self-test.true q (stopped _ _ c.ne.ensures c.if-ne.true) }

pub loop-self-preserved : goal.loop-self-preserved
loop-self-preserved c = let l = c.loop-self in let q = c.try_layer.ensures in
    (q.task ∙ l.invariant.0, layer-next c.args.self.now _ l.self _ l.invariant.0 l.invariant.1 c.loop-self-test.true q (goes_on _ _ c.ne.ensures c.if-ne.false))

pub returns : goal.returns
returns c = let t = c.args.self.now.task in let l = c.loop-self in let e = l.invariant.0 in
    record { task = l.invariant.0; state = loop_done (λ i. layer_of t) t.last t.budget _ _ _ l.invariant.1 (rw e at c.loop-self-test.false) }
