-- `lap_fit::fit::weight_at` meets its contract: any command but a Bezier counts once. Assumes nothing.
use Rattle.lap_fit.proofs.Lap.{once, weighed}
use Rattle.lap_fit.proofs.fit.weight_at.Goals as goal

pub returns-then-c-lt-BEZIER : goal.returns-then-c-lt-BEZIER
returns-then-c-lt-BEZIER c = let l = c.args.lap.body in once c.args.tolerance l.bytes.now _ _ _ c.command-c.ensures.bytes c.if-c-lt-BEZIER.true

pub returns : goal.returns
returns c = let l = c.args.lap.body in weighed c.args.tolerance l.bytes.now _ _ c.args.lap.start _ l.at c.args.i _ _ _ _ c.front.ensures c.lap_end-last.ensures c.command-c.ensures.bytes c.read.ensures c.weight.ensures
