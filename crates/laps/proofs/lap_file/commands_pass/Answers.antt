-- `laps::lap_file::commands_pass` meets its contract: the commands that are left decide the whole answer. The measure is how many are left. Assumes nothing.
use Rattle.std.proofs.Common.{ap, not}
use borrow.Author.Tests.{not-true, not-false}
use mathlib.Core.Path.{◌∙◌}
use Rattle.laps.proofs.Walks.{lap_begin, lap_go, lap_stop, lap-end}
use Rattle.laps.proofs.lap_file.commands_pass.Goals as goal

pub loop-i-init : goal.loop-i-init
loop-i-init g c = let a = c.args in lap_begin g.T.Test.asks a.opening a.body.bytes.now a.body.at a.body.count

pub returns-then-not-passes : goal.returns-then-not-passes
returns-then-not-passes g c = let b = c.args.body in lap_stop g.T.Test.asks c.loop-i.first b.bytes.now b.at b.count c.loop-i.i _ c.loop-i-test.true _ (c.passes.ensures ∙ ap (g.T.Test.asks c.loop-i.first) c.command.ensures.bytes) c.loop-i.invariant (not-true _ (ap not c.if-not-passes.true))

pub loop-i-preserved : goal.loop-i-preserved
loop-i-preserved g c = let b = c.args.body in lap_go g.T.Test.asks c.loop-i.first b.bytes.now b.at b.count c.loop-i.i _ c.loop-i-test.true _ (c.passes.ensures ∙ ap (g.T.Test.asks c.loop-i.first) c.command.ensures.bytes) c.loop-i.invariant (not-false _ (ap not c.if-not-passes.false))

pub returns : goal.returns
returns g c = let b = c.args.body in lap-end g.T.Test.asks c.loop-i.first b.bytes.now b.at b.count c.loop-i.i _ c.loop-i-test.false c.loop-i.invariant
