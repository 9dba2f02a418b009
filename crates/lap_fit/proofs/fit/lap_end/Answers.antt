-- `lap_fit::fit::lap_end` meets its contract: the start where there is no command, else the end of the last one. Assumes nothing.
use mathlib.Core.Path.{ap, ◌∙◌}
use Rattle.file.specs.Command.{decoded}
use Rattle.lap_fit.proofs.Lap.{end_none, end_read}
use Rattle.lap_fit.proofs.fit.lap_end.Goals as goal

pub returns-then-lap-eq0 : goal.returns-then-lap-eq0
returns-then-lap-eq0 c = let l = c.args.lap in end_none l.bytes.now c.args.start l.at l.count c.if-lap-eq0.true

pub returns : goal.returns
returns c = let l = c.args.lap in end_read l.bytes.now c.args.start _ l.at l.count c.read.result c.if-lap-eq0.false (c.read.ensures ∙ ap decoded c.command.ensures.bytes) c.end_point.ensures
