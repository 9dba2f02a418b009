-- `laps::lap_file::lacks_move` meets its contract: by the first byte of the lap. Assumes nothing.
use borrow.Author.Tests.{eq-eqb}
use Rattle.laps.proofs.Walks.{lacks-none, lacks-first}
use Rattle.laps.proofs.lap_file.lacks_move.Goals as goal

pub returns-then-lap-ne0 : goal.returns-then-lap-ne0
returns-then-lap-ne0 c = let l = c.args.lap in lacks-first l.bytes.now l.at l.count c.if-lap-ne0.true l.inside

pub returns-else-lap-ne0 : goal.returns-else-lap-ne0
returns-else-lap-ne0 c = let l = c.args.lap in rw (eq-eqb _ _ c.if-lap-ne0.false) (lacks-none l.bytes.now l.at l.count c.if-lap-ne0.false)
