-- `laps::lap_file::Headed::has_table` meets its contract: the mark, the room of the table, and its entries. Assumes nothing.
use Rattle.std.proofs.Common.{ap, not}
use mathlib.Core.Path.{sym, ◌∙◌}
use borrow.Author.Tests.{not-true, not-false}
use native.Mathlib.Omega.{arith}
use Rattle.laps.proofs.Walks.{no_mark, no_room, by_walk}
use Rattle.laps.proofs.lap_file.Headed.has_table.Goals as goal

pub returns-then-not-has_mark : goal.returns-then-not-has_mark
returns-then-not-has_mark c = no_mark c.args.self.bytes.now (sym c.has_mark.ensures ∙ not-true _ (ap not c.if-not-has_mark.true))

pub returns-then-self-l : goal.returns-then-self-l
returns-then-self-l c = no_room c.args.self.bytes.now (sym c.has_mark.ensures ∙ not-false _ (ap not c.if-not-has_mark.false)) (omega arith)

pub returns : goal.returns
returns c = c.walks.ensures ∙ rw c.lap_count-l.ensures.0 (by_walk c.args.self.bytes.now (sym c.has_mark.ensures ∙ not-false _ (ap not c.if-not-has_mark.false)) (omega arith))
