-- `lap_swap::swap::next_of` meets its contract: by the lap behind lap k, if the file has one. Assumes nothing.
use mathlib.Core.Path.{sym, ap, ◌∙◌}
use native.Mathlib.Omega.{arith}
use Rattle.laps.specs.File.{laps_of, lacks}
use Rattle.lap_swap.proofs.Next.{next_not, next-end, next-is}
use Rattle.lap_swap.proofs.swap.next_of.Goals as goal

pub returns-then-lap_count-k-clause-lacks : goal.returns-then-lap_count-k-clause-lacks
returns-then-lap_count-k-clause-lacks c = let a = c.args in (next_not (laps_of a.file.bytes.now) a.k (next-end a.file.bytes.now a.k (omega arith))).0

pub returns-then-lap_count-k-clause-lap : goal.returns-then-lap_count-k-clause-lap
returns-then-lap_count-k-clause-lap c = let a = c.args in (next_not (laps_of a.file.bytes.now) a.k (next-end a.file.bytes.now a.k (omega arith))).1

pub returns-then-lacks_move-clause-lacks : goal.returns-then-lacks_move-clause-lacks
returns-then-lacks_move-clause-lacks c = let a = c.args in (next-is (laps_of a.file.bytes.now) a.k _ c.lap-lap.ensures.lap (sym c.lacks_move.ensures ∙ c.if-lacks_move.true)).0

pub returns-then-lacks_move-clause-lap : goal.returns-then-lacks_move-clause-lap
returns-then-lacks_move-clause-lap c = let a = c.args in (next-is (laps_of a.file.bytes.now) a.k _ c.lap-lap.ensures.lap (sym c.lacks_move.ensures ∙ c.if-lacks_move.true)).1

pub returns-else-lacks_move-clause-lacks : goal.returns-else-lacks_move-clause-lacks
returns-else-lacks_move-clause-lacks c = let a = c.args in (next_not (laps_of a.file.bytes.now) a.k (ap lacks (sym c.lap-lap.ensures.lap) ∙ sym c.lacks_move.ensures ∙ c.if-lacks_move.false)).0

pub returns-else-lacks_move-clause-lap : goal.returns-else-lacks_move-clause-lap
returns-else-lacks_move-clause-lap c = let a = c.args in (next_not (laps_of a.file.bytes.now) a.k (ap lacks (sym c.lap-lap.ensures.lap) ∙ sym c.lacks_move.ensures ∙ c.if-lacks_move.false)).1
