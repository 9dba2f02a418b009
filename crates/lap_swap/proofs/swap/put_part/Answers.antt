-- `lap_swap::swap::put_part` meets its contract: whether the next lap is replaced too is told by the recorded file. Assumes nothing.
use mathlib.Core.Path.{sym, ◌∙◌}
use Rattle.laps.specs.File.{laps_of}
use Rattle.lap_swap.proofs.Body.{two_stored, one_stored}
use Rattle.lap_swap.proofs.swap.put_part.Goals as goal

pub put_file-requires : goal.put_file-requires
put_file-requires c = let a = c.args in rw (two_stored a.k (laps_of a.recorded.bytes.now) (laps_of a.fitted.bytes.now) a.part.bytes.now a.part.count a.part.next c.first-new.result c.first-new.ensures c.second.result c.second.ensures (sym c.if-is_some.true ∙ c.is_some.ensures ∙ c.next_of.ensures.lacks)) at c.requires

pub returns-then-is_some : goal.returns-then-is_some
returns-then-is_some c = let a = c.args in rw (two_stored a.k (laps_of a.recorded.bytes.now) (laps_of a.fitted.bytes.now) a.part.bytes.now a.part.count a.part.next c.first-new.result c.first-new.ensures c.second.result c.second.ensures (sym c.if-is_some.true ∙ c.is_some.ensures ∙ c.next_of.ensures.lacks)) c.put_file.ensures

pub put_file-requires-2 : goal.put_file-requires-2
put_file-requires-2 c = let a = c.args in rw (one_stored a.k (laps_of a.recorded.bytes.now) (laps_of a.fitted.bytes.now) a.part.bytes.now a.part.count a.part.next c.first-new.result c.first-new.ensures (sym c.if-is_some.false ∙ c.is_some.ensures ∙ c.next_of.ensures.lacks)) at c.requires

pub returns : goal.returns
returns c = let a = c.args in rw (one_stored a.k (laps_of a.recorded.bytes.now) (laps_of a.fitted.bytes.now) a.part.bytes.now a.part.count a.part.next c.first-new.result c.first-new.ensures (sym c.if-is_some.false ∙ c.is_some.ensures ∙ c.next_of.ensures.lacks)) c.put_file-2.ensures
