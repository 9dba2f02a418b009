-- `pieces::pieces::put_noted` meets its contract: a place behind the column's end is none, and stays so. Assumes nothing.
use lib.Seq.{set_out}
use mathlib.Core.Path.{refl, sym}
use Rattle.pieces.proofs.Writing.{one-noted}
use Rattle.pieces.proofs.pieces.put_noted.Goals as goal

pub returns-then-at-notes : goal.returns-then-at-notes
returns-then-at-notes c = let a = c.args in one-noted a.c a.note a.at a.kinds.now _ a.nums.now _ a.notes.now _ c.put_command.ensures.kinds c.put_command.ensures.numbers refl

pub returns-else-at-notes : goal.returns-else-at-notes
returns-else-at-notes c = let a = c.args in one-noted a.c a.note a.at a.kinds.now _ a.nums.now _ a.notes.now _ c.put_command.ensures.kinds c.put_command.ensures.numbers (sym (set_out a.notes.now a.at a.note c.if-at-notes.false))
