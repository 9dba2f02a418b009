-- `lap_text::text::put_rows` meets its contract: the rows that are left, written from here, give the whole, and so do their steps, added. Assumes nothing.
use lib.ListN.{length}
use Rattle.lap_text.proofs.Lines.{Lines}
use Rattle.lap_text.proofs.text.put_rows.Given as goal

abbrev pub invariant-loop-i : goal.invariant-loop-i
invariant-loop-i l = Lines l.kinds l.steps (length l.kinds) l.lap l.initial.out l.out l.at l.to l.sum l.i
