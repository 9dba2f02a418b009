-- `lap_text::text::put_row` meets its contract: the pieces of a line are stored one behind the other, and it has at most nine bytes. Assumes nothing.
use Rattle.lap_text.proofs.Written.{put-line}
use Rattle.lap_text.proofs.text.put_row.Goals as goal

pub returns : goal.returns
returns c = let a = c.args in put-line a.out.now _ _ a.at _ _ a.lap a.kind a.steps _ c.put_decimal-a.ensures c.letter.ensures c.put_decimal-b.ensures
