-- `lap_text::text::put_total` meets its contract: the word, the digits behind it, and the line's end. Assumes nothing.
use native.Mathlib.Omega.{arith}
use Rattle.geo.specs.Walk.{list_from}
use Rattle.lap_text.specs.Text.{ascii}
use Rattle.lap_text.proofs.Written.{put_word, put_total}
use Rattle.lap_text.proofs.text.put_total.Goals as goal

pub returns : goal.returns
unfolding ascii list_from
returns c = let a = c.args in put_total a.out.now _ _ a.total a.at _ _ (put_word a.out.now _ a.at _ (omega (arith, c.requires)) c.copy.ensures.count c.copy.ensures.bytes) c.put_decimal-b.ensures
