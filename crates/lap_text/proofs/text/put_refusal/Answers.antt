-- `lap_text::text::put_refusal` meets its contract: the word, the digits behind it, and the line's end. Assumes nothing.
use native.Mathlib.Omega.{arith}
use Rattle.geo.specs.Walk.{list_from}
use Rattle.lap_text.specs.Text.{ascii}
use Rattle.lap_text.proofs.Written.{put_refused}
use Rattle.lap_text.proofs.text.put_refusal.Goals as goal

pub returns : goal.returns
unfolding ascii list_from
returns c = let a = c.args in put_refused a.out.now _ _ a.number _ _ c.copy-at.ensures.count (omega (arith, c.requires)) c.copy-at.ensures.bytes c.put_decimal-end.ensures
