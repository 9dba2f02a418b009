-- `file::words::put_f64` meets its contract: the eight bytes of the pattern, copied in one piece. Assumes nothing.
use mathlib.Core.Path.{ap, ◌∙◌}
use lib.ListN.{length}
use lib.Seq.{sets}
use Rattle.file.proofs.Stores.{put_bytes, float_bytes, length_f64}
use Rattle.file.proofs.words.put_f64.Goals as goal

pub returns : goal.returns
returns c =
    let a = c.args in
    let e = c.copy_from_slice.ensures.after ∙ c.to_le_bytes.ensures ∙ float_bytes a.x _ c.pattern_of.ensures in
    put_bytes a.out.now _ a.at 8 (ap length e ∙ length_f64 a.x) c.requires ∙ ap (sets a.out.now a.at) e
