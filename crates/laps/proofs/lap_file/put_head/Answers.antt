-- `laps::lap_file::put_head` meets its contract: the mark, and the lap count behind it. Assumes nothing.
use mathlib.Core.Path.{sym, ap}
use native.Mathlib.Omega.{arith}
use lib.Seq.{sets}
use Rattle.std.proofs.lemmas.List.Edits.{sets-eq}
use Rattle.file.specs.Bytes.{u32_bytes}
use Rattle.laps.specs.File.{mark}
use Rattle.laps.proofs.lap_file.put_head.Goals as goal

pub returns : goal.returns
returns c = let a = c.args in rw (c.put_u32.ensures, c.copy_from_slice.ensures.after) (ap (λ r. sets r 4 (u32_bytes a.l)) (sym (sets-eq mark a.out.now 0 (omega arith))))
