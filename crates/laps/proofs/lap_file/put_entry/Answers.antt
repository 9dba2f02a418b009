-- `laps::lap_file::put_entry` meets its contract: an offset, and a count behind it. Assumes nothing.
use Rattle.file.specs.Bytes.{u32_bytes}
use Rattle.file.proofs.Stores.{behind, length_u32}
use Rattle.laps.proofs.lap_file.put_entry.Goals as goal

pub returns : goal.returns
returns c = let a = c.args in behind (u32_bytes a.at) (u32_bytes a.n) a.out.now _ _ _ 4 (length_u32 _) c.put_u32.ensures c.put_u32-2.ensures
