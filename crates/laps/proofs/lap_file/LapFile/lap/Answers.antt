-- `laps::lap_file::LapFile::lap` meets its contract: in a right table each entry tells where its lap stands. Assumes nothing.
use mathlib.Core.Path.{sym}
use native.Mathlib.Omega.{arith}
use Rattle.laps.proofs.Laps.{lap_at, table_fits}
use Rattle.laps.proofs.lap_file.LapFile.lap.Goals as goal

pub offset_at-requires : goal.offset_at-requires
offset_at-requires c = let f = table_fits _ c.args.self.table in omega arith

pub count_at-requires : goal.count_at-requires
count_at-requires c = let f = table_fits _ c.args.self.table in omega arith

pub invariant_of-result : goal.invariant_of-result
invariant_of-result c = record { inside = rw (c.offset_at.ensures.0, c.count_at.ensures.0) (lap_at _ c.args.self.table c.args.j c.requires).fits }

pub returns-clause-lap : goal.returns-clause-lap
returns-clause-lap c = rw (c.offset_at.ensures.0, c.count_at.ensures.0) (sym (lap_at _ c.args.self.table c.args.j c.requires).lap)

pub returns-clause-some : goal.returns-clause-some
returns-clause-some c = let w = lap_at _ c.args.self.table c.args.j c.requires in omega (arith, w.some, w.few)
