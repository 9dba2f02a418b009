-- `lap_rows::lap_rows::list_laps` meets its contract: the laps that are left, listed from here, give the whole text, and their steps the whole sum. Assumes nothing.
use Rattle.laps.specs.File.{laps_of}
use Rattle.lap_rows.proofs.Laps.{Listing}
use Rattle.lap_rows.proofs.lap_rows.list_laps.Given as goal

abbrev pub invariant-loop-j : goal.invariant-loop-j
invariant-loop-j l = Listing l.tolerance (laps_of l.file.bytes.now) l.initial.out l.out l.start l.to l.total l.j
