-- `lap_fit::fit::fit_laps` meets its contract: the laps that are left, written from here, give the whole file, each fit in what is left of the output. Assumes nothing.
use Prim.Native.Nat.{◌≤◌}
use lib.ListN.{drop}
use Rattle.geo.specs.Lent.{origin}
use Rattle.laps.specs.File.{laps_of}
use Rattle.laps.proofs.Going.{Going}
use Rattle.lap_fit.specs.Fit.{fit_laps, laps_most}
use Rattle.lap_fit.proofs.fit.fit_laps.Given as goal

abbrev pub invariant-loop-j : goal.invariant-loop-j
invariant-loop-j l = (laps_most l.rule.rule.tolerance l.start (drop l.j (laps_of l.file.bytes.now)) ≤ 800)
    × Going l.initial.out l.out l.l l.j l.to (fit_laps l.rule.rule l.start (drop l.j (laps_of l.file.bytes.now))) (fit_laps l.rule.rule origin (laps_of l.file.bytes.now))
