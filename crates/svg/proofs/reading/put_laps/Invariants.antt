-- `svg::reading::put_laps` meets its contract: the laps that are left, written from here, give the whole file. Assumes nothing.
use Rattle.svg.proofs.Coursing.{Coursing}
use Rattle.svg.proofs.reading.put_laps.Given as goal

abbrev pub invariant-loop-j : goal.invariant-loop-j
invariant-loop-j l = Coursing l.s l.laps l.initial.out l.out l.rest l.to l.j
