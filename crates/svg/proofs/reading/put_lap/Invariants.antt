-- `svg::reading::put_lap` meets its contract: the commands that are left, written from here, give the whole lap. The measure is how much of the text is left. Assumes nothing.
use lib.ListN.{length}
use Rattle.svg.proofs.Lapping.{Lapping}
use Rattle.svg.proofs.reading.put_lap.Given as goal

abbrev pub invariant-loop-c : goal.invariant-loop-c
invariant-loop-c l = Lapping l.s l.initial.out l.out l.to l.rest l.commands

abbrev pub decreases-loop-c : goal.decreases-loop-c
decreases-loop-c l = length l.rest
