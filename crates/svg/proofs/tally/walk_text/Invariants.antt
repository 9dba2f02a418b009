-- `svg::tally::walk_text` meets its contract: what was counted so far and what the rest of the text adds give the whole. The measure is how much text is left. Assumes nothing.
use lib.ListN.{length}
use Rattle.svg.proofs.Counting.{Counting}
use Rattle.svg.proofs.tally.walk_text.Given as goal

abbrev pub invariant-loop-c : goal.invariant-loop-c
invariant-loop-c l = Counting l.s l.rest l.laps l.commands l.inside

abbrev pub decreases-loop-c : goal.decreases-loop-c
decreases-loop-c l = length l.rest
