-- `lap_swap::swap::others_of` meets its contract: the laps that are left, and those before them, give the whole count. Assumes nothing.
use Rattle.laps.specs.File.{laps_of}
use Rattle.lap_swap.proofs.Turns.{Counting}
use Rattle.lap_swap.proofs.swap.others_of.Given as goal

abbrev pub invariant-loop-j : goal.invariant-loop-j
invariant-loop-j l = Counting l.both (laps_of l.fitted.bytes.now) l.k l.m l.j
