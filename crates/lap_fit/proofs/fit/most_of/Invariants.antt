-- `lap_fit::fit::most_of` meets its contract: the laps that are left, and the count so far, give the whole. Assumes nothing.
use Prim.Native.Nat.{◌+◌, ◌≤◌}
use mathlib.Core.Path.{◌≡◌}
use lib.ListN.{drop}
use Rattle.geo.specs.Lent.{origin}
use Rattle.chain.specs.Chains.{cap}
use Rattle.laps.specs.File.{laps_of}
use Rattle.lap_fit.specs.Fit.{laps_most}
use Rattle.lap_fit.proofs.fit.most_of.Given as goal

abbrev pub invariant-loop-j : goal.invariant-loop-j
invariant-loop-j l = (l.most ≤ 801) × (cap (l.most + laps_most l.tolerance l.start (drop l.j (laps_of l.file.bytes.now))) ≡ cap (laps_most l.tolerance origin (laps_of l.file.bytes.now)))
