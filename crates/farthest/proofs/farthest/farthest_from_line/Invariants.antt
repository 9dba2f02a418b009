-- `farthest::farthest::farthest_from_line` meets its contract. The invariant: the search is off the chord of the two ends, and the items left, searched from the best so far, end where the whole search ends. The measure is how many are left. Assumes nothing.
use Prim.Native.Nat.{◌-◌}
use mathlib.Core.Path.{◌≡◌}
use Rattle.farthest.specs.Measure.{chord_of}
use Rattle.farthest.proofs.Scan.{Onward}
use Rattle.farthest.proofs.farthest.farthest_from_line.Given as goal

abbrev pub invariant-loop-i : goal.invariant-loop-i
invariant-loop-i g l =
    let e = g.T.Ends in
    (l.search.chord ≡ chord_of (e.end_of (e.item l.track l.start)) (e.end_of (e.item l.track l.end)))
    × Onward e.measure (e.item l.track) l.start l.end l.i l.search.best

abbrev pub decreases-loop-i : goal.decreases-loop-i
decreases-loop-i g l = l.end - l.i
