-- `farthest::farthest::farthest_from_each` meets its contract. The invariant: the points left, searched from the best so far, end where the whole search ends. The measure is how many are left. Assumes nothing.
use Prim.Native.Nat.{◌-◌}
use Rattle.geo.specs.Lent.{point_at}
use Rattle.farthest.proofs.Scan.{Onward}
use Rattle.farthest.proofs.farthest.farthest_from_each.Given as goal

abbrev pub invariant-loop-i : goal.invariant-loop-i
invariant-loop-i g l = Onward g.V.Coordinates.squared (point_at l.stretch.points.now) l.stretch.start l.stretch.end l.i l.best

abbrev pub decreases-loop-i : goal.decreases-loop-i
decreases-loop-i g l = l.stretch.end - l.i
