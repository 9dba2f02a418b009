-- `farthest::farthest::farthest_from_segment` meets its contract. The invariant: the points left, searched from the best so far, end where the whole search ends. The measure is how many are left. Assumes nothing.
use Prim.Native.Nat.{◌+◌, ◌-◌, ◌≤◌, ◌<◌}
use mathlib.Core.Path.{◌≡◌}
use Rattle.geo.specs.Lent.{point_at}
use Rattle.farthest.specs.Farthest.{farthest_of, farthest_in}
use Rattle.farthest.proofs.farthest.farthest_from_segment.Given as goal

abbrev pub invariant-loop-i : goal.invariant-loop-i
invariant-loop-i g l = (l.stretch.start < l.i) × (l.i ≤ l.stretch.start + 1 + l.stretch.end)
    × (farthest_of (λ j. g.V.Coordinates.squared (point_at l.stretch.points.now l.stretch.start) (point_at l.stretch.points.now l.stretch.end) (point_at l.stretch.points.now j)) (l.stretch.end - l.i) l.i l.best ≡ farthest_in g.V.Coordinates.squared (point_at l.stretch.points.now) l.stretch.start l.stretch.end)

abbrev pub decreases-loop-i : goal.decreases-loop-i
decreases-loop-i g l = l.stretch.end - l.i
