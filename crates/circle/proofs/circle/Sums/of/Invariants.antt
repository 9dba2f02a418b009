-- `circle::circle::Sums::of` meets its contract: the loop's invariant is that the points left decide the whole sums. The measure is how many are left. Assumes nothing.
use mathlib.Core.Path.{◌≡◌}
use Prim.Native.Nat.{◌+◌, ◌-◌}
use Rattle.geo.specs.Lent.{point_at}
use Rattle.geo.specs.Walk.{fold}
use Rattle.circle.specs.Kasa.{plus, sums_of}
use Rattle.circle.proofs.circle.Sums.of.Given as goal

abbrev pub invariant-loop-i : goal.invariant-loop-i
invariant-loop-i l = fold (λ k. plus (point_at l.stretch.points.now k)) (l.stretch.end + 1 - l.i) l.i l.s ≡ sums_of (point_at l.stretch.points.now) l.stretch.start l.stretch.end

abbrev pub decreases-loop-i : goal.decreases-loop-i
decreases-loop-i l = l.stretch.end + 1 - l.i
