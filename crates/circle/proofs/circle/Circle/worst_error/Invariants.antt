-- `circle::circle::Circle::worst_error` meets its contract: the loop's invariant is that the points left decide the greatest error. The measure is how many are left. Assumes nothing.
use mathlib.Core.Path.{◌≡◌}
use Prim.Native.Nat.{◌+◌, ◌-◌}
use Rattle.geo.specs.Lent.{point_at}
use Rattle.geo.specs.Walk.{fold}
use Rattle.circle.specs.Worst.{worse}
use Rattle.circle.specs.Kasa.{error_of, worst_error}
use Rattle.circle.proofs.circle.Circle.worst_error.Given as goal

abbrev pub invariant-loop-i : goal.invariant-loop-i
invariant-loop-i l = fold (λ k. worse (error_of l.self.center l.self.radius (point_at l.stretch.points.now k)) k) (l.stretch.end + 1 - l.i) l.i l.worst ≡ worst_error l.self.center l.self.radius (point_at l.stretch.points.now) l.stretch.start l.stretch.end

abbrev pub decreases-loop-i : goal.decreases-loop-i
decreases-loop-i l = l.stretch.end + 1 - l.i
