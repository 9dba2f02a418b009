-- `ranges::ranges::Sheet::fit_parts` meets its contract. The invariant: what is written and what is left are the commands of all pieces. The measure is what is left of the range, and within that the part
-- that is looked at.
use Prim.Native.Nat.{◌+◌, ◌-◌, ◌*◌}
use mathlib.Core.Path.{◌≡◌}
use lib.ListN.{length}
use Rattle.geo.specs.Domain.{most_points}
use Rattle.geo.specs.Lent.{point_at}
use Rattle.pieces.specs.Written.{noted_in}
use Rattle.pieces.proofs.Writing.{Progress}
use Rattle.ranges.specs.Ranges.{left_in, Stands}
use Rattle.ranges.specs.Sheet.{Lent}
use Rattle.ranges.proofs.ranges.Sheet.fit_parts.Given as goal

abbrev pub invariant-loop-w : goal.invariant-loop-w
invariant-loop-w l = let t = l.fit.route in let s = l.initial.self in
    Stands t.start t.end l.at l.ends l.w
    × Progress (noted_in l.fit.rule.rule (point_at t.points.now) t.start t.end) (left_in l.fit.rule.rule (point_at t.points.now) l.ends l.w) l.at (l.w.place - l.at) s.kinds.now l.self.kinds.now s.nums.now l.self.nums.now s.notes.now l.self.notes.now
    × (length l.ends ≡ length l.initial.ends)
    × Lent s l.self

abbrev pub decreases-loop-w : goal.decreases-loop-w
decreases-loop-w l = (l.fit.route.end - l.w.lo) * most_points + (l.w.hi - l.w.lo)
