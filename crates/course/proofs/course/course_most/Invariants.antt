-- `course::course::course_most` meets its contract: what is counted, and what the commands left count as, gives the whole. The measure is how many are left. Assumes nothing.
use mathlib.Core.Path.{◌≡◌}
use Prim.Native.Nat.{◌+◌, ◌-◌, ◌≤◌}
use lib.ListN.{length}
use Rattle.geo.specs.Lent.{commands_from}
use Rattle.chain.specs.Joins.{joined}
use Rattle.chain.specs.Chains.{cap}
use Rattle.course.specs.Course.{lent_course}
use Rattle.course.specs.Walks.{weights_from}
use Rattle.course.proofs.course.course_most.Given as goal

abbrev pub invariant-loop-i : goal.invariant-loop-i
invariant-loop-i l = (cap (l.most + weights_from (joined l.tolerance) l.last (commands_from l.commands.kinds.now l.commands.nums.now (length l.commands.kinds.now - l.i) l.i)) ≡ cap (weights_from (joined l.tolerance) l.initial.last (lent_course l.commands.kinds.now l.commands.nums.now))) × (l.most ≤ 801) × (cap l.most ≡ l.most)

abbrev pub decreases-loop-i : goal.decreases-loop-i
decreases-loop-i l = length l.commands.kinds.now - l.i
