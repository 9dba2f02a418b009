-- `fewest::fewest::Task::cut` meets its contract: a cut lies strictly inside its range, so that both parts are shorter, and the left leaves room for the right. The measure is hi - lo. Assumes nothing.
use Prim.Native.Nat.{◌-◌}
use Rattle.fewest.proofs.fewest.Task.+cut.Given as goal

abbrev pub decreases-cut : goal.decreases-cut
decreases-cut l = l.hi - l.lo
