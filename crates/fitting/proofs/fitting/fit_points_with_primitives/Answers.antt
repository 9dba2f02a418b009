-- `fitting::fitting::fit_points_with_primitives` meets its contract: what `fit_points_recursive` promises of the range from the first point to the last; the ranges are reckoned from the pieces. Assumes nothing.
use Rattle.std.proofs.Common.{rules}
use lib.ListN.{length}
use Rattle.fitting.proofs.Accepted.{wrote-to, left-to}
use Rattle.fitting.proofs.Examined.{answer-few, answer-fitted, answer-refused}
use Rattle.fitting.proofs.fitting.fit_points_with_primitives.Goals as goal

pub ranges_of-requires : goal.ranges_of-requires
ranges_of-requires c = let a = c.args in
    let w = wrote-to a.points.now a.tolerance _ _ _ _ _ _ c.saturating_sub-last.ensures a.kinds.now _ a.nums.now _ c.in_ok-count.ensures.commands in
    answer-few a.points.now a.tolerance (length a.kinds.now) (length a.nums.now) (length a.worst.now) _ w.says

pub returns : goal.returns
returns c = let a = c.args in
    let w = wrote-to a.points.now a.tolerance _ _ _ _ _ _ c.saturating_sub-last.ensures a.kinds.now _ a.nums.now _ c.in_ok-count.ensures.commands in
    record {
      says = answer-fitted a.points.now a.tolerance (length a.kinds.now) (length a.nums.now) (length a.worst.now) _ _ w.says c.ranges_of.ensures;
      kinds = w.kinds;
      numbers = w.numbers;
      worst = left-to a.points.now a.tolerance _ _ _ _ _ _ c.saturating_sub-last.ensures a.worst.now _ c.in_ok-count.ensures.worst;
    }

pub returns-in_err-count : goal.returns-in_err-count
returns-in_err-count c = let a = c.args in
    let w = wrote-to a.points.now a.tolerance _ _ _ _ _ _ c.saturating_sub-last.ensures a.kinds.now _ a.nums.now _ c.in_err-count.ensures.commands in
    record {
      says = answer-refused a.points.now a.tolerance (length a.kinds.now) (length a.nums.now) (length a.worst.now) _ w.says _ (search rules);
      kinds = w.kinds;
      numbers = w.numbers;
      worst = left-to a.points.now a.tolerance _ _ _ _ _ _ c.saturating_sub-last.ensures a.worst.now _ c.in_err-count.ensures.worst;
    }
