-- `circle::circle::are_points_collinear_3d` meets its contract: each return is the row of the table that its tests led to. Assumes nothing.
use borrow.Author.Tests.{lt-ltb, le-ltb}
use Rattle.std.proofs.Common.{rules, ap, not}
use Rattle.geo.proofs.Rows.{not_fails, not_passes}
use Rattle.geo.proofs.Wrote.{number-positive, outcome-refused, outcome-gives}
use Rattle.circle.specs.Calls.{collinear_call}
use Rattle.circle.proofs.Passed.{collinear-refused, collinear-tolerance, collinear-accepted}
use Rattle.circle.proofs.circle.are_points_collinear_3d.Goals as goal

pub returns-in_err-check_points : goal.returns-in_err-check_points
unfolding collinear_call
returns-in_err-check_points c = let a = c.args in outcome-refused _ _ (collinear-refused a.points.now a.tolerance _ c.in_err-check_points.ensures (number-positive _)) _ _ (search rules)

pub returns-then-not-is_tolerance : goal.returns-then-not-is_tolerance
unfolding collinear_call
returns-then-not-is_tolerance c = let a = c.args in
    rw (← collinear-tolerance a.points.now a.tolerance c.in_ok-check_points.ensures (not_fails _ _ c.is_tolerance.ensures (ap not c.if-not-is_tolerance.true)))

pub returns-then-n-lt3 : goal.returns-then-n-lt3
unfolding collinear_call
returns-then-n-lt3 c = let a = c.args in
    outcome-gives _ (collinear-accepted a.points.now a.tolerance c.in_ok-check_points.ensures (not_passes _ _ c.is_tolerance.ensures (ap not c.if-not-is_tolerance.false))) _ _ (rw (lt-ltb _ _ c.if-n-lt3.true))

pub returns : goal.returns
unfolding collinear_call
returns c = let a = c.args in
    outcome-gives _ (collinear-accepted a.points.now a.tolerance c.in_ok-check_points.ensures (not_passes _ _ c.is_tolerance.ensures (ap not c.if-not-is_tolerance.false))) _ _ (rw (le-ltb _ _ c.if-n-lt3.false, c.is_collinear.ensures))
