-- `circle::circle::fit_circle_to_points_3d` meets its contract: a refusal by the check's cause, else the circle. Assumes nothing.
use native.Mathlib.Omega.{arith}
use borrow.Author.Tests.{lt-ltb, le-ltb}
use Rattle.std.proofs.Common.{rules}
use Rattle.geo.proofs.Wrote.{outcome-refused, outcome-gives}
use Rattle.circle.specs.Calls.{fitted_call}
use Rattle.circle.proofs.Passed.{points_passed}
use Rattle.circle.proofs.circle.fit_circle_to_points_3d.Goals as goal

pub returns-in_err-check_points : goal.returns-in_err-check_points
unfolding fitted_call
returns-in_err-check_points c = outcome-refused _ _ c.in_err-check_points.ensures _ _ (search rules)

pub returns-then-n-lt3 : goal.returns-then-n-lt3
unfolding fitted_call
returns-then-n-lt3 c = outcome-gives _ c.in_ok-check_points.ensures _ _ (rw (lt-ltb _ _ c.if-n-lt3.true))

pub of-requires : goal.of-requires
of-requires c = let f = points_passed c.args.points.now c.in_ok-check_points.ensures in omega arith

pub returns : goal.returns
unfolding fitted_call
returns c = outcome-gives _ c.in_ok-check_points.ensures _ _ (rw (le-ltb _ _ c.if-n-lt3.false) c.of.ensures)
