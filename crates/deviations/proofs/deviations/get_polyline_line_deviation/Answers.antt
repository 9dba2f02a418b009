-- `deviations::deviations::get_polyline_line_deviation` meets its contract: a refusal is the table's; indices that passed it are what a stretch asks. Assumes nothing.
use native.Mathlib.Omega.{arith}
use Rattle.std.proofs.Common.{rules}
use Rattle.geo.proofs.Wrote.{outcome-refused, outcome-gives}
use Rattle.deviations.specs.Calls.{line_call}
use Rattle.deviations.proofs.Accepted.{line-accepted}
use Rattle.deviations.proofs.deviations.get_polyline_line_deviation.Goals as goal

pub returns-in_err-check_line : goal.returns-in_err-check_line
unfolding line_call
returns-in_err-check_line c = outcome-refused _ _ c.in_err-check_line.ensures _ _ (search rules)

pub returns : goal.returns
unfolding line_call
returns c = outcome-gives _ c.in_ok-check_line.ensures _ _ c.line_deviation.ensures

pub invariant_of-range : goal.invariant_of-range
invariant_of-range c = let a = c.args in
    let r = line-accepted a.points.now a.start a.end c.in_ok-check_line.ensures in
    record { start_inside = omega (arith, r.0); end_inside = omega (arith, r.1) }
