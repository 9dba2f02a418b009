-- `deviations::deviations::get_polyline_arc_deviation` meets its contract: a refusal is the table's; two points or more are a stretch. Assumes nothing.
use Rattle.std.proofs.Common.{rules}
use Rattle.geo.proofs.Wrote.{outcome-refused, outcome-gives}
use Rattle.deviations.specs.Calls.{arc_call}
use Rattle.deviations.proofs.Accepted.{no_step}
use Rattle.deviations.proofs.deviations.get_polyline_arc_deviation.Goals as goal

pub returns-in_err-check_arc : goal.returns-in_err-check_arc
unfolding arc_call
returns-in_err-check_arc c = outcome-refused _ _ c.in_err-check_arc.ensures _ _ (search rules)

pub returns-then-n-lt2 : goal.returns-then-n-lt2
unfolding arc_call
returns-then-n-lt2 c = outcome-gives _ c.in_ok-check_arc.ensures _ _ (no_step _ _ _ _ c.if-n-lt2.true)

pub returns : goal.returns
unfolding arc_call
returns c = outcome-gives _ c.in_ok-check_arc.ensures _ _ c.arc_deviation.ensures
