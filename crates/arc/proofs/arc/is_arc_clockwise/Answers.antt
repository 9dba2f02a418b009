-- `arc::arc::is_arc_clockwise` meets its contract: a refusal by the check's cause, else the sign of the sum. Assumes nothing.
use mathlib.Core.Path.{ap}
use lib.Ieee.{Float, lt}
use Rattle.std.proofs.Common.{rules}
use Rattle.floats.specs.Ops.{+0}
use Rattle.geo.proofs.Wrote.{outcome-refused, outcome-gives}
use Rattle.arc.specs.Direction.{clockwise, direction_call}
use Rattle.arc.proofs.Passed.{direction_passed}
use Rattle.arc.proofs.arc.is_arc_clockwise.Goals as goal

pub returns-in_err-check_direction : goal.returns-in_err-check_direction
unfolding direction_call
returns-in_err-check_direction c = outcome-refused _ _ c.in_err-check_direction.ensures _ _ (search rules)

pub sum_turns-requires : goal.sum_turns-requires
sum_turns-requires c = let a = c.args in direction_passed a.points.now a.center c.in_ok-check_direction.ensures

pub returns : goal.returns
unfolding direction_call clockwise
returns c = outcome-gives _ c.in_ok-check_direction.ensures _ _ (ap (λ (x : Float). lt x +0) c.sum_turns.ensures)
