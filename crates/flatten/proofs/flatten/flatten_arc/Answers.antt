-- `flatten::flatten::flatten_arc` meets its contract: a refusal is the table's, and what passed it is what `draw_arc` asks. Assumes nothing.
use borrow.Author.Rules.{rules}
use native.Mathlib.Omega.{arith}
use Rattle.geo.proofs.Wrote.{commands-refused}
use Rattle.flatten.specs.Calls.{flatten_call}
use Rattle.flatten.proofs.Whole.{Accepted, arc-accepted, wrote-arc}
use Rattle.flatten.proofs.flatten.flatten_arc.Goals as goal
use Rattle.flatten.proofs.flatten.flatten_arc.Goals.{In_ok-check_arc}

pub returns-in_err-check_arc : goal.returns-in_err-check_arc
unfolding flatten_call
returns-in_err-check_arc c = commands-refused _ _ c.in_err-check_arc.ensures _ _ _ _ (search rules)

passed : (c : In_ok-check_arc) → Accepted _ _ _ _ _ _ c.in_ok-check_arc.ensures
passed c = arc-accepted _ _ _ _ _ _ c.in_ok-check_arc.ensures

pub point_at-b-requires : goal.point_at-b-requires
point_at-b-requires c = omega (arith, (passed c).nine-numbers)

pub point_at-o-requires : goal.point_at-o-requires
point_at-o-requires c = omega (arith, (passed (goal.at.point_at-o-requires c).In_ok-check_arc).nine-numbers)

pub point_at-d-requires : goal.point_at-d-requires
point_at-d-requires c = omega (arith, (passed (goal.at.point_at-d-requires c).In_ok-check_arc).nine-numbers)

pub draw_arc-requires : goal.draw_arc-requires
draw_arc-requires c = let v = passed (goal.at.draw_arc-requires c).In_ok-check_arc in (v.room-kinds, v.room-numbers)

pub returns : goal.returns
returns c = let a = c.args in
    wrote-arc a.kind a.command.now a.start _ _ _ a.tolerance a.kinds.now _ a.nums.now _ _ c.in_ok-check_arc.ensures c.point_at-b.ensures c.point_at-o.ensures c.point_at-d.ensures c.draw_arc.ensures
