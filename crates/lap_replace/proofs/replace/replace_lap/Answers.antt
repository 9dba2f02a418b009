-- `lap_replace::replace::replace_lap` meets its contract: a refusal is the table's, and what passed it is what `replace_laps` asks. Assumes nothing.
use Rattle.std.proofs.Common.{rules}
use native.Mathlib.Omega.{arith}
use Rattle.geo.proofs.Tolerance.{tolerance-positive}
use Rattle.geo.proofs.Wrote.{wrote-refused}
use Rattle.laps.specs.File.{laps_of}
use Rattle.laps.proofs.Rows.{wrote-bytes}
use Rattle.lap_checks.specs.Checks.{lent_new}
use Rattle.lap_replace.specs.Replace.{replace_lap}
use Rattle.lap_checks.proofs.Rows.{replace_passed, past_7, most_told}
use Rattle.lap_replace.proofs.replace.replace_lap.Goals as goal

pub returns-in_err-found : goal.returns-in_err-found
unfolding replace_lap
returns-in_err-found c = wrote-refused _ _ c.in_err-found.ensures.row _ _ _ _ (search rules)

pub invariant_of-rule : goal.invariant_of-rule
invariant_of-rule c = let a = c.args in let p = replace_passed a.recorded.now a.fitted.now a.lap (lent_new a.tolerance (laps_of a.recorded.now) a.lap a.kinds.now a.nums.now) a.tolerance _ c.in_ok-found.ensures.row in
    record { positive = rw c.of_laps.ensures (tolerance-positive a.tolerance p.0.p6) }

pub replace_laps-requires : goal.replace_laps-requires
replace_laps-requires c = let a = c.args in let e = c.in_ok-found.ensures.same in let p = replace_passed a.recorded.now a.fitted.now a.lap (lent_new a.tolerance (laps_of a.recorded.now) a.lap a.kinds.now a.nums.now) a.tolerance _ c.in_ok-found.ensures.row in
    let o = most_told (lent_new a.tolerance (laps_of a.recorded.now) a.lap a.kinds.now a.nums.now) a.lap a.recorded.now a.fitted.now _ c.in_ok-found.ensures.own p.1 in
    rw (c.of_laps.ensures, e.0, e.1, e.2, e.3) ((past_7 a.lap a.recorded.now p.0.p7).0, (past_7 a.lap a.recorded.now p.0.p7).1, p.1, p.2, o.0, omega (arith, c.if-found-le-FEW.true), omega arith)

pub returns-then-found-le-FEW : goal.returns-then-found-le-FEW
unfolding replace_lap
returns-then-found-le-FEW c = let e = c.in_ok-found.ensures.same in wrote-bytes _ c.in_ok-found.ensures.row _ _ _ _ (rw (c.of_laps.ensures, e.0, e.1, e.2, e.3) at c.replace_laps.ensures)

pub invariant_of-rule-2 : goal.invariant_of-rule-2
invariant_of-rule-2 c = let a = c.args in let p = replace_passed a.recorded.now a.fitted.now a.lap (lent_new a.tolerance (laps_of a.recorded.now) a.lap a.kinds.now a.nums.now) a.tolerance _ c.in_ok-found.ensures.row in
    record { positive = rw c.of_laps.ensures (tolerance-positive a.tolerance p.0.p6) }

pub replace_laps-requires-2 : goal.replace_laps-requires-2
replace_laps-requires-2 c = let a = c.args in let e = c.in_ok-found.ensures.same in let p = replace_passed a.recorded.now a.fitted.now a.lap (lent_new a.tolerance (laps_of a.recorded.now) a.lap a.kinds.now a.nums.now) a.tolerance _ c.in_ok-found.ensures.row in
    let o = most_told (lent_new a.tolerance (laps_of a.recorded.now) a.lap a.kinds.now a.nums.now) a.lap a.recorded.now a.fitted.now _ c.in_ok-found.ensures.own p.1 in
    rw (c.of_laps.ensures, e.0, e.1, e.2, e.3) ((past_7 a.lap a.recorded.now p.0.p7).0, (past_7 a.lap a.recorded.now p.0.p7).1, p.1, p.2, o.0, omega (arith, o.1), omega arith)

pub returns : goal.returns
unfolding replace_lap
returns c = let e = c.in_ok-found.ensures.same in wrote-bytes _ c.in_ok-found.ensures.row _ _ _ _ (rw (c.of_laps.ensures, e.0, e.1, e.2, e.3) at c.replace_laps-2.ensures)
