-- `fitting::fitting::fit_points_recursive` meets its contract: a refusal is the table's, and what passed it is what `fit_range` asks. Assumes nothing.
use Rattle.std.proofs.Common.{rules}
use mathlib.Core.Path.{refl}
use native.Mathlib.Omega.{arith}
use lib.ListN.{length}
use Rattle.geo.proofs.Wrote.{wrote-refused, commands-refused}
use Rattle.fitting.specs.Calls.{fit_call, worst_call}
use Rattle.fitting.proofs.Accepted.{fit-accepted, wrote-fit, wrote_no_fit}
use Rattle.fitting.proofs.fitting.fit_points_recursive.Goals as goal

pub returns-in_err-check_fit : goal.returns-in_err-check_fit
unfolding fit_call worst_call
returns-in_err-check_fit c = let e = c.in_err-check_fit.ensures in
    record { commands = commands-refused _ _ e _ _ _ _ (search rules); worst = wrote-refused _ _ e _ _ _ _ (search rules) }

pub returns-then-end-start : goal.returns-then-end-start
returns-then-end-start c = let a = c.args in
    let w = wrote_no_fit a.points.now a.tolerance a.start a.end a.kinds.now _ a.nums.now _ a.worst.now _ 0 c.in_ok-check_fit.ensures c.if-end-start.true refl refl refl refl in
    record { commands = w.0; worst = w.1 }

pub fit_range-requires : goal.fit_range-requires
fit_range-requires c = let a = c.args in
    let r = fit-accepted a.points.now a.tolerance a.start a.end (length a.kinds.now) (length a.nums.now) (length a.worst.now) c.in_ok-check_fit.ensures in
    let n = r.ends-inside c.if-end-start.false in
    let f = r.few in
    let k = r.room-kinds in
    let m = r.room-numbers in
    (c.if-end-start.false, omega arith, omega arith, omega arith)

pub invariant_of-rule : goal.invariant_of-rule
invariant_of-rule c = let a = c.args in
    let r = fit-accepted a.points.now a.tolerance a.start a.end (length a.kinds.now) (length a.nums.now) (length a.worst.now) c.in_ok-check_fit.ensures in
    record { positive = rw c.of_points.ensures r.above_zero }

pub invariant_of-route : goal.invariant_of-route
invariant_of-route c = let a = c.args in
    let r = fit-accepted a.points.now a.tolerance a.start a.end (length a.kinds.now) (length a.nums.now) (length a.worst.now) c.in_ok-check_fit.ensures in
    let n = r.ends-inside c.if-end-start.false in record { start_inside = omega (arith, c.if-end-start.false); end_inside = omega arith }

pub returns : goal.returns
returns c = let a = c.args in
    let w = wrote-fit a.points.now a.tolerance a.start a.end a.kinds.now _ a.nums.now _ a.worst.now _ _ c.in_ok-check_fit.ensures c.if-end-start.false (rw c.of_points.ensures at c.fit_range.ensures) in
    record { commands = w.0; worst = w.1 }
