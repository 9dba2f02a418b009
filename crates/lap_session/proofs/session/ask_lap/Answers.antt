-- `lap_session::session::ask_lap` meets its contract: a refusal is the table's, and what passed it is what `fit_both` asks. Assumes nothing.
use Rattle.std.proofs.Common.{rules}
use native.Mathlib.Omega.{arith}
use Rattle.geo.proofs.Tolerance.{tolerance-positive}
use Rattle.laps.specs.File.{laps_of}
use Rattle.lap_checks.specs.Checks.{lent_new}
use Rattle.lap_checks.proofs.Rows.{past_7, most_told}
use Rattle.lap_session.specs.Session.{ask_lap}
use Rattle.lap_session.proofs.Rows.{ask_passed, not_asked, is_asked}
use Rattle.lap_session.proofs.session.ask_lap.Goals as goal

pub returns-in_err-found : goal.returns-in_err-found
unfolding ask_lap
returns-in_err-found c = not_asked _ _ _ _ _ c.in_err-found.ensures.row (search rules)

pub invariant_of-rule : goal.invariant_of-rule
invariant_of-rule c = let a = c.args in let p = ask_passed a.recorded.now a.fitted.now a.lap (lent_new a.tolerance (laps_of a.recorded.now) a.lap a.kinds.now a.nums.now) a.tolerance _ c.in_ok-found.ensures.row in
    record { positive = rw c.of_laps.ensures (tolerance-positive a.tolerance p.0.p6) }

pub fit_both-fit-requires : goal.fit_both-fit-requires
fit_both-fit-requires c = let a = c.args in let e = c.in_ok-found.ensures.same in let p = ask_passed a.recorded.now a.fitted.now a.lap (lent_new a.tolerance (laps_of a.recorded.now) a.lap a.kinds.now a.nums.now) a.tolerance _ c.in_ok-found.ensures.row in
    let o = most_told (lent_new a.tolerance (laps_of a.recorded.now) a.lap a.kinds.now a.nums.now) a.lap a.recorded.now a.fitted.now _ c.in_ok-found.ensures.own p.1 in
    rw (c.of_laps.ensures, e.0, e.2, e.3) ((past_7 a.lap a.recorded.now p.0.p7).0, (past_7 a.lap a.recorded.now p.0.p7).1, omega (arith, o.0, o.1), p.2)

pub returns : goal.returns
unfolding ask_lap
returns c = let a = c.args in let e = c.in_ok-found.ensures.same in is_asked _ a.session a.lap a.tolerance _ _ _ _ _ _ c.in_ok-found.ensures.row (rw (c.of_laps.ensures, e.0, e.2, e.3) at c.fit_both-fit.ensures)
