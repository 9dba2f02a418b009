-- `lap_session::session::commit_lap` meets its contract: a refusal is the table's, and what passed it is what `put_part` asks. Assumes nothing.
use Rattle.std.proofs.Common.{rules}
use native.Mathlib.Omega.{arith}
use Rattle.lap_checks.proofs.Rows.{past_7}
use Rattle.lap_session.specs.Session.{commit_lap}
use Rattle.lap_session.proofs.Part.{stored-most}
use Rattle.lap_session.proofs.Rows.{commit_passed, not_stored, is-stored}
use Rattle.lap_session.proofs.session.commit_lap.Goals as goal

pub returns-in_err-commit : goal.returns-in_err-commit
unfolding commit_lap
returns-in_err-commit c = not_stored _ _ _ _ _ _ c.in_err-commit.ensures.row (search rules)

pub overflow_add-session : goal.overflow_add-session
overflow_add-session c = let a = c.args in let p = commit_passed a.ticket a.session.now a.recorded.now a.fitted.now a.part.now _ c.in_ok-commit.ensures.row in let b = p.below in omega (arith, b)

pub put_part-requires : goal.put_part-requires
put_part-requires c = let a = c.args in let e = c.in_ok-commit.ensures.same in let p = commit_passed a.ticket a.session.now a.recorded.now a.fitted.now a.part.now _ c.in_ok-commit.ensures.row in
    let l = past_7 a.ticket.lap a.recorded.now p.rows.p7 in let m = stored-most a.ticket a.recorded.now a.fitted.now a.part.now l.0 p.rows.counted in let x = p.few in let y = p.space in
    rw (e.0, e.1, e.2, e.3, e.4) (l.0, omega (arith, m, x), omega (arith, m, y))

pub returns : goal.returns
unfolding commit_lap
returns c = let e = c.in_ok-commit.ensures.same in is-stored _ _ _ _ _ _ c.in_ok-commit.ensures.row (rw (e.0, e.1, e.2, e.3, e.4) at c.put_part.ensures)
