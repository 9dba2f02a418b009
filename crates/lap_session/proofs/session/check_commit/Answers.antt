-- `lap_session::session::check_commit` meets its contract: 12, 13, the rows of the part, and then the sizes. Assumes nothing.
use Rattle.std.proofs.Common.{rules}
use mathlib.Core.Path.{ap, ◌∙◌}
use native.Mathlib.Omega.{arith}
use Rattle.laps.specs.File.{lap_count, laps_of}
use Rattle.laps.proofs.Rows.{refused_on}
use Rattle.lap_checks.proofs.Rows.{past_7, new_passed}
use Rattle.lap_session.specs.Session.{part_new}
use Rattle.lap_session.proofs.Rows.{commit_12, commit_13, part_refused, part_sizes, few_part}
use Rattle.lap_session.proofs.session.check_commit.Goals as goal

pub returns-then-ticket-session-clause-row : goal.returns-then-ticket-session-clause-row
returns-then-ticket-session-clause-row c = let a = c.args in commit_12 a.ticket a.session a.lent.recorded.now a.lent.fitted.now a.part.now a.room c.if-ticket-session.true

pub returns-then-session-ge-MOST-clause-row : goal.returns-then-session-ge-MOST-clause-row
returns-then-session-ge-MOST-clause-row c = let a = c.args in commit_13 a.ticket a.session a.lent.recorded.now a.lent.fitted.now a.part.now a.room c.if-ticket-session.false c.if-session-ge-MOST.true

pub returns-in_err-commit-clause-row : goal.returns-in_err-commit-clause-row
returns-in_err-commit-clause-row c = let a = c.args in refused_on _ _ _ (search rules) (part_refused a.ticket a.session a.lent.recorded.now a.lent.fitted.now a.part.now a.room c.if-ticket-session.false c.if-session-ge-MOST.false _ c.in_err-commit.ensures.row)

pub with_others-most-requires : goal.with_others-most-requires
with_others-most-requires c = let a = c.args in let p = new_passed a.lent.recorded.now a.lent.fitted.now a.ticket.lap (part_new a.ticket (laps_of a.lent.recorded.now) a.part.now) a.ticket.tolerance c.in_ok-commit.ensures.row in
    let l = few_part a.ticket a.lent.recorded.now a.lent.fitted.now a.part.now p in ((past_7 a.ticket.lap a.lent.recorded.now p.p7).0, omega (arith, l))

pub returns-in_err-check_sizes-clause-row : goal.returns-in_err-check_sizes-clause-row
returns-in_err-check_sizes-clause-row c = let a = c.args in let e = c.in_ok-commit.ensures.same in let p = new_passed a.lent.recorded.now a.lent.fitted.now a.ticket.lap (part_new a.ticket (laps_of a.lent.recorded.now) a.part.now) a.ticket.tolerance c.in_ok-commit.ensures.row in
    refused_on _ _ _ (search rules) (c.in_err-check_sizes.ensures ∙ part_sizes a.ticket a.session a.lent.recorded.now a.lent.fitted.now a.part.now a.room c.if-ticket-session.false c.if-session-ge-MOST.false p _ _ (c.lap_count.ensures.0 ∙ ap lap_count e.1) (few_part a.ticket a.lent.recorded.now a.lent.fitted.now a.part.now p) (rw (e.0, e.1) at c.with_others-most.ensures))

pub returns-clause-row : goal.returns-clause-row
returns-clause-row c = let a = c.args in let e = c.in_ok-commit.ensures.same in let p = new_passed a.lent.recorded.now a.lent.fitted.now a.ticket.lap (part_new a.ticket (laps_of a.lent.recorded.now) a.part.now) a.ticket.tolerance c.in_ok-commit.ensures.row in
    c.in_ok-check_sizes.ensures ∙ part_sizes a.ticket a.session a.lent.recorded.now a.lent.fitted.now a.part.now a.room c.if-ticket-session.false c.if-session-ge-MOST.false p _ _ (c.lap_count.ensures.0 ∙ ap lap_count e.1) (few_part a.ticket a.lent.recorded.now a.lent.fitted.now a.part.now p) (rw (e.0, e.1) at c.with_others-most.ensures)
