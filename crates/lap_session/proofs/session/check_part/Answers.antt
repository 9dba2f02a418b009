-- `lap_session::session::check_part` meets its contract: rows 1 to 3, the counts, then rows 4 to 7, by what was found of the part. Assumes nothing.
use Rattle.std.proofs.Common.{rules, ap, not}
use mathlib.Core.Path.{sym, ◌∙◌}
use borrow.Author.Tests.{not-true, not-false}
use Rattle.geo.specs.Domain.{whole}
use Rattle.laps.specs.File.{laps_of}
use Rattle.laps.proofs.Rows.{refused_on}
use Rattle.lap_checks.proofs.Rows.{laps_of_lem, tables_refused, counts-refused, laps_decide}
use Rattle.lap_session.specs.Session.{part_formed, part_finite, part_new}
use Rattle.lap_session.proofs.Part.{in_part}
use Rattle.lap_session.proofs.session.check_part.Goals as goal

pub returns-in_err-files-clause-row : goal.returns-in_err-files-clause-row
unfolding whole
returns-in_err-files-clause-row c = let a = c.args in refused_on _ _ _ (search rules) (tables_refused a.lent.recorded.now a.lent.fitted.now a.ticket.lap (part_new a.ticket (laps_of a.lent.recorded.now) a.part.now) a.ticket.tolerance _ c.in_err-files.ensures.row)

pub returns-then-not-counts_agree-clause-row : goal.returns-then-not-counts_agree-clause-row
unfolding whole
returns-then-not-counts_agree-clause-row c = let a = c.args in let e = c.in_ok-files.ensures.same in counts-refused a.lent.recorded.now a.lent.fitted.now a.ticket.lap (part_new a.ticket (laps_of a.lent.recorded.now) a.part.now) a.ticket.tolerance c.in_ok-files.ensures.row (rw e.0 at (sym c.counts_agree.ensures ∙ not-true _ (ap not c.if-not-counts_agree.true)))

pub invariant_of-part : goal.invariant_of-part
invariant_of-part c = let a = c.args in let e = c.in_ok-files.ensures.same in record { inside = in_part a.ticket.lap (laps_of a.lent.recorded.now) a.part.now _ _ (rw e.0 at (sym c.counts_agree.ensures ∙ not-false _ (ap not c.if-not-counts_agree.false))) }

pub returns-in_err-check_laps-clause-row : goal.returns-in_err-check_laps-clause-row
unfolding whole part_formed part_finite
returns-in_err-check_laps-clause-row c = let a = c.args in let e = c.in_ok-files.ensures.same in refused_on _ _ _ (search rules)
    (laps_decide a.lent.recorded.now a.lent.fitted.now a.ticket.lap (part_new a.ticket (laps_of a.lent.recorded.now) a.part.now) a.ticket.tolerance c.in_ok-files.ensures.row (rw e.0 at (sym c.counts_agree.ensures ∙ not-false _ (ap not c.if-not-counts_agree.false))) _ (laps_of_lem a.lent.recorded.now a.ticket.lap _ _ _ _ a.ticket.tolerance _ (rw e.0 at c.in_err-check_laps.ensures) c.part_passes-formed.ensures c.part_passes-finite.ensures))

pub returns-clause-row : goal.returns-clause-row
unfolding whole part_formed part_finite
returns-clause-row c = let a = c.args in let e = c.in_ok-files.ensures.same in laps_decide a.lent.recorded.now a.lent.fitted.now a.ticket.lap (part_new a.ticket (laps_of a.lent.recorded.now) a.part.now) a.ticket.tolerance c.in_ok-files.ensures.row (rw e.0 at (sym c.counts_agree.ensures ∙ not-false _ (ap not c.if-not-counts_agree.false))) 0 (laps_of_lem a.lent.recorded.now a.ticket.lap _ _ _ _ a.ticket.tolerance 0 (rw e.0 at c.in_ok-check_laps.ensures) c.part_passes-formed.ensures c.part_passes-finite.ensures)
