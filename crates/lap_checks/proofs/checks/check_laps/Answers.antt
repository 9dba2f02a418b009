-- `lap_checks::checks::check_laps` meets its contract: each return is the first row that fails, by the tests before it. Assumes nothing.
use Rattle.std.proofs.Common.{rules, ap, not}
use mathlib.Core.Path.{sym, ◌∙◌}
use Rattle.geo.proofs.Rows.{row_fails, row-passes, not_fails, not_passes, done}
use Rattle.laps.proofs.Rows.{refused-front, refused_on}
use Rattle.lap_checks.specs.Checks.{later_rows}
use Rattle.lap_checks.proofs.Forms.{behind_forms}
use Rattle.lap_checks.proofs.checks.check_laps.Goals as goal

pub returns-in_err-check_forms : goal.returns-in_err-check_forms
unfolding later_rows
returns-in_err-check_forms c = refused_on _ _ _ (search rules) (refused-front _ _ _ c.in_err-check_forms.ensures)

pub returns-then-not-is_tolerance : goal.returns-then-not-is_tolerance
unfolding later_rows
returns-then-not-is_tolerance c = sym (behind_forms _ _ _ _ c.in_ok-check_forms.ensures ∙ row_fails _ _ _ (not_fails _ _ c.is_tolerance.ensures (ap not c.if-not-is_tolerance.true)))

pub returns-then-fails_7 : goal.returns-then-fails_7
unfolding later_rows
returns-then-fails_7 c = sym (behind_forms _ _ _ _ c.in_ok-check_forms.ensures ∙ row-passes _ _ _ (not_passes _ _ c.is_tolerance.ensures (ap not c.if-not-is_tolerance.false)) ∙ row_fails _ _ _ (sym c.fails_7.ensures ∙ c.if-fails_7.true))

pub returns : goal.returns
unfolding later_rows
returns c = sym (behind_forms _ _ _ _ c.in_ok-check_forms.ensures ∙ row-passes _ _ _ (not_passes _ _ c.is_tolerance.ensures (ap not c.if-not-is_tolerance.false)) ∙ row-passes _ _ _ (sym c.fails_7.ensures ∙ c.if-fails_7.false) ∙ done)
