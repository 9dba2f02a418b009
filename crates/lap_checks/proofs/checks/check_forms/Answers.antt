-- `lap_checks::checks::check_forms` meets its contract: by the new lap's form, then by what was found of the file, then by the new lap's numbers. Assumes nothing.
use Rattle.std.proofs.Common.{rules, refl, ap, not}
use borrow.Author.Tests.{not-true, not-false}
use Rattle.laps.proofs.Rows.{refused_on, cause_some}
use Rattle.lap_checks.proofs.Forms.{no_lap, file-refused, both-near, not_near}
use Rattle.lap_checks.proofs.checks.check_forms.Goals as goal

pub returns-then-not-formed : goal.returns-then-not-formed
returns-then-not-formed c = no_lap _ _ _ (not-true _ (ap not c.if-not-formed.true))

pub returns-in_err-check_commands : goal.returns-in_err-check_commands
returns-in_err-check_commands c = refused_on _ _ _ (search rules) (file-refused _ _ _ (not-false _ (ap not c.if-not-formed.false)) _ c.in_err-check_commands.ensures (cause_some _))

pub returns-then-near : goal.returns-then-near
returns-then-near c = both-near _ _ _ (not-false _ (ap not c.if-not-formed.false)) 0 c.in_ok-check_commands.ensures refl c.if-near.true

pub returns-else-near : goal.returns-else-near
returns-else-near c = not_near _ _ _ (not-false _ (ap not c.if-not-formed.false)) 0 c.in_ok-check_commands.ensures refl c.if-near.false
