-- `laps::lap_file::check_commands` meets its contract: one walk passes both rows, and where it does not, row 4 decides which of the two fails. Assumes nothing.
use mathlib.Core.Path.{sym, ◌∙◌}
use Rattle.laps.proofs.Both.{both_pass, form_alone, no_form}
use Rattle.laps.proofs.lap_file.check_commands.Goals as goal

pub returns-then-all_pass : goal.returns-then-all_pass
returns-then-all_pass c = both_pass _ (sym c.all_pass.ensures ∙ c.if-all_pass.true)

pub returns-then-all_pass-2 : goal.returns-then-all_pass-2
returns-then-all_pass-2 c = form_alone _ (sym c.all_pass.ensures ∙ c.if-all_pass.false) (sym c.all_pass-2.ensures ∙ c.if-all_pass-2.true)

pub returns : goal.returns
returns c = no_form _ (sym c.all_pass-2.ensures ∙ c.if-all_pass-2.false)
