-- `laps::lap_file::check_file` meets its contract: each return is the first row that fails, by the tests before it. Assumes nothing.
use Rattle.std.proofs.Common.{rules, ap, not}
use mathlib.Core.Path.{sym, ◌∙◌}
use borrow.Author.Tests.{not-false}
use Rattle.geo.proofs.Rows.{row_fails, row-passes, not_fails, not_passes}
use Rattle.laps.specs.Rows.{file_rows}
use Rattle.laps.proofs.Rows.{refused_on}
use Rattle.laps.proofs.Walks.{not_short, not_big}
use Rattle.laps.proofs.lap_file.check_file.Goals as goal

pub returns-then-too_short-clause-row : goal.returns-then-too_short-clause-row
unfolding file_rows
returns-then-too_short-clause-row c = sym (row_fails _ _ _ (sym c.too_short.ensures ∙ c.if-too_short.true))

pub invariant_of-headed : goal.invariant_of-headed
invariant_of-headed c = record { long = not_short _ (sym c.too_short.ensures ∙ c.if-too_short.false) }

pub returns-then-is_too_big-clause-row : goal.returns-then-is_too_big-clause-row
unfolding file_rows
returns-then-is_too_big-clause-row c = sym (row-passes _ _ _ (sym c.too_short.ensures ∙ c.if-too_short.false) ∙ row_fails _ _ _ (sym c.is_too_big.ensures ∙ c.if-is_too_big.true))

pub has_table-requires : goal.has_table-requires
has_table-requires c = (not_big _ (sym c.is_too_big.ensures ∙ c.if-is_too_big.false)).1

pub returns-then-not-has_table-clause-row : goal.returns-then-not-has_table-clause-row
unfolding file_rows
returns-then-not-has_table-clause-row c = sym (row-passes _ _ _ (sym c.too_short.ensures ∙ c.if-too_short.false) ∙ row-passes _ _ _ (sym c.is_too_big.ensures ∙ c.if-is_too_big.false) ∙ row_fails _ _ _ (not_fails _ _ c.has_table.ensures (ap not c.if-not-has_table.true)))

pub invariant_of-file : goal.invariant_of-file
invariant_of-file c = record { long = not_short _ (sym c.too_short.ensures ∙ c.if-too_short.false); table = sym c.has_table.ensures ∙ not-false _ (ap not c.if-not-has_table.false) }

pub returns-in_err-check_commands-clause-row : goal.returns-in_err-check_commands-clause-row
unfolding file_rows
returns-in_err-check_commands-clause-row c = refused_on _ _ _ (search rules) (c.in_err-check_commands.ensures ∙ sym (row-passes _ _ _ (sym c.too_short.ensures ∙ c.if-too_short.false) ∙ row-passes _ _ _ (sym c.is_too_big.ensures ∙ c.if-is_too_big.false) ∙ row-passes _ _ _ (not_passes _ _ c.has_table.ensures (ap not c.if-not-has_table.false))))

pub returns-clause-row : goal.returns-clause-row
unfolding file_rows
returns-clause-row c = c.in_ok-check_commands.ensures ∙ sym (row-passes _ _ _ (sym c.too_short.ensures ∙ c.if-too_short.false) ∙ row-passes _ _ _ (sym c.is_too_big.ensures ∙ c.if-is_too_big.false) ∙ row-passes _ _ _ (not_passes _ _ c.has_table.ensures (ap not c.if-not-has_table.false)))
