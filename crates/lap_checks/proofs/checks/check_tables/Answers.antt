-- `lap_checks::checks::check_tables` meets its contract: each return is the first row that fails, by the tests before it. Assumes nothing.
use mathlib.Core.Path.{sym, ◌∙◌}
use Rattle.geo.proofs.Rows.{row_fails, row-passes, done}
use Rattle.lap_checks.specs.Checks.{table_rows}
use Rattle.lap_checks.proofs.Rows.{past_1, past_2, past_3}
use Rattle.lap_checks.proofs.checks.check_tables.Goals as goal

pub returns-then-fails_1-clause-row : goal.returns-then-fails_1-clause-row
unfolding table_rows
returns-then-fails_1-clause-row c = sym (row_fails _ _ _ (sym c.fails_1.ensures ∙ c.if-fails_1.true))

pub invariant_of-recorded : goal.invariant_of-recorded
invariant_of-recorded c = let a = c.args in record { long = (past_1 a.lent.recorded.now a.lent.fitted.now _ (sym c.fails_1.ensures ∙ c.if-fails_1.false)).0 }

pub invariant_of-fitted : goal.invariant_of-fitted
invariant_of-fitted c = let a = c.args in record { long = (past_1 a.lent.recorded.now a.lent.fitted.now _ (sym c.fails_1.ensures ∙ c.if-fails_1.false)).1 }

pub returns-then-fails_2-clause-row : goal.returns-then-fails_2-clause-row
unfolding table_rows
returns-then-fails_2-clause-row c = sym (row-passes _ _ _ (sym c.fails_1.ensures ∙ c.if-fails_1.false) ∙ row_fails _ _ _ (sym c.fails_2.ensures ∙ c.if-fails_2.true))

pub fails_3-requires : goal.fails_3-requires
fails_3-requires c = let a = c.args in let q = past_2 a.lent.recorded.now a.lent.fitted.now _ (sym c.fails_2.ensures ∙ c.if-fails_2.false) in (q.0, q.1)

pub returns-then-fails_3-clause-row : goal.returns-then-fails_3-clause-row
unfolding table_rows
returns-then-fails_3-clause-row c = sym (row-passes _ _ _ (sym c.fails_1.ensures ∙ c.if-fails_1.false) ∙ row-passes _ _ _ (sym c.fails_2.ensures ∙ c.if-fails_2.false) ∙ row_fails _ _ _ (sym c.fails_3.ensures ∙ c.if-fails_3.true))

pub invariant_of-result : goal.invariant_of-result
invariant_of-result c = let a = c.args in record { long = (past_1 a.lent.recorded.now a.lent.fitted.now _ (sym c.fails_1.ensures ∙ c.if-fails_1.false)).0; table = (past_3 a.lent.recorded.now a.lent.fitted.now (sym c.fails_3.ensures ∙ c.if-fails_3.false)).0 }

pub invariant_of-result-2 : goal.invariant_of-result-2
invariant_of-result-2 c = let a = c.args in record { long = (past_1 a.lent.recorded.now a.lent.fitted.now _ (sym c.fails_1.ensures ∙ c.if-fails_1.false)).1; table = (past_3 a.lent.recorded.now a.lent.fitted.now (sym c.fails_3.ensures ∙ c.if-fails_3.false)).1 }

pub returns-clause-row : goal.returns-clause-row
unfolding table_rows
returns-clause-row c = sym (row-passes _ _ _ (sym c.fails_1.ensures ∙ c.if-fails_1.false) ∙ row-passes _ _ _ (sym c.fails_2.ensures ∙ c.if-fails_2.false) ∙ row-passes _ _ _ (sym c.fails_3.ensures ∙ c.if-fails_3.false) ∙ done)
