-- `lap_fit::fit::fit_by` meets its contract: a refusal is the table's, and what passed it is what `fit_laps` asks. Assumes nothing.
use Rattle.std.proofs.Common.{rules}
use Rattle.geo.proofs.Tolerance.{tolerance-positive}
use Rattle.geo.proofs.Wrote.{wrote-refused}
use Rattle.laps.proofs.Rows.{wrote-bytes}
use Rattle.lap_fit.specs.Fit.{fit_file_by}
use Rattle.lap_fit.proofs.Rows.{fit_passed}
use Rattle.lap_fit.proofs.fit.fit_by.Goals as goal

pub returns-in_err-file : goal.returns-in_err-file
unfolding fit_file_by
returns-in_err-file c = wrote-refused _ _ c.in_err-file.ensures.row _ _ _ _ (search rules)

pub invariant_of-fit_laps : goal.invariant_of-fit_laps
invariant_of-fit_laps c = let a = c.args in
    record { positive = tolerance-positive a.rule.tolerance (fit_passed a.recorded.now a.rule.tolerance _ c.in_ok-file.ensures.row).within }

pub fit_laps-requires : goal.fit_laps-requires
fit_laps-requires c = let a = c.args in let p = fit_passed a.recorded.now a.rule.tolerance _ c.in_ok-file.ensures.row in
    rw c.in_ok-file.ensures.same (p.few, p.space)

pub returns : goal.returns
unfolding fit_file_by
returns c = wrote-bytes _ c.in_ok-file.ensures.row _ _ _ _ (rw c.in_ok-file.ensures.same at c.fit_laps.ensures)
