-- `lap_checks::checks::look_at_new` meets its contract: rows 1 to 3, then rows 4 to 7, by what was found of the new commands; what passed them is what the counts ask. Assumes nothing.
use Rattle.std.proofs.Common.{rules}
use mathlib.Core.Path.{refl}
use native.Mathlib.Omega.{arith}
use Rattle.laps.specs.File.{laps_of}
use Rattle.laps.proofs.Rows.{refused_on}
use Rattle.lap_fit.proofs.Cap.{cap_small}
use Rattle.lap_checks.specs.Checks.{lent_new}
use Rattle.lap_checks.proofs.Rows.{lent-nine, past_1, past_7, new_passed, tables_of, laps_of_lem, tables_passed, tables_refused, laps_decide}
use Rattle.lap_checks.proofs.checks.look_at_new.Goals as goal

pub returns-in_err-files-clause-row : goal.returns-in_err-files-clause-row
returns-in_err-files-clause-row c = let a = c.args.given in let s = a.files.recorded.now in let f = a.files.fitted.now in refused_on _ _ _ (search rules) (tables_refused s f a.lap (lent_new a.tolerance (laps_of s) a.lap a.kinds.now a.nums.now) a.tolerance _ (tables_of s f _ _ _ _ c.in_err-files.ensures.row c.is_whole-whole.ensures))

pub invariant_of-commands : goal.invariant_of-commands
invariant_of-commands c = let a = c.args.given in let s = a.files.recorded.now in let f = a.files.fitted.now in let p = tables_passed s f _ _ (tables_of s f _ _ _ 0 c.in_ok-files.ensures.row c.is_whole-whole.ensures) in let w = lent-nine a.kinds.now a.nums.now (past_1 s f _ p.0).2 in record { whole = omega (arith, w) }

pub returns-in_err-check_laps-clause-row : goal.returns-in_err-check_laps-clause-row
returns-in_err-check_laps-clause-row c = let a = c.args.given in let s = a.files.recorded.now in let f = a.files.fitted.now in let e = c.in_ok-files.ensures.same in refused_on _ _ _ (search rules)
    (laps_decide s f a.lap (lent_new a.tolerance (laps_of s) a.lap a.kinds.now a.nums.now) a.tolerance (tables_of s f _ _ _ 0 c.in_ok-files.ensures.row c.is_whole-whole.ensures) refl _ (laps_of_lem s a.lap _ _ _ _ a.tolerance _ (rw e.0 at c.in_err-check_laps.ensures) c.is_lap-formed.ensures c.are_in.ensures))

pub most_new-own-requires : goal.most_new-own-requires
most_new-own-requires c = let a = c.args.given in let s = a.files.recorded.now in let f = a.files.fitted.now in let e = c.in_ok-files.ensures.same in
    let p = new_passed s f a.lap (lent_new a.tolerance (laps_of s) a.lap a.kinds.now a.nums.now) a.tolerance (laps_decide s f a.lap (lent_new a.tolerance (laps_of s) a.lap a.kinds.now a.nums.now) a.tolerance (tables_of s f _ _ _ 0 c.in_ok-files.ensures.row c.is_whole-whole.ensures) refl 0 (laps_of_lem s a.lap _ _ _ _ a.tolerance 0 (rw e.0 at c.in_ok-check_laps.ensures) c.is_lap-formed.ensures c.are_in.ensures)) in rw e.0 (past_7 a.lap s p.p7)

pub with_others-all-requires : goal.with_others-all-requires
with_others-all-requires c = let a = c.args.given in let s = a.files.recorded.now in let f = a.files.fitted.now in let e = c.in_ok-files.ensures.same in
    let p = new_passed s f a.lap (lent_new a.tolerance (laps_of s) a.lap a.kinds.now a.nums.now) a.tolerance (laps_decide s f a.lap (lent_new a.tolerance (laps_of s) a.lap a.kinds.now a.nums.now) a.tolerance (tables_of s f _ _ _ 0 c.in_ok-files.ensures.row c.is_whole-whole.ensures) refl 0 (laps_of_lem s a.lap _ _ _ _ a.tolerance 0 (rw e.0 at c.in_ok-check_laps.ensures) c.is_lap-formed.ensures c.are_in.ensures)) in ((past_7 a.lap s p.p7).0, cap_small _ _ c.most_new-own.ensures)

pub returns-clause-row : goal.returns-clause-row
returns-clause-row c = let a = c.args.given in let s = a.files.recorded.now in let f = a.files.fitted.now in let e = c.in_ok-files.ensures.same in laps_decide s f a.lap (lent_new a.tolerance (laps_of s) a.lap a.kinds.now a.nums.now) a.tolerance (tables_of s f _ _ _ 0 c.in_ok-files.ensures.row c.is_whole-whole.ensures) refl 0 (laps_of_lem s a.lap _ _ _ _ a.tolerance 0 (rw e.0 at c.in_ok-check_laps.ensures) c.is_lap-formed.ensures c.are_in.ensures)
