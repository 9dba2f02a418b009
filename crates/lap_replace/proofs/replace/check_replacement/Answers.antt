-- `lap_replace::replace::check_replacement` meets its contract: rows 1 to 7, and then the sizes by the most that is told. Assumes nothing.
use Rattle.std.proofs.Common.{rules}
use mathlib.Core.Path.{sym, ap, ◌∙◌}
use Rattle.laps.specs.File.{lap_count, laps_of}
use Rattle.laps.proofs.Rows.{refused_on}
use Rattle.lap_checks.specs.Checks.{lent_new}
use Rattle.lap_checks.proofs.Rows.{new_passed, new_refused, new_sizes, sizes_with}
use Rattle.lap_replace.proofs.replace.check_replacement.Goals as goal

pub returns-in_err-found-clause-row : goal.returns-in_err-found-clause-row
returns-in_err-found-clause-row c = let a = c.args.given in let s = a.files.recorded.now in let f = a.files.fitted.now in refused_on _ _ _ (search rules) (new_refused s f a.lap (lent_new a.tolerance (laps_of s) a.lap a.kinds.now a.nums.now) a.tolerance c.args.room _ c.in_err-found.ensures.row)

pub returns-in_err-check_sizes-clause-row : goal.returns-in_err-check_sizes-clause-row
returns-in_err-check_sizes-clause-row c = let a = c.args.given in let s = a.files.recorded.now in let f = a.files.fitted.now in let w = c.in_ok-found.ensures in let p = new_passed s f a.lap (lent_new a.tolerance (laps_of s) a.lap a.kinds.now a.nums.now) a.tolerance w.row in refused_on _ _ _ (search rules)
    (c.in_err-check_sizes.ensures ∙ sizes_with (lent_new a.tolerance (laps_of s) a.lap a.kinds.now a.nums.now) a.lap s f _ _ _ c.args.room (c.lap_count.ensures.0 ∙ ap lap_count w.same.1) w.counts.0 w.counts.1
    ∙ sym (new_sizes s f a.lap (lent_new a.tolerance (laps_of s) a.lap a.kinds.now a.nums.now) a.tolerance c.args.room p))

pub returns-clause-row : goal.returns-clause-row
returns-clause-row c = let a = c.args.given in let s = a.files.recorded.now in let f = a.files.fitted.now in let w = c.in_ok-found.ensures in let p = new_passed s f a.lap (lent_new a.tolerance (laps_of s) a.lap a.kinds.now a.nums.now) a.tolerance w.row in
    c.in_ok-check_sizes.ensures ∙ sizes_with (lent_new a.tolerance (laps_of s) a.lap a.kinds.now a.nums.now) a.lap s f _ _ _ c.args.room (c.lap_count.ensures.0 ∙ ap lap_count w.same.1) w.counts.0 w.counts.1
    ∙ sym (new_sizes s f a.lap (lent_new a.tolerance (laps_of s) a.lap a.kinds.now a.nums.now) a.tolerance c.args.room p)
