-- `lap_fit::fit::check_fit` meets its contract: each return is the first row that fails, by the tests before it. Assumes nothing.
use Rattle.std.proofs.Common.{rules, ap, not}
use mathlib.Core.Path.{refl, sym, ◌∙◌}
use Rattle.geo.proofs.Rows.{not_fails, not_passes}
use Rattle.geo.specs.Lent.{origin}
use Rattle.chain.specs.Chains.{cap}
use Rattle.laps.specs.File.{lap_count, laps_of}
use Rattle.laps.specs.Rows.{file_rows}
use Rattle.laps.proofs.Rows.{refused-front, refused_on, file_passed}
use Rattle.lap_fit.specs.Fit.{laps_most, file_fit_rows}
use Rattle.lap_fit.proofs.Rows.{fit_6, fit_sizes, sizes_told}
use Rattle.lap_fit.proofs.fit.check_fit.Goals as goal

pub returns-in_err-file-clause-row : goal.returns-in_err-file-clause-row
unfolding file_fit_rows
returns-in_err-file-clause-row c = refused_on _ _ _ (search rules) (refused-front (file_rows c.args.s.now) _ _ c.in_err-file.ensures.row)

pub returns-then-not-is_tolerance-clause-row : goal.returns-then-not-is_tolerance-clause-row
returns-then-not-is_tolerance-clause-row c = let a = c.args in sym (fit_6 a.s.now a.tolerance a.room (file_passed a.s.now 0 c.in_ok-file.ensures.row refl) (not_fails _ _ c.is_tolerance.ensures (ap not c.if-not-is_tolerance.true)))

pub returns-in_err-check_sizes-clause-row : goal.returns-in_err-check_sizes-clause-row
returns-in_err-check_sizes-clause-row c = let a = c.args in let e = c.in_ok-file.ensures.same in refused_on _ _ _ (search rules)
    (c.in_err-check_sizes.ensures ∙ sizes_told _ _ _ _ a.room (c.lap_count.ensures.0 ∙ ap lap_count e) (c.most_of.ensures ∙ ap (λ s. cap (laps_most a.tolerance origin (laps_of s))) e)
    ∙ sym (fit_sizes a.s.now a.tolerance a.room (file_passed a.s.now 0 c.in_ok-file.ensures.row refl) (not_passes _ _ c.is_tolerance.ensures (ap not c.if-not-is_tolerance.false))))

pub returns-clause-row : goal.returns-clause-row
returns-clause-row c = let a = c.args in let e = c.in_ok-file.ensures.same in
    c.in_ok-check_sizes.ensures ∙ sizes_told _ _ _ _ a.room (c.lap_count.ensures.0 ∙ ap lap_count e) (c.most_of.ensures ∙ ap (λ s. cap (laps_most a.tolerance origin (laps_of s))) e)
    ∙ sym (fit_sizes a.s.now a.tolerance a.room (file_passed a.s.now 0 c.in_ok-file.ensures.row refl) (not_passes _ _ c.is_tolerance.ensures (ap not c.if-not-is_tolerance.false)))
