-- `lap_rows::lap_rows::check_text` meets its contract: each return is the first row that fails, by the tests before it. Assumes nothing.
use Rattle.std.proofs.Common.{rules, ap, not}
use mathlib.Core.Path.{◌≡◌, refl, sym, ◌∙◌}
use native.Mathlib.Omega.{arith}
use Rattle.geo.specs.Lent.{origin}
use Rattle.geo.proofs.Rows.{not_fails, not_passes}
use Rattle.chain.specs.Chains.{cap}
use Rattle.laps.specs.File.{laps_of}
use Rattle.laps.specs.Rows.{file_rows}
use Rattle.laps.proofs.Rows.{refused-front, refused_on, file_passed}
use Rattle.lap_fit.specs.Fit.{laps_most}
use Rattle.lap_fit.proofs.Cap.{told-above, told_below}
use Rattle.lap_rows.specs.Listing.{text_rows}
use Rattle.lap_rows.proofs.Rows.{text_6, text_8, text_9, text_0}
use Rattle.lap_rows.proofs.lap_rows.check_text.Goals as goal

pub returns-in_err-file-clause-row : goal.returns-in_err-file-clause-row
unfolding text_rows
returns-in_err-file-clause-row c = refused_on _ _ _ (search rules) (refused-front (file_rows c.args.s.now) _ _ c.in_err-file.ensures.row)

pub returns-then-not-is_tolerance-clause-row : goal.returns-then-not-is_tolerance-clause-row
returns-then-not-is_tolerance-clause-row c = let a = c.args in sym (text_6 a.s.now a.tolerance a.room (file_passed a.s.now 0 c.in_ok-file.ensures.row refl) (not_fails _ _ c.is_tolerance.ensures (ap not c.if-not-is_tolerance.true)))

pub returns-then-most-gt-MOST-clause-row : goal.returns-then-most-gt-MOST-clause-row
returns-then-most-gt-MOST-clause-row c = let a = c.args in
    sym (text_8 a.s.now a.tolerance a.room (file_passed a.s.now 0 c.in_ok-file.ensures.row refl) (not_passes _ _ c.is_tolerance.ensures (ap not c.if-not-is_tolerance.false)) (told-above _ _ (c.most_of-most.ensures ∙ ap (λ s. cap (laps_most a.tolerance origin (laps_of s))) c.in_ok-file.ensures.same) c.if-most-gt-MOST.true))

pub returns-then-room-most-clause-row : goal.returns-then-room-most-clause-row
returns-then-room-most-clause-row c = let a = c.args in
    let e : c.most_of-most.result ≡ laps_most a.tolerance origin (laps_of a.s.now) = told_below _ _ (c.most_of-most.ensures ∙ ap (λ s. cap (laps_most a.tolerance origin (laps_of s))) c.in_ok-file.ensures.same) c.if-most-gt-MOST.false in
    sym (text_9 a.s.now a.tolerance a.room (file_passed a.s.now 0 c.in_ok-file.ensures.row refl) (not_passes _ _ c.is_tolerance.ensures (ap not c.if-not-is_tolerance.false)) (omega (arith, e, c.if-most-gt-MOST.false)) (omega (arith, e, c.if-room-most.true)))

pub returns-clause-row : goal.returns-clause-row
returns-clause-row c = let a = c.args in
    let e : c.most_of-most.result ≡ laps_most a.tolerance origin (laps_of a.s.now) = told_below _ _ (c.most_of-most.ensures ∙ ap (λ s. cap (laps_most a.tolerance origin (laps_of s))) c.in_ok-file.ensures.same) c.if-most-gt-MOST.false in
    sym (text_0 a.s.now a.tolerance a.room (file_passed a.s.now 0 c.in_ok-file.ensures.row refl) (not_passes _ _ c.is_tolerance.ensures (ap not c.if-not-is_tolerance.false)) (omega (arith, e, c.if-most-gt-MOST.false)) (omega (arith, e, c.if-room-most.false)))
