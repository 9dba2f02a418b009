-- The rows of the fit of a file: what each test of the code tells of a row, and what a call has that passes them. Assumes nothing.
use Prim.Native.Nat.{ℕ, ◌≤◌}
use mathlib.Core.Path.{◌≡◌, ◌∙◌, sym}
use mathlib.Core.Bool.{true, false, not}
use mathlib.Core.List.{List}
use borrow.Author.Tests.{not-false}
use lib.Ieee.{Float}
use mathlib.Core.Logic.{⊎_elim}
use Rattle.floats.proofs.Order.{lt_or_ge}
use Rattle.geo.specs.Outcome.{refusal}
use Rattle.geo.specs.Domain.{tolerance}
use Rattle.geo.specs.Lent.{origin}
use Rattle.chain.specs.Chains.{cap}
use Rattle.geo.proofs.Rows.{row_fails, row-passes, row_passed}
use Rattle.laps.specs.File.{lap_count, laps_of}
use Rattle.laps.specs.Rows.{file_size, size_rows}
use Rattle.laps.proofs.Rows.{file_passed_with, FilePassed, behind-file, sized, size_8}
use Rattle.lap_fit.specs.Fit.{laps_most, file_fit_rows}
use Rattle.lap_fit.proofs.Cap.{told-above, told_below}

-- ---- the fit of a file
pub record FitPassed (s : List ℕ) (tol : Float) (room : ℕ) : Type 0 where
  pub file : FilePassed s
  pub within : tolerance tol ≡ true
  pub few : laps_most tol origin (laps_of s) ≤ 800
  pub space : file_size (lap_count s) (laps_most tol origin (laps_of s)) ≤ room

pub fit_passed : (s : List ℕ) (tol : Float) (room : ℕ) → 0 ≡ refusal (file_fit_rows s tol room) → FitPassed s tol room
unfolding file_fit_rows
fit_passed s tol room e =
    let a = file_passed_with s _ e in
    let b = row_passed 5 (not (tolerance tol)) _ a.1 in
    let c = sized (lap_count s) (laps_most tol origin (laps_of s)) room b.1 in
    record { file = a.0; within = not-false _ b.0; few = c.0; space = c.1 }

module _ (s : List ℕ) (tol : Float) (room : ℕ) (p : FilePassed s) where
  pub fit_6 : not (tolerance tol) ≡ true → refusal (file_fit_rows s tol room) ≡ 6
  unfolding file_fit_rows
  fit_6 h = behind-file s _ p ∙ row_fails 6 _ _ h

  pub fit_sizes : not (tolerance tol) ≡ false → refusal (file_fit_rows s tol room) ≡ refusal (size_rows (lap_count s) (laps_most tol origin (laps_of s)) room)
  unfolding file_fit_rows
  fit_sizes h = behind-file s _ p ∙ row-passes 6 _ _ h

-- the sizes by a most that is told
pub sizes_told : (laps laps' r n room : ℕ) → laps ≡ laps' → r ≡ cap n → refusal (size_rows laps r room) ≡ refusal (size_rows laps' n room)
sizes_told laps laps' r n room e q =
    ⊎_elim (λ h. size_8 laps r room h ∙ sym (size_8 laps' n room (told-above r n q h))) (λ h. rw (e, told_below r n q h)) (lt_or_ge 800 r)
