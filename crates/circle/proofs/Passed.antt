-- The rows of a list of points, alone and before a tolerance's row, and what an accepted list is. Assumes nothing.
use Prim.Native.Nat.{ℕ, ◌/◌, ◌≤◌, ◌<◌}
use mathlib.Core.Path.{◌≡◌, sym, ◌∙◌, subst}
use mathlib.Core.Bool.{true, false, not}
use mathlib.Core.List.{List, [], ◌∷◌}
use borrow.Author.Tests.{ltb-false}
use lib.ListN.{length}
use lib.Ieee.{Float}
use Rattle.geo.specs.Domain.{tolerance}
use Rattle.geo.specs.Outcome.{row, refusal}
use Rattle.geo.proofs.Rows.{row_fails, row-passes, row_passed, refusal-front, done}
use Rattle.circle.specs.Calls.{points_rows, collinear_rows}

pub points_passed : (s : List Float) → 0 ≡ refusal (points_rows s) → length s / 3 ≤ 2048
unfolding points_rows
points_passed s h =
    let a = row_passed 0 _ _ h in
    let b = row_passed 1 _ _ a.1 in
    ltb-false 2048 (length s / 3) b.0

module _ (s : List Float) (tol : Float) where
  last : 0 ≡ refusal (points_rows s) → refusal (collinear_rows s tol) ≡ refusal (row 6 (not (tolerance tol)) ∷ [])
  unfolding points_rows collinear_rows
  last h =
      let a = row_passed 0 _ _ h in
      let b = row_passed 1 _ _ a.1 in
      let c = row_passed 4 _ _ b.1 in
      row-passes _ _ _ a.0 ∙ row-passes _ _ _ b.0 ∙ row-passes _ _ _ c.0

  pub collinear-refused : (n : ℕ) → n ≡ refusal (points_rows s) → 0 < n → n ≡ refusal (collinear_rows s tol)
  unfolding points_rows collinear_rows
  collinear-refused n e h = e ∙ refusal-front (points_rows s) (row 6 (not (tolerance tol)) ∷ []) (subst (λ (k : ℕ). 0 < k) e h)

  pub collinear-tolerance : 0 ≡ refusal (points_rows s) → not (tolerance tol) ≡ true → 6 ≡ refusal (collinear_rows s tol)
  collinear-tolerance h t = sym (last h ∙ row_fails _ _ _ t)

  pub collinear-accepted : 0 ≡ refusal (points_rows s) → not (tolerance tol) ≡ false → 0 ≡ refusal (collinear_rows s tol)
  collinear-accepted h t = sym (last h ∙ row-passes _ _ _ t ∙ done)
