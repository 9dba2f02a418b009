-- Rows 1 to 6 of lent commands, r being what their check found: with rows behind them, and what is known where none fails. Assumes nothing.
use Prim.Native.Nat.{ℕ, ◌*◌, ◌≤◌, ◌<◌}
use mathlib.Core.Path.{◌≡◌, sym, ◌∙◌, subst}
use mathlib.Core.Bool.{true}
use mathlib.Core.List.{List, ◌++◌}
use native.Mathlib.Omega.{arith}
use borrow.Author.Tests.{ltb-false, eqb-true, not-false}
use lib.ListN.{length}
use lib.Ieee.{Float}
use Rattle.floats.specs.Ops.{◌≺◌, +0}
use Rattle.geo.specs.Outcome.{Row, refusal}
use Rattle.geo.specs.Commands.{input_rows}
use Rattle.geo.proofs.Rows.{row-passes, row_passed, refusal-front}
use Rattle.geo.proofs.Tolerance.{tolerance-positive}

module _ (ks : List ℕ) (ns : List Float) (tol : Float) (numbers r : ℕ) (e : r ≡ refusal (input_rows ks ns tol numbers)) where
  pub input_refused : (ts : List Row) → (r ≡ 0 → ⊥) → r ≡ refusal (input_rows ks ns tol numbers ++ ts)
  input_refused ts h = e ∙ refusal-front (input_rows ks ns tol numbers) ts (subst (λ (k : ℕ). 0 < k) e (omega (arith, h)))

  module _ (z : r ≡ 0) where
    pub input_passed : (ts : List Row) → refusal (input_rows ks ns tol numbers ++ ts) ≡ refusal ts
    input_passed ts =
        let a = row_passed 0 _ _ (sym z ∙ e) in
        let b = row_passed 0 _ _ a.1 in
        let c = row_passed 1 _ _ b.1 in
        let d = row_passed 3 _ _ c.1 in
        let f = row_passed 4 _ _ d.1 in
        let g = row_passed 5 _ _ f.1 in
        row-passes _ _ _ a.0 ∙ row-passes _ _ _ b.0 ∙ row-passes _ _ _ c.0 ∙ row-passes _ _ _ d.0 ∙ row-passes _ _ _ f.0 ∙ row-passes _ _ _ g.0

    pub input_accepted : (length ns ≡ 9 * length ks) × (length ks ≤ 800) × ((+0 ≺ tol) ≡ true)
    input_accepted =
        let a = row_passed 0 _ _ (sym z ∙ e) in
        let b = row_passed 0 _ _ a.1 in
        let c = row_passed 1 _ _ b.1 in
        let d = row_passed 3 _ _ c.1 in
        let f = row_passed 4 _ _ d.1 in
        let g = row_passed 5 _ _ f.1 in
        (eqb-true _ _ (not-false _ a.0), ltb-false _ _ c.0, tolerance-positive tol (not-false _ g.0))
