-- Runs of stores, one behind the other. Assumes nothing.
use Prim.Native.Nat.{ℕ, ◌+◌}
use mathlib.Core.Path.{◌≡◌, sym, ◌∙◌}
use mathlib.Core.List.{List, ◌++◌}
use native.Mathlib.Omega.{arith}
use lib.ListN.{length, length-append}
use lib.Seq.{sets}
use Rattle.geo.proofs.Stores.{sets_append}

module _ {A : Type 0} (l : List A) (i : ℕ) where
  -- two runs of n
  pub two_runs : (n : ℕ) (a b l₁ l₂ : List A) → length a ≡ n → l₁ ≡ sets l i a → l₂ ≡ sets l₁ (i + n) b → l₂ ≡ sets l i (a ++ b)
  two_runs n a b l₁ l₂ h e₁ e₂ = let p : i + length a ≡ i + n = omega arith in e₂ ∙ rw e₁ (sym (sets_append a b l i ∙ rw p))

  -- four runs of two
  pub four_runs : (a b c d l₁ l₂ l₃ l₄ : List A) → length a ≡ 2 → length b ≡ 2 → length c ≡ 2 → l₁ ≡ sets l i a → l₂ ≡ sets l₁ (i + 2) b → l₃ ≡ sets l₂ (i + 4) c
      → l₄ ≡ sets l₃ (i + 6) d → l₄ ≡ sets l i (a ++ b ++ c ++ d)
  four_runs a b c d l₁ l₂ l₃ l₄ ha hb hc e₁ e₂ e₃ e₄ =
      let p : length (a ++ b) ≡ 4 = omega (arith, length-append a b) in
      let q : length (a ++ b ++ c) ≡ 6 = omega (arith, length-append (a ++ b) c) in
      two_runs 6 (a ++ b ++ c) d l₃ l₄ q (two_runs 4 (a ++ b) c l₂ l₃ p (two_runs 2 a b l₁ l₂ ha e₁ e₂) e₃) e₄
