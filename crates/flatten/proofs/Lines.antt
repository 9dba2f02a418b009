-- One Line for each part. Assumes nothing.
use Prim.Native.Nat.{ℕ, suc, ◌+◌}
use mathlib.Core.Path.{◌≡◌, refl, ap}
use mathlib.Core.List.{List, [], ◌∷◌}
use lib.ListN.{length}
use Rattle.flatten.specs.Lines.{numbered}

-- ---- numbered items
module _ {A B : Type 0} (f : ℕ → A → B) where
  pub numbered_length : (i : ℕ) (xs : List A) → length (numbered f i xs) ≡ length xs
  unfolding numbered
  numbered_length i [] = refl
  numbered_length i (x ∷ xs) = ap suc (numbered_length (i + 1) xs)
