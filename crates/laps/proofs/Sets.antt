-- Runs of stores that do not meet. Assumes nothing.
use Prim.Native.Nat.{ℕ, suc, ◌+◌, ◌≤◌, ◌<◌}
use mathlib.Core.Path.{◌≡◌, refl, ap, ◌∙◌}
use mathlib.Core.List.{List, [], ◌∷◌}
use native.Mathlib.Omega.{arith}
use lib.ListN.{length, set}
use lib.Seq.{sets, set_comm}

module _ {A : Type 0} where
  set_past : (ys l : List A) (i j : ℕ) (x : A) → i < j → sets (set l i x) j ys ≡ set (sets l j ys) i x
  set_past [] l i j x h = refl
  set_past (y ∷ ys) l i j x h =
      ap (λ (r : List A). sets r (suc j) ys) (set_comm l i j x y (λ e. omega arith)) ∙ set_past ys (set l j y) i (suc j) x (omega arith)

  pub sets_past : (xs ys l : List A) (i j : ℕ) → i + length xs ≤ j → sets (sets l i xs) j ys ≡ sets (sets l j ys) i xs
  sets_past [] ys l i j h = refl
  sets_past (x ∷ xs) ys l i j h =
      sets_past xs ys (set l i x) (suc i) j (omega arith) ∙ ap (λ (r : List A). sets r (suc i) xs) (set_past ys l i j x (omega arith))
