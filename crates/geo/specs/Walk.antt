-- Walks along indices: a state carried from one to the next, and the list of what stands at each. Definitions only.
use Rattle.std.specs.Prelude.{ℕ, zero, suc, ◌+◌, List, [], ◌∷◌}

-- a state carried over the n indices from i on
unfoldable pub fold : {A : Type 0} → (ℕ → A → A) → ℕ → ℕ → A → A
fold f zero i a = a
fold f (suc n) i a = fold f n (i + 1) (f i a)

-- the n items from index i on
unfoldable pub list_from : {A : Type 0} → (ℕ → A) → ℕ → ℕ → List A
list_from f zero i = []
list_from f (suc n) i = f i ∷ list_from f n (i + 1)
