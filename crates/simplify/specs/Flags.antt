-- The code's own way: keep flags, and the copying of what they keep. What a reader has to believe stands in Thin.antt and Data.antt. Definitions only.
use Rattle.std.specs.Prelude.{ℕ, ◌≡◌, Bool, true, List, [], ◌∷◌, length, set}
use Rattle.std.proofs.lemmas.List.Edits.{sets}
use Rattle.geo.specs.Lent.{flat}

-- the flags, with those at these indices set
unfoldable pub marked : List ℕ → List Bool → List Bool
marked [] l = l
marked (k ∷ ks) l = marked ks (set l k true)

-- the items xs written from the front of out on, each as the numbers that `row` gives, and counted
pub record Copied {A B : Type 0} (row : A → List B) (xs : List A) (out out' : List B) (r : ℕ) : Type 0 where
  pub count : r ≡ length xs
  pub items : out' ≡ sets out 0 (flat row xs)
