-- What a call comes to: the number of a refusal, or a value. Document 01's table of causes is a list of rows, and the first row that fails decides. Definitions only.
use Rattle.std.specs.Prelude.{ℕ, zero, suc, ◌*◌, Bool, List, [], ◌∷◌, ◌++◌, ◌≡◌, length, drop, if◌then◌else◌}
use Rattle.std.proofs.lemmas.List.Edits.{sets}
use Rattle.geo.specs.Lent.{flat}

-- one row of the table: its number, and whether the call's arguments fall under it
pub data Row : Type 0 where
  row : ℕ → Bool → Row

-- the number of the first row that the arguments fall under, or 0
unfoldable pub refusal : List Row → ℕ
refusal [] = 0
refusal (row n fails ∷ rows) = if fails then n else refusal rows

pub data Outcome (A : Type 0) : Type 0 where
  refused : ℕ → Outcome A
  gives : A → Outcome A

-- a refusal by this number, or a value where it is 0
unfoldable pub unless : {A : Type 0} → ℕ → A → Outcome A
unless zero a = gives a
unless (suc n) a = refused (suc n)

-- ---- a call that writes items to a lent output: `lay` lays them out as numbers
-- the output afterwards: the items, and then what stood there; all as it was where the call is refused
unfoldable pub left : {A B : Type 0} → (List A → List B) → List B → Outcome (List A) → List B
left lay out (refused n) = out
left lay out (gives xs) = lay xs ++ drop (length (lay xs)) out

-- n items written from place `at` on, `width` numbers each
pub record Placed {A B : Type 0} (item : A → List B) (width : ℕ) (xs : List A) (at n : ℕ) (out out' : List B) : Type 0 where
  pub count : n ≡ length xs
  pub stored : out' ≡ sets out (width * at) (flat item xs)
