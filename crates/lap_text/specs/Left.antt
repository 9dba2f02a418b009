-- The code's own way: what a function that writes text leaves, and rows that stand in two columns. Definitions only.
use Rattle.std.specs.Prelude.{ℕ, ◌+◌, ◌≡◌, List, length, get_or}
use Rattle.std.proofs.lemmas.List.Edits.{sets}
use Rattle.geo.specs.Walk.{list_from}
use Rattle.listing.specs.Rows.{ListRow}

-- a text written from place `at` on, which ends before place `end`
pub record TextPut (text out out' : List ℕ) (at end : ℕ) : Type 0 where
  pub ends : end ≡ at + length text
  pub bytes : out' ≡ sets out at text

abbrev pub listed : ℕ → ℕ → ListRow
listed kind steps = record { kind = kind; steps = steps }

-- the n rows from index i on, of which ks are the kinds and ss the steps
abbrev pub row_at : List ℕ → List ℕ → ℕ → ListRow
row_at ks ss i = listed (get_or ks i 0) (get_or ss i 0)

unfoldable pub rows_from : List ℕ → List ℕ → ℕ → ℕ → List ListRow
rows_from ks ss n i = list_from (row_at ks ss) n i
