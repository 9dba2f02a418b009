-- The sum under the listing (document 02, §8), in the bytes that the program prints: "Students add up the steps column." Definitions only; proofs/Sum.antt shows that it holds.
use Rattle.std.specs.Prelude.{ℕ, ◌≤◌, ◌≡◌, List, [], ◌∷◌, ◌++◌, map, length, get_or, drop, eqb, if◌then◌else◌}
use Rattle.geo.specs.Lent.{origin}
use Rattle.geo.specs.Outcome.{refused, gives}
use Rattle.file.specs.Bytes.{number_at}
use Rattle.listing.specs.Rows.{sum_of}
use Rattle.laps.specs.File.{laps_of}
use Rattle.lap_text.specs.Text.{ascii, decimal, comma, newline}
use Rattle.lap_rows.specs.Listing.{laps_steps, most_text}
use Rattle.lap_rows.specs.Demand.{spelled}
use Rattle.printing.specs.Input.{list_input}
use Rattle.lapfit.specs.Input.{lapfit_text}

-- ---- a text, read
-- a byte in front of the first of several texts
unfoldable pub with_first : ℕ → List (List ℕ) → List (List ℕ)
with_first x [] = (x ∷ []) ∷ []
with_first x (t ∷ ts) = (x ∷ t) ∷ ts

-- the texts that each end before a byte b, and what stands behind the last b where that is not empty
unfoldable pub split_by : ℕ → List ℕ → List (List ℕ)
split_by b [] = []
split_by b (x ∷ xs) = if eqb x b then ([] ∷ split_by b xs) else with_first x (split_by b xs)

-- its lines, and the columns of a line
abbrev pub lines_in : List ℕ → List (List ℕ)
lines_in text = split_by newline text

abbrev pub columns_in : List ℕ → List (List ℕ)
columns_in line = split_by comma line

-- the number in the third column
unfoldable pub steps_on : List ℕ → ℕ
steps_on line = spelled 0 (get_or (columns_in line) 2 [])

abbrev pub ThreeColumns : List (List ℕ) → Type 0
ThreeColumns [] = Unit
ThreeColumns (line ∷ lines) = (length (columns_in line) ≡ 3) × ThreeColumns lines

-- ---- what is printed
-- The text has the line that names the columns, rows of three columns, and a last line `total,N`; N is n, and n is what the third column of the rows adds up to.
pub record SumUnder (n : ℕ) (text : List ℕ) : Type 0 where
  pub rows : List (List ℕ)
  pub last : List ℕ
  pub digits : List ℕ
  pub lines : lines_in text ≡ ascii "lap,kind,steps" ∷ (rows ++ (last ∷ []))
  pub columns : ThreeColumns rows
  pub word : columns_in last ≡ ascii "total" ∷ digits ∷ []
  pub says : spelled 0 digits ≡ n
  pub adds : n ≡ sum_of (map steps_on rows)

-- After an accepted file the program prints such a text, n being the number of kept points less one, added over all chains of two or more points; and n is at most 800.
abbrev pub SumIsPrinted : Type 0
SumIsPrinted =
    (s text : List ℕ) → list_input s (most_text 800) ≡ gives text
    → SumUnder (laps_steps (number_at s 0) origin (laps_of (drop 8 s))) (lapfit_text s) × (laps_steps (number_at s 0) origin (laps_of (drop 8 s)) ≤ 800)

-- A refusal prints its one line, and no sum.
abbrev pub RefusalAlone : Type 0
RefusalAlone = (s : List ℕ) (n : ℕ) → list_input s (most_text 800) ≡ refused n → lines_in (lapfit_text s) ≡ (ascii "refused," ++ decimal n) ∷ []
