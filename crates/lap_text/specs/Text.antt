-- The text of a listing's lines, and of a refusal. Definitions only.
-- "It lists lap, kind letter (M, L, A) and steps of the thinned chain covered (0 for M and a kept Arc)" (document 01, "Worked laps").
use Rattle.std.specs.Prelude.{ℕ, zero, suc, ◌+◌, ◌/◌, ◌%◌, List, [], ◌∷◌, ◌++◌, ltb, if◌then◌else◌}
use Prim.Native.Char.{code}
use Prim.Native.String.{String, len, char_at}
use Rattle.geo.specs.Lent.{flat}
use Rattle.geo.specs.Walk.{list_from}
use Rattle.listing.specs.Rows.{ListRow, letter_of}

-- the bytes of a text of ASCII characters
unfoldable pub ascii : String → List ℕ
ascii text = list_from (λ i. code (char_at text i)) (len text) 0

-- a number's decimal digits, with no zero in front: at most `more` of them, and a number has no more digits than one more than itself
unfoldable pub digits_by : ℕ → ℕ → List ℕ
digits_by zero n = []
digits_by (suc more) n = if ltb n 10 then ((48 + n) ∷ []) else (digits_by more (n / 10) ++ ((48 + n % 10) ∷ []))

unfoldable pub decimal : ℕ → List ℕ
decimal n = digits_by (suc n) n

abbrev pub comma : ℕ
comma = 44

abbrev pub newline : ℕ
newline = 10

-- one line: lap, kind letter, steps
unfoldable pub row_text : ℕ → ListRow → List ℕ
row_text lap r = decimal lap ++ (comma ∷ letter_of r.kind ∷ comma ∷ []) ++ decimal r.steps ++ (newline ∷ [])

-- a line for each row of a lap
unfoldable pub rows_text : ℕ → List ListRow → List ℕ
rows_text lap rs = flat (row_text lap) rs

-- "a line `total,N`"
unfoldable pub total_text : ℕ → List ℕ
total_text n = ascii "total," ++ decimal n ++ (newline ∷ [])

-- "A refusal prints the one line `refused,N`"
unfoldable pub refusal_text : ℕ → List ℕ
refusal_text n = ascii "refused," ++ decimal n ++ (newline ∷ [])
