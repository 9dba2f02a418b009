-- The rows of document 01's table that are of a file, and of the size of what is written. Definitions only.
use Rattle.std.specs.Prelude.{ℕ, ◌+◌, ◌*◌, true, not, List, [], ◌∷◌, ltb}
use Rattle.geo.specs.Outcome.{Row, row}
use Rattle.laps.specs.File.{laps_of, short, big, table_ok, form_ok, domain_ok, laps_ok}

-- rows 4 and 5 of a file
abbrev pub commands_rows : List ℕ → List Row
commands_rows s = row 4 (not (laps_ok form_ok true (laps_of s))) ∷ row 5 (not (laps_ok domain_ok true (laps_of s))) ∷ []

-- rows 1 to 5 of a file
unfoldable pub file_rows : List ℕ → List Row
file_rows s = row 1 (short s) ∷ row 2 (big s) ∷ row 3 (not (table_ok s)) ∷ commands_rows s

-- "A file needs 8 + 8 × L + 73 × most bytes"
abbrev pub file_size : ℕ → ℕ → ℕ
file_size laps most = 8 + 8 * laps + 73 * most

-- rows 8 and 9 of `laps` laps and `most` commands
unfoldable pub size_rows : ℕ → ℕ → ℕ → List Row
size_rows laps most room = row 8 (ltb 800 most) ∷ row 9 (ltb room (file_size laps most)) ∷ []
