-- The lap file that a text is read to (document 02, §11), and the rows that refuse it. Definitions only.
use Rattle.std.specs.Prelude.{ℕ, Bool, true, false, not, ◌||◌, List, [], ◌∷◌, map, length, ltb, if◌then◌else◌}
use Rattle.geo.specs.Domain.{command_in}
use Rattle.geo.specs.Outcome.{Row, row, refusal, Outcome, refused, gives, unless}
use Rattle.file.specs.Command.{enc}
use Rattle.laps.specs.File.{Lap, encode}
use Rattle.laps.specs.Rows.{file_size}
use Rattle.svg_text.specs.Path.{Drawn, move, line, curve, named}
use Rattle.svg_text.specs.Drawing.{drawn}

-- "Each M opens a lap": the commands up to the next M, and the laps
unfoldable pub until_move : List Drawn → List Drawn
until_move [] = []
until_move (move x y ∷ cs) = []
until_move (line x y ∷ cs) = line x y ∷ until_move cs
until_move (curve a b c d x y ∷ cs) = curve a b c d x y ∷ until_move cs

unfoldable pub laps_drawn : List Drawn → List (List Drawn)
laps_drawn [] = []
laps_drawn (move x y ∷ cs) = (move x y ∷ until_move cs) ∷ laps_drawn cs
laps_drawn (line x y ∷ cs) = laps_drawn cs
laps_drawn (curve a b c d x y ∷ cs) = laps_drawn cs

-- a command's 73 bytes; the laps; "the result is a lap file"
abbrev pub inked : Drawn → List ℕ
inked c = enc (drawn c)

unfoldable pub course_laps : List Drawn → List Lap
course_laps cs = map (map inked) (laps_drawn cs)

unfoldable pub course_file : List Drawn → List ℕ
course_file cs = encode (course_laps cs)

-- whether each number lies in the domain
unfoldable pub all_in : List Drawn → Bool
all_in [] = true
all_in (c ∷ cs) = if command_in (drawn c) then all_in cs else false

-- "after it come lap and command counts (2), 5 and 9, the most being the command count": of so many laps and commands, whose numbers lie in the domain or not
unfoldable pub read_rows : ℕ → ℕ → Bool → ℕ → List Row
read_rows laps commands inside room =
    row 2 (ltb 64 laps || ltb 800 commands) ∷ row 5 (not inside) ∷ row 9 (ltb room (file_size laps commands)) ∷ []

-- what becomes of a text that names commands, or breaks the rules
unfoldable pub made : ℕ → Outcome (List Drawn) → Outcome (List ℕ)
made room (refused n) = refused n
made room (gives cs) = unless (refusal (read_rows (length (laps_drawn cs)) (length cs) (all_in cs) room)) (course_file cs)

-- "only a text above 65,536 bytes (2) is met before" 14
unfoldable pub read_course : List ℕ → ℕ → Outcome (List ℕ)
read_course t room = if ltb 65536 (length t) then refused 2 else made room (named t)
