-- The listing of a recorded file as text: which row of document 01's table refuses it, else its bytes. Definitions only.
use Rattle.std.specs.Prelude.{ℕ, ◌+◌, ◌*◌, not, List, [], ◌∷◌, ◌++◌, map, ltb, Float}
use Rattle.geo.specs.declared.types.Point3D.{Point3D}
use Rattle.geo.specs.Domain.{tolerance}
use Rattle.geo.specs.Lent.{origin}
use Rattle.geo.specs.Outcome.{Row, row, refusal, Outcome, unless}
use Rattle.file.specs.Command.{decoded}
use Rattle.pieces.specs.Pieces.{laps_rule}
use Rattle.course.specs.Course.{parts_on}
use Rattle.listing.specs.Rows.{ListRow, rows_on, chains_steps}
use Rattle.laps.specs.File.{Lap, laps_of}
use Rattle.laps.specs.Rows.{file_rows}
use Rattle.lap_fit.specs.Fit.{lap_end, laps_most}
use Rattle.lap_text.specs.Text.{ascii, rows_text, total_text}

-- the rows of a lap are those of its commands from its start p; its text has a line for each
unfoldable pub lap_rows : Float → Point3D → Lap → List ListRow
lap_rows tol p l = rows_on (laps_rule tol) p (map decoded l)

unfoldable pub lap_text : Float → ℕ → Point3D → Lap → List ℕ
lap_text tol lap p l = rows_text lap (lap_rows tol p l)

-- the laps from number j on, which starts at p; each other one starts where the lap before it ends (document 02, §13)
unfoldable pub laps_text : Float → ℕ → Point3D → List Lap → List ℕ
laps_text tol j p [] = []
laps_text tol j p (l ∷ ls) = lap_text tol j p l ++ laps_text tol (j + 1) (lap_end p l) ls

abbrev pub header : List ℕ
header = ascii "lap,kind,steps\n"

-- ---- the sum under the listing (document 02, §8)
-- "the number of kept points less one, added over all chains of two or more points": of a lap, and of several
unfoldable pub lap_steps : Float → Point3D → Lap → ℕ
lap_steps tol p l = chains_steps (laps_rule tol) (parts_on tol p (map decoded l))

unfoldable pub laps_steps : Float → Point3D → List Lap → ℕ
laps_steps tol p [] = 0
laps_steps tol p (l ∷ ls) = lap_steps tol p l + laps_steps tol (lap_end p l) ls

-- ---- the whole
unfoldable pub list_text : Float → List Lap → List ℕ
list_text tol ls = header ++ laps_text tol 1 origin ls ++ total_text (laps_steps tol origin ls)

-- ---- the listing of the file s into an output of `room` bytes
-- room for the first line, `most` rows and the last line: a row has at most nine bytes, as a lap's number is at most 64 and its steps at most 800; the last line has at most ten, as the sum is at most 800 too
abbrev pub most_text : ℕ → ℕ
most_text most = 15 + 9 * most + 10

unfoldable pub text_rows : List ℕ → Float → ℕ → List Row
text_rows s tol room =
    file_rows s ++ (row 6 (not (tolerance tol)) ∷ row 8 (ltb 800 (laps_most tol origin (laps_of s))) ∷ row 9 (ltb room (most_text (laps_most tol origin (laps_of s)))) ∷ [])

unfoldable pub list_file : List ℕ → Float → ℕ → Outcome (List ℕ)
list_file s tol room = unless (refusal (text_rows s tol room)) (list_text tol (laps_of s))
