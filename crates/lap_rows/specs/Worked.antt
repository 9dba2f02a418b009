-- The right-angle case of document 01 as a lap file, and its listing. Definitions only; proofs/Worked.antt shows that it holds.
use Rattle.std.specs.Prelude.{ℕ, ◌≡◌, List, [], ◌∷◌, map}
use Rattle.geo.specs.declared.types.Command.{Command}
use Rattle.geo.specs.declared.types.Command.TheVariants.{Move, Line}
use Rattle.geo.specs.Outcome.{gives}
use Rattle.file.specs.Command.{enc}
use Rattle.floats.specs.Limits.{fraction}
use Rattle.laps.specs.File.{encode}
use Rattle.lap_replace.specs.Worked.{point}
use Rattle.lap_text.specs.Text.{ascii}
use Rattle.lap_rows.specs.Listing.{list_file}

-- "as one lap of a Move and two Lines"
abbrev pub angle : List Command
angle = Move (point 0 0) ∷ Line (point 10 0) ∷ Line (point 10 10) ∷ []

abbrev pub angle-file : List ℕ
angle-file = encode (map enc angle ∷ [])

-- its listing at 0.5, as document 01 prints it, with the sum under it, to an output with room for three rows: 25 bytes and nine a row
abbrev pub RightAngle : Type 0
RightAngle = list_file angle-file (fraction 1 2) 52 ≡ gives (ascii "lap,kind,steps\n1,M,0\n1,L,1\n1,L,1\ntotal,2\n")

-- a file of no laps
abbrev pub NoLaps : Type 0
NoLaps = list_file (encode []) (fraction 1 2) 25 ≡ gives (ascii "lap,kind,steps\ntotal,0\n")
