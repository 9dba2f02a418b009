-- The fit of a lap and what it could write at most; the fit of a file. Definitions only.
use Rattle.std.specs.Prelude.{ℕ, zero, suc, ◌+◌, ◌-◌, not, List, [], ◌∷◌, ◌++◌, map, Float}
use Rattle.geo.specs.declared.types.Point3D.{Point3D}
use Rattle.geo.specs.Lent.{origin}
use Rattle.geo.specs.Domain.{tolerance}
use Rattle.geo.specs.Outcome.{Row, row, refusal, Outcome, unless}
use Rattle.file.specs.Command.{decoded, enc}
use Rattle.pieces.specs.declared.pieces.Rule.{Rule}
use Rattle.pieces.specs.Pieces.{laps_rule, hills_rule}
use Rattle.course.specs.Course.{fit_on, most_on, end_on, lent_course}
use Rattle.laps.specs.File.{Lap, lap_count, laps_of, encode}
use Rattle.laps.specs.Rows.{file_rows, size_rows}

-- ---- where a lap starts: "A lap after the first may lack its Move and then starts at the previous lap's last recorded end" (document 02, §13)
-- where a lap ends that starts at p: with its last recorded command, of whatever kind
unfoldable pub lap_end : Point3D → Lap → Point3D
lap_end p l = end_on p (map decoded l)

-- where the lap of index i starts, the first lap starting at p
unfoldable pub start_from : Point3D → List Lap → ℕ → Point3D
start_from p [] i = p
start_from p (l ∷ ls) zero = p
start_from p (l ∷ ls) (suc i) = start_from (lap_end p l) ls i

-- the lap of number k in a course; the first lap's start, the origin, does not matter, since that lap has its Move
unfoldable pub start_of : ℕ → List Lap → Point3D
start_of k ls = start_from origin ls (k - 1)

-- ---- the fit by the rule r of a lap that starts at p, and of laps, the first of which does
unfoldable pub fit_lap : Rule → Point3D → Lap → Lap
fit_lap r p l = map enc (fit_on r p (map decoded l))

unfoldable pub fit_laps : Rule → Point3D → List Lap → List Lap
fit_laps r p [] = []
fit_laps r p (l ∷ ls) = fit_lap r p l ∷ fit_laps r (lap_end p l) ls

-- "for a course, its Moves and Arcs plus that of each chain, Bezier steps counted"; of a file, all laps of it
unfoldable pub most_lap : Float → Point3D → Lap → ℕ
most_lap tol p l = most_on tol p (map decoded l)

unfoldable pub laps_most : Float → Point3D → List Lap → ℕ
laps_most tol p [] = 0
laps_most tol p (l ∷ ls) = most_lap tol p l + laps_most tol (lap_end p l) ls

-- the fit of commands that are lent as the kinds ks and the numbers ns
unfoldable pub fit_new : Rule → Point3D → List ℕ → List Float → Lap
fit_new r p ks ns = map enc (fit_on r p (lent_course ks ns))

-- ---- the fit of the file s into an output of `room` bytes
unfoldable pub file_fit_rows : List ℕ → Float → ℕ → List Row
file_fit_rows s tol room = file_rows s ++ (row 6 (not (tolerance tol)) ∷ size_rows (lap_count s) (laps_most tol origin (laps_of s)) room)

-- by the rule r, under a new table
unfoldable pub fit_file_by : Rule → List ℕ → ℕ → Outcome (List ℕ)
fit_file_by r s room = unless (refusal (file_fit_rows s r.tolerance room)) (encode (fit_laps r origin (laps_of s)))

-- "The fit of a file is `fit_arcs` of each lap under a new table"
abbrev pub fit_file : List ℕ → Float → ℕ → Outcome (List ℕ)
fit_file s tol room = fit_file_by (laps_rule tol) s room

-- "Add a lap fit that makes no new Arcs [..], keeps recorded ones, and whose thinning and line test use x, y and z" (document 02, §14): the same refusals, mosts and layout
abbrev pub hill_file : List ℕ → Float → ℕ → Outcome (List ℕ)
hill_file s tol room = fit_file_by (hills_rule tol) s room
