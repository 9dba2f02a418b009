-- The courses of `fit_arcs` and of `optimize_path_from_array`. Definitions only.
use Rattle.std.specs.Prelude.{ℕ, ◌-◌, ◌/◌, Bool, true, false, List, [], ◌∷◌, ◌++◌, map, length, drop, ltb, Float}
use Rattle.geo.specs.declared.types.Point3D.{Point3D}
use Rattle.geo.specs.declared.types.Command.{Command}
use Rattle.geo.specs.declared.types.Command.TheVariants.{Line}
use Rattle.geo.specs.Lent.{point_at, triple, origin, end_of, commands_from}
use Rattle.geo.specs.Domain.{most_commands}
use Rattle.geo.specs.Commands.{input_rows}
use Rattle.geo.specs.Outcome.{Row, row, refusal, Outcome, unless}
use Rattle.simplify.specs.Simplify.{command_rows}
use Rattle.pieces.specs.declared.pieces.Rule.{Rule}
use Rattle.pieces.specs.Pieces.{points_rule, laps_rule}
use Rattle.pieces.specs.Commands.{fit_in, kept_of, chain_fit}
use Rattle.chain.specs.Parts.{Part, parts_from, most_of, fit_of}
use Rattle.chain.specs.Joins.{joined, lines_joined}

-- ---- commands from a start: document 02, §13, "A lap after the first may lack its Move and then starts at the previous lap's last recorded end"
-- the chains and kept commands, in order, of commands that start at p: the first chain has p as its first point
unfoldable pub parts_on : Float → Point3D → List Command → List Part
parts_on tol p cs = parts_from (joined tol) p (triple p) cs

-- their fit by a rule: each chain thinned and fitted
unfoldable pub fit_on : Rule → Point3D → List Command → List Command
fit_on r p cs = fit_of (chain_fit r) (parts_on r.tolerance p cs)

-- their most: their Moves and Arcs, and that of each chain, Bezier steps counted
unfoldable pub most_on : Float → Point3D → List Command → ℕ
most_on tol p cs = most_of (parts_on tol p cs)

-- where they end: at the end of the last one, of whatever kind
unfoldable pub end_on : Point3D → List Command → Point3D
end_on p [] = p
end_on p (c ∷ cs) = end_on (end_of c) cs

-- ---- a course of `fit_arcs`, "which needs no Move": the Rust starts it at the origin
abbrev pub course_fit : Rule → List Command → List Command
course_fit r cs = fit_on r origin cs

abbrev pub course_most : Float → List Command → ℕ
course_most tol cs = most_on tol origin cs

-- the commands that are lent as the kinds ks and the numbers ns
abbrev pub lent_course : List ℕ → List Float → List Command
lent_course ks ns = commands_from ks ns (length ks) 0

-- rows 8 and 9, of the most and outputs of `kinds` kinds and `numbers` numbers
unfoldable pub room_rows : ℕ → ℕ → ℕ → List Row
room_rows most kinds numbers = row 8 (ltb most_commands most) ∷ row 9 (ltb kinds most) ∷ row 9 (ltb (numbers / 9) most) ∷ []

unfoldable pub arcs_rows : List ℕ → List Float → Float → ℕ → ℕ → List Row
arcs_rows ks ns tol kinds numbers = input_rows ks ns tol numbers ++ room_rows (course_most tol (lent_course ks ns)) kinds numbers

unfoldable pub arcs_call : List ℕ → List Float → Float → ℕ → ℕ → Outcome (List Command)
arcs_call ks ns tol kinds numbers = unless (refusal (arcs_rows ks ns tol kinds numbers)) (course_fit (laps_rule tol) (lent_course ks ns))

-- ---- optimize_path_from_array: a chain is fitted as it stands where arcs are asked for, else thinned to Lines. The most is the command count
unfoldable pub optimized_chain : Bool → Float → List Float → List Command
optimized_chain true tol s = fit_in (points_rule tol) (point_at s) 0 (length s / 3 - 1)
optimized_chain false tol s = map Line (drop 1 (kept_of (points_rule tol) s))

unfoldable pub optimized : Bool → Float → List Command → List Command
optimized arcs tol cs = fit_of (optimized_chain arcs tol) (parts_from lines_joined origin (triple origin) cs)

unfoldable pub optimize_call : List ℕ → List Float → Float → Bool → ℕ → ℕ → Outcome (List Command)
optimize_call ks ns tol arcs kinds numbers = unless (refusal (command_rows ks ns tol kinds numbers)) (optimized arcs tol (lent_course ks ns))
