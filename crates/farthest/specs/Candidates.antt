-- The code's own way: a search that measures each item by its end, if it is a candidate for a cut. What a reader has to believe stands in Measure.antt and Ends.antt. Definitions, and a law of each measure.
use Rattle.std.specs.Prelude.{◌≡◌, refl, Option, None, Some, Float, if◌then◌else◌}
use Rattle.floats.specs.Ops.{+0}
use Rattle.geo.specs.declared.types.Point.{Point}
use Rattle.geo.specs.declared.types.Point3D.{Point3D}
use Rattle.geo.specs.declared.types.Command.{Command}
use Rattle.geo.specs.declared.types.Command.TheVariants.{Move, Line, Arc, Bezier}
use Rattle.geo.specs.Lent.{end_of}
use Rattle.farthest.specs.declared.farthest.Chord.{Chord}
use Rattle.farthest.specs.Measure.{chord_of, to_line, line_sq, plane_sq, raised}
use Rattle.farthest.specs.Ends.{is_move, to_command, command_sq}

-- the distance of the end of an item that is a candidate; what is none counts as on the chord
abbrev pub to_end : Chord → Option Point3D → Float
to_end chord None = +0
to_end chord (Some p) = to_line chord p

-- a command's end, unless it is a Move
unfoldable pub candidate_of : Command → Option Point3D
unfolding is_move
candidate_of c = if is_move c then None else Some (end_of c)

-- the measures of pairs, triples and commands are by their ends
pub pairs_measured : (a b p : Point) → plane_sq a b p ≡ to_end (chord_of (raised a) (raised b)) (Some (raised p))
unfolding plane_sq line_sq
pairs_measured a b p = refl

pub points_measured : (a b p : Point3D) → line_sq a b p ≡ to_end (chord_of a b) (Some p)
unfolding line_sq
points_measured a b p = refl

pub commands_measured : (a b c : Command) → command_sq a b c ≡ to_end (chord_of (end_of a) (end_of b)) (candidate_of c)
unfolding command_sq to_command candidate_of is_move
commands_measured a b (Move p) = refl
commands_measured a b (Line p) = refl
commands_measured a b (Arc p o n) = refl
commands_measured a b (Bezier p c d) = refl
