-- How far a command lies from a chord: by its end, and Moves have a rule of their own. Definitions only.
use Rattle.std.specs.Prelude.{Bool, true, false, Float, if◌then◌else◌}
use Rattle.floats.specs.Ops.{+0}
use Rattle.geo.specs.declared.types.Command.{Command}
use Rattle.geo.specs.declared.types.Command.TheVariants.{Move, Line, Arc, Bezier}
use Rattle.geo.specs.Lent.{end_of}
use Rattle.farthest.specs.declared.farthest.Chord.{Chord}
use Rattle.farthest.specs.Measure.{Measure, chord_of, to_line}

unfoldable pub is_move : Command → Bool
is_move (Move p) = true
is_move (Line p) = false
is_move (Arc p o n) = false
is_move (Bezier p c d) = false

-- The distance of a command to a chord is that of its end; but no Move is a candidate for a cut: it counts as on the chord, and so is never farther than another.
unfoldable pub to_command : Chord → Command → Float
unfolding is_move to_line
to_command chord c = if is_move c then +0 else to_line chord (end_of c)

unfoldable pub command_sq : Measure Command
unfolding chord_of to_command
command_sq a b c = to_command (chord_of (end_of a) (end_of b)) c
