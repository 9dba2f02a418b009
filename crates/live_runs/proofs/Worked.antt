-- Worked runs, by evaluation of the definitions. Assumes nothing.
use mathlib.Core.Path.{◌≡◌, refl}
use mathlib.Core.List.{List, [], ◌∷◌, ◌++◌}
use lib.Ieee.{Float, span, climb, size, odd, units, round, neg, sum, add, sub, mul, div, lt, eq, le, is_nan, of_fields, of_bits}
use Rattle.floats.specs.Ops.{+0, one, two, three}
use Rattle.floats.specs.Limits.{eight_hundred, thousand}
use Rattle.floats.specs.Float.{abs_of}
use Rattle.floats.specs.Root.{better, root_in, whole_root, root_from, in_units, root_of, plain}
use Rattle.geo.specs.declared.types.Point3D.{Point3D}
use Rattle.geo.specs.Domain.{coordinate, within, point3_in, every_from, numbers_in, whole}
use Rattle.geo.specs.Lent.{point_at}
use Rattle.geo.specs.Outcome.{refusal, unless}
use Rattle.deviations.specs.Line.{rooted, line_deviation}
use Rattle.farthest.specs.Farthest.{farther, farthest_of, farthest_in}
use Rattle.farthest.specs.Measure.{chord_of, to_line, line_sq}
use Rattle.live.specs.Thinner.{slot, put, started, behind, cutting, goes_on, push, shut, feed_again, anchored, forgotten, retuned}
use Rattle.live.specs.Calls.{Event, feed, retune, close, state_rows, live_rows, next_of, live_call}
use Rattle.live_runs.specs.Run.{end_under, fed_by, call_then, run_from, run}

abbrev point : Float → Float → Float → Point3D
point x y z = record { x = x; y = y; z = z }

-- along the x axis, and at (2, 0) away from it
abbrev bend : List Event
bend = feed (point +0 +0 +0) ∷ feed (point one +0 one) ∷ feed (point two +0 two) ∷ feed (point two three three) ∷ feed (point two eight_hundred one) ∷ []

-- the corner is handed out once the line leaves it, and the last point by the close; a point after that is refused
pub bend-drawn : (run one (bend ++ close ∷ feed (point one one one) ∷ [])).ends ≡ end_under one (point two +0 two) ∷ end_under one (point two eight_hundred one) ∷ []
unfolding span climb size odd units round neg sum add sub mul div lt eq le is_nan of_fields of_bits abs_of better root_in whole_root root_from in_units root_of plain coordinate within point3_in every_from numbers_in whole point_at refusal unless farther farthest_of farthest_in chord_of to_line line_sq rooted line_deviation slot put started behind cutting goes_on push shut feed_again anchored forgotten retuned state_rows live_rows next_of live_call fed_by call_then run_from run
bend-drawn = refl

-- a point exactly at the tolerance from the line is not below it
pub at_the_tolerance : (run three (feed (point +0 +0 +0) ∷ feed (point one three +0) ∷ feed (point two +0 +0) ∷ [])).ends ≡ end_under three (point one three +0) ∷ []
unfolding span climb size odd units round neg sum add sub mul div lt eq le is_nan of_fields of_bits abs_of better root_in whole_root root_from in_units root_of plain coordinate within point3_in every_from numbers_in whole point_at refusal unless farther farthest_of farthest_in chord_of to_line line_sq rooted line_deviation slot put started behind cutting goes_on push shut feed_again anchored forgotten retuned state_rows live_rows next_of live_call fed_by call_then run_from run
at_the_tolerance = refl

-- a run of one point hands out none
pub one-point : (run one (feed (point one two three) ∷ close ∷ [])).ends ≡ []
unfolding span climb size odd units round neg sum add sub mul div lt eq le is_nan of_fields of_bits abs_of coordinate within point3_in every_from numbers_in whole point_at refusal unless slot put started behind cutting goes_on push shut state_rows live_rows next_of live_call fed_by call_then run_from run
one-point = refl

-- all held at a thousand; turned finer to one, the corner is handed out
pub bend-finer : (run thousand (bend ++ retune one 189 ∷ close ∷ [])).ends ≡ end_under one (point two +0 two) ∷ end_under one (point two eight_hundred one) ∷ []
unfolding span climb size odd units round neg sum add sub mul div lt eq le is_nan of_fields of_bits abs_of better root_in whole_root root_from in_units root_of plain coordinate within point3_in every_from numbers_in whole point_at refusal unless farther farthest_of farthest_in chord_of to_line line_sq rooted line_deviation slot put started behind cutting goes_on push shut feed_again anchored forgotten retuned state_rows live_rows next_of live_call fed_by call_then run_from run
bend-finer = refl
