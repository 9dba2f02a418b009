-- The table of worked laps holds, and what stands beside it: each row by evaluation of the definitions. Assumes nothing.
use mathlib.Core.Path.{refl}
use lib.Ieee.{span, climb, size, odd, units, round, neg, sum, add, sub, mul, div, lt, eq, le, is_nan, of_int, to_unsigned, of_fields, of_bits, to_bits}
use Rattle.farthest.specs.Measure as line
use Rattle.circle.specs.Collinear as collin
use Rattle.floats.specs.Float.{abs_of, ceil_of, max_of, clamp_of}
use Rattle.floats.specs.Root.{better, root_in, whole_root, root_from, in_units, root_of, plain}
use Rattle.geo.specs.Domain.{coordinate, centre, within, is_finite, is_plus_zero, point_in, point3_in, every_from, numbers_in, whole, zero3, finite3, formed, commands_formed, command_in, commands_in}
use Rattle.geo.specs.Lent.{point_at, flat, end_of, kind_of, numbers_of, command_of, command_at, commands_from}
use Rattle.geo.specs.Outcome.{refusal, unless}
use Rattle.geo.specs.Vector.{length_of, distance_sq, distance, cross3, dot3}
use Rattle.geo.specs.Walk.{fold, list_from}
use Rattle.arc.specs.Direction.{turn_at, cross_sum, clockwise}
use Rattle.segment.specs.Segment.{parameter_of, off_foot, segment_on, segment_sq}
use Rattle.farthest.specs.Farthest.{farther, farthest_of, farthest_in}
use Rattle.farthest.specs.Measure.{to_line, line_sq}
use Rattle.simplify.specs.Simplify.{simplify_polyline3d}
use Rattle.simplify.specs.Thin.{kept_by, thinned, thinned_points}
use Rattle.circle.specs.Bisector.{moved_by, projected}
use Rattle.circle.specs.Calls.{points_rows}
use Rattle.circle.specs.Collinear.{near_to, beside_of, all_near, all_beside, collinear_by, collinear}
use Rattle.circle.specs.Kasa.{plus, sums_of, scaled, det_of, inverse_times, solved, matrix_of, sides_of, centered, kasa_center}
use Rattle.circle.specs.Three.{area_of, turn_of, center3, radius_from, center_by, center_three, circle_round, through_three}
use Rattle.circle.specs.Worst.{worse, worst}
use Rattle.trial.specs.Deviation.{spoke_of, cosine, sagitta_of, ends_of, step_of, step_between, arc_deviation}
use Rattle.trial.specs.Traversal.{offset_of, cross2, dot2, at_centre, half_of, turned, turns_of, just_behind, just_ahead, passes_by, away_from, traverses}
use Rattle.trial.specs.Trial.{sharp_turn, sharp_at, closed_range, measured_by, going_round, of_measured, trial_round, trial_of, of_circle, of_center, trial_three, trial_least, three_tried, least_tried, or_else, try_arcs}
use Rattle.fitting.specs.Calls.{fit_rows, fit_call, worst_call}
use Rattle.pieces.specs.Commands.{normal_of, shaped, piece_command, fit_in, worst_step, piece_worst, worst_in, chain_fit}
use Rattle.deviations.specs.Line.{rooted, line_deviation}
use Rattle.pieces.specs.Pieces.{arc_or_cut, choose_by, choice, follow, pieces_by}
use Rattle.bezier.specs.Linearize.{steps, first_third, last_third, polygon_length, step_count, steps_needed, param_steps}
use Rattle.geo.specs.Vector as vector
use Rattle.file.specs.Bytes.{half_at, word_at, u32_bytes, f64_bytes, number_at}
use Rattle.file.specs.Command.{point_from, decoded, well_formed, commands_at, laid, enc}
use Rattle.chain.specs.Parts as parts
use Rattle.chain.specs.Parts.{closed, carried, parts_from, part_fit, part_most, fit_of}
use Rattle.chain.specs.Joins.{joined}
use Rattle.course.specs.Course.{parts_on, fit_on, most_on, end_on, room_rows, arcs_rows, arcs_call}
use Rattle.laps.specs.File.{lap_count, offset_at, count_at, laps_at, laps_of, body, bodies, table, encode, command_count, short, big, has_mark, walk, table_ok, lacks, placed, form_ok, domain_ok, lap_ok, lap_tested, laps_ok}
use Rattle.laps.specs.Rows.{file_rows, size_rows}
use Rattle.lap_fit.specs.Fit.{lap_end, start_from, start_of, fit_lap, fit_laps, most_lap, laps_most, fit_new, file_fit_rows, fit_file_by}
use Rattle.lap_swap.specs.Swap.{swap_both, next_lacks, next_lap, most_both, replaced_laps}
use Rattle.lap_checks.specs.Checks.{lent_whole, move_placed, lent_formed, row1, row2, row3, row4, row5, row7, table_rows, later_rows, new_rows, most_with, replace_rows}
use Rattle.lap_replace.specs.Replace.{replace_lap}
use Rattle.lap_replace.specs.Worked.{WorkedLaps, OutAndBack, centre-right}

pub worked_laps : WorkedLaps
unfolding centre-right span climb size odd units round neg sum add sub mul div lt eq le is_nan of_int of_fields of_bits abs_of max_of clamp_of better root_in whole_root root_from in_units root_of plain coordinate centre within point_in point3_in every_from numbers_in whole point_at flat end_of kind_of numbers_of refusal unless length_of distance_sq distance fold list_from turn_at cross_sum clockwise farther farthest_of farthest_in to_line line_sq simplify_polyline3d kept_by thinned thinned_points moved_by projected points_rows near_to beside_of all_near all_beside collinear_by collinear plus sums_of cross3 dot3 scaled det_of inverse_times solved matrix_of sides_of centered kasa_center area_of turn_of center3 radius_from center_by center_three circle_round through_three worse worst spoke_of cosine sagitta_of ends_of step_of step_between arc_deviation offset_of cross2 dot2 at_centre half_of turned turns_of just_behind just_ahead passes_by away_from traverses sharp_turn sharp_at closed_range measured_by going_round of_measured trial_round trial_of of_circle of_center trial_three trial_least three_tried least_tried or_else try_arcs fit_rows fit_call worst_call normal_of shaped piece_command fit_in worst_step piece_worst worst_in rooted line_deviation arc_or_cut choose_by choice follow pieces_by line.chord_of collin.ends_chord ceil_of steps first_third last_third polygon_length step_count steps_needed param_steps to_unsigned vector.distance3 half_at u32_bytes lap_count laps_at laps_of bodies table encode short big has_mark walk table_ok laps_ok fit_laps laps_most file_rows size_rows file_fit_rows fit_file_by parameter_of off_foot segment_on segment_sq
worked_laps =
    record {
      root_of_25 = refl;
      no_points = refl;
      one-point = refl;
      two-equal-points = refl;
      straight = refl;
      there_and_back = refl;
      sharp = refl;
      bend_as_a_line = refl;
      bend_as_an_arc = refl;
      bend_as_two-lines = refl;
      least-tolerance = refl;
      no_tolerance = refl;
      curve_of_equal-points = refl;
      empty_file = refl;
      first_trial = refl;
      second_trial = refl;
      left-bend_as_an_arc = refl;
      bend-worst = refl;
    }

-- The out-and-back as a lap keeps its far turn.
pub out_and_back : OutAndBack
unfolding span climb size odd units round neg sum add sub mul div lt eq le is_nan of_int of_fields of_bits to_bits abs_of max_of clamp_of better root_in whole_root root_from in_units root_of plain coordinate centre within is_finite is_plus_zero point_in point3_in every_from numbers_in whole zero3 finite3 formed commands_formed command_in commands_in point_at flat end_of kind_of numbers_of command_of command_at commands_from refusal unless length_of distance_sq distance fold list_from turn_at cross_sum clockwise farther farthest_of farthest_in parameter_of off_foot segment_on segment_sq kept_by thinned thinned_points moved_by projected near_to beside_of all_near all_beside collinear_by collinear plus sums_of cross3 dot3 scaled det_of inverse_times solved matrix_of sides_of centered kasa_center area_of turn_of center3 radius_from center_by center_three circle_round through_three worse worst spoke_of cosine sagitta_of ends_of step_of step_between arc_deviation offset_of cross2 dot2 at_centre half_of turned turns_of just_behind just_ahead passes_by away_from traverses sharp_turn sharp_at closed_range trial_round trial_of of_circle of_center trial_three trial_least or_else try_arcs normal_of shaped piece_command fit_in chain_fit rooted line_deviation arc_or_cut choose_by choice follow pieces_by line.chord_of collin.ends_chord ceil_of to_unsigned vector.distance3 half_at word_at u32_bytes f64_bytes number_at point_from decoded well_formed commands_at laid enc parts.most_of closed carried parts_from part_fit part_most fit_of joined parts_on fit_on most_on end_on room_rows arcs_rows arcs_call lap_count offset_at count_at laps_at laps_of body bodies table encode command_count short big has_mark walk table_ok placed lacks form_ok domain_ok lap_ok lap_tested laps_ok file_rows size_rows fit_lap most_lap laps_most lap_end start_from start_of fit_laps fit_new file_fit_rows fit_file_by lent_whole move_placed lent_formed row1 row2 row3 row4 row5 row7 table_rows later_rows new_rows most_with swap_both next_lacks next_lap most_both replaced_laps replace_rows replace_lap
out_and_back = record { fitted = refl; replaced = refl; by_fit_arcs = refl }
