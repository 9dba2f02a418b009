-- The right-angle case of document 01, listed: by evaluation of the definitions. Assumes nothing.
use mathlib.Core.Path.{refl}
use lib.Ieee.{span, climb, size, odd, units, round, neg, sum, add, sub, mul, div, lt, eq, le, is_nan, of_int, to_unsigned, of_fields, of_bits, to_bits}
use Rattle.farthest.specs.Measure as line
use Rattle.circle.specs.Collinear as collin
use Rattle.floats.specs.Float.{abs_of, ceil_of, max_of, clamp_of}
use Rattle.floats.specs.Root.{better, root_in, whole_root, root_from, in_units, root_of, plain}
use Rattle.geo.specs.Domain.{coordinate, centre, within, is_finite, is_plus_zero, point_in, point3_in, every_from, zero3, finite3, formed, command_in}
use Rattle.geo.specs.Lent.{point_at, flat, end_of, kind_of, numbers_of, command_of}
use Rattle.geo.specs.Outcome.{refusal, unless}
use Rattle.geo.specs.Vector.{length_of, distance_sq, distance, cross3, dot3}
use Rattle.geo.specs.Walk.{fold, list_from}
use Rattle.arc.specs.Direction.{turn_at, cross_sum, clockwise}
use Rattle.segment.specs.Segment.{parameter_of, off_foot, segment_on, segment_sq}
use Rattle.farthest.specs.Farthest.{farther, farthest_of, farthest_in}
use Rattle.farthest.specs.Measure.{to_line, line_sq}
use Rattle.simplify.specs.Thin.{kept_by, thinned, thinned_points}
use Rattle.circle.specs.Bisector.{moved_by, projected}
use Rattle.circle.specs.Collinear.{near_to, beside_of, all_near, all_beside, collinear_by, collinear}
use Rattle.circle.specs.Kasa.{plus, sums_of, scaled, det_of, inverse_times, solved, matrix_of, sides_of, centered, kasa_center}
use Rattle.circle.specs.Three.{area_of, turn_of, center3, radius_from, center_by, center_three, circle_round, through_three}
use Rattle.circle.specs.Worst.{worse, worst}
use Rattle.trial.specs.Deviation.{spoke_of, cosine, sagitta_of, ends_of, step_of, step_between, arc_deviation}
use Rattle.trial.specs.Traversal.{offset_of, cross2, dot2, at_centre, half_of, turned, turns_of, just_behind, just_ahead, passes_by, away_from, traverses}
use Rattle.trial.specs.Trial.{sharp_turn, sharp_at, closed_range, measured_by, going_round, of_measured, trial_round, trial_of, of_circle, of_center, trial_three, trial_least, or_else, try_arcs}
use Rattle.pieces.specs.Commands.{normal_of, shaped, piece_command, fit_in}
use Rattle.deviations.specs.Line.{rooted, line_deviation}
use Rattle.pieces.specs.Pieces.{arc_or_cut, choose_by, choice, follow, pieces_by}
use Rattle.geo.specs.Vector as vector
use Rattle.file.specs.Bytes.{half_at, word_at, u32_bytes, f64_bytes, number_at}
use Rattle.file.specs.Command.{point_from, decoded, well_formed, commands_at, enc}
use Rattle.chain.specs.Parts as parts
use Rattle.chain.specs.Parts.{closed, carried, parts_from, part_most}
use Rattle.chain.specs.Joins.{joined}
use Rattle.course.specs.Course.{parts_on, most_on, end_on}
use Rattle.listing.specs.Rows.{shape_kind, letter_of, piece_row, chain_rows, part_rows, rows_of, rows_on, chain_steps, chains_steps}
use Rattle.laps.specs.File.{lap_count, offset_at, count_at, laps_at, laps_of, body, bodies, table, encode, short, big, has_mark, walk, table_ok, placed, form_ok, domain_ok, lacks, lap_ok, lap_tested, laps_ok}
use Rattle.laps.specs.Rows.{file_rows}
use Rattle.lap_fit.specs.Fit.{lap_end, most_lap, laps_most}
use Rattle.lap_text.specs.Text.{ascii, digits_by, decimal, row_text, rows_text, total_text}
use Rattle.lap_rows.specs.Listing.{lap_rows, lap_text, laps_text, lap_steps, laps_steps, list_text, text_rows, list_file}
use Rattle.lap_rows.specs.Worked.{RightAngle, NoLaps}

-- The right angle, as one lap of a Move and two Lines, lists as document 01 prints it, and its two steps are the sum.
pub right-angle : RightAngle
unfolding span climb size odd units round neg sum add sub mul div lt eq le is_nan of_int of_fields of_bits abs_of max_of clamp_of better root_in whole_root root_from in_units root_of plain coordinate centre within point_in point3_in every_from point_at flat end_of kind_of numbers_of refusal unless length_of distance_sq distance fold list_from turn_at cross_sum clockwise farther farthest_of farthest_in to_line line_sq kept_by thinned thinned_points moved_by projected near_to beside_of all_near all_beside collinear_by collinear plus sums_of cross3 dot3 scaled det_of inverse_times solved matrix_of sides_of centered kasa_center area_of turn_of center3 radius_from center_by center_three circle_round through_three worse worst spoke_of cosine sagitta_of ends_of step_of step_between arc_deviation offset_of cross2 dot2 at_centre half_of turned turns_of just_behind just_ahead passes_by away_from traverses sharp_turn sharp_at closed_range measured_by going_round of_measured trial_round trial_of of_circle of_center trial_three trial_least or_else try_arcs normal_of shaped piece_command fit_in rooted line_deviation arc_or_cut choose_by choice follow pieces_by line.chord_of collin.ends_chord ceil_of to_unsigned vector.distance3 is_finite is_plus_zero zero3 finite3 formed command_in command_of to_bits half_at word_at u32_bytes f64_bytes number_at point_from decoded well_formed commands_at enc parts.most_of closed carried parts_from part_most joined parts_on most_on shape_kind piece_row chain_rows part_rows rows_of rows_on lap_count offset_at count_at laps_at laps_of body bodies table encode short big has_mark walk table_ok placed form_ok domain_ok lacks lap_ok lap_tested laps_ok lap_end end_on most_lap laps_most file_rows ascii digits_by decimal row_text rows_text lap_rows lap_text laps_text chain_steps chains_steps lap_steps laps_steps total_text list_text text_rows list_file letter_of parameter_of off_foot segment_on segment_sq
right-angle = refl

-- A file of no laps lists as its first line and the sum 0.
pub no_laps : NoLaps
unfolding climb size odd units round lt le is_nan of_int of_fields of_bits sum div refusal unless list_from half_at word_at u32_bytes flat lap_count offset_at count_at laps_at laps_of body bodies table encode short big has_mark walk table_ok form_ok domain_ok lap_ok lap_tested laps_ok laps_most file_rows ascii digits_by decimal laps_text laps_steps total_text list_text text_rows list_file within
no_laps = refl
