-- The table of `specs/Worked.antt` holds: each row by evaluation of the definitions. Assumes nothing.
use mathlib.Core.Path.{refl}
use lib.Count.{count_trailing_zeros}
use lib.Ieee as ieee
use lib.Ieee.{span, climb, size, odd, round, lt, eq, le, of_fields, of_bits}
use Rattle.floats.specs.Float.{abs_of}
use Rattle.geo.specs.Domain.{coordinate, point3_in, command_in}
use Rattle.geo.specs.Outcome.{refusal, unless}
use Rattle.file.specs.Bytes.{u32_bytes}
use Rattle.laps.specs.File.{bodies, table, encode}
use Rattle.svg_text.specs.Thousandths.{float_of}
use Rattle.svg_text.specs.Path.{and_then, digits, in_thousandths, decimals, units, unsigned, signed, number, spaced, pair_of, command, in_front, then_rest, more, named}
use Rattle.svg_text.specs.Drawing.{place, drawn}
use Rattle.svg.specs.Course.{until_move, laps_drawn, course_laps, course_file, all_in, read_rows, made, read_course}
use Rattle.svg_laws.specs.Worked.{WorkedFiles}

pub worked_files : WorkedFiles
unfolding count_trailing_zeros ieee.units span climb size odd round lt eq le of_fields of_bits abs_of coordinate point3_in command_in refusal unless u32_bytes bodies table encode float_of and_then digits in_thousandths decimals units unsigned signed number spaced pair_of command in_front then_rest more named place drawn until_move laps_drawn course_laps course_file all_in read_rows made read_course
worked_files =
    record { no_course = refl; too_far = refl; rules_first = refl; no_room = refl; exact-room = refl; two-laps = refl; a_curve = refl }
