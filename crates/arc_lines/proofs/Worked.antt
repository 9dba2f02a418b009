-- The worked Arcs, each by evaluation of the definitions. Assumes nothing.
use mathlib.Core.Path.{refl}
use lib.Ieee.{span, climb, size, odd, units, round, neg, sum, add, sub, mul, div, lt, eq, le, is_nan, of_fields, of_bits, of_int}
use Rattle.floats.specs.Float.{abs_of}
use Rattle.floats.specs.Root.{better, root_in, whole_root, root_from, in_units, root_of, plain}
use Rattle.geo.specs.Vector.{length_of}
use Rattle.geo.specs.Domain.{coordinate, is_finite, within, is_plus_zero, point3_in, finite3, zero3, formed, command_in, whole}
use Rattle.geo.specs.Lent.{point_at, command_of}
use Rattle.geo.specs.Outcome.{refusal, unless}
use Rattle.trial.specs.Traversal.{offset_of, cross2, dot2}
use Rattle.flatten.specs.Parts.{centre_of, length_by, quarter_turn, onward, turns_by, turns_before, cosine_between, bulge, stretched, middle, halved, quartered, parts_between, parts_of}
use Rattle.flatten.specs.Lines.{height_after, end_after, line_after, numbered, lines_of, drawn}
use Rattle.flatten.specs.Calls.{upright, near_radii, round_by, drawable, flatten_rows, flatten_call}
use Rattle.arc_lines.specs.Worked.{WorkedArcs}

pub worked_arcs : WorkedArcs
unfolding span climb size odd units round neg sum add sub mul div lt eq le is_nan of_fields of_bits of_int abs_of better root_in whole_root root_from in_units root_of plain coordinate is_finite within point3_in finite3 zero3 is_plus_zero formed command_in command_of whole point_at refusal unless length_of offset_of cross2 dot2 centre_of length_by quarter_turn onward turns_by turns_before cosine_between bulge stretched middle halved quartered parts_between parts_of height_after end_after line_after numbered lines_of drawn upright near_radii round_by drawable flatten_rows flatten_call
worked_arcs =
    record {
      quarter = refl;
      quarter-coarse = refl;
      half_circle = refl;
      three_quarters = refl;
      full_circle = refl;
      same_ray = refl;
      radius_off = refl;
      radius_at_tolerance = refl;
      radius-near = refl;
      ill_formed = refl;
      no_arc = refl;
      no_kind = refl;
      normal = refl;
      far_offset = refl;
      no_radius = refl;
      tolerance = refl;
      no_room = refl;
      no_room-numbers = refl;
      not_whole = refl;
    }
