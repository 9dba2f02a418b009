-- The table of `specs/Worked.antt` holds: each row by evaluation of the definitions. Assumes nothing.
use mathlib.Core.Path.{refl}
use Rattle.svg_text.specs.Path.{and_then, digits, in_thousandths, decimals, units, unsigned, signed, number, spaced, pair_of, command, in_front, then_rest, more, named}
use Rattle.svg_text.specs.Worked.{WorkedTexts}

pub worked_texts : WorkedTexts
unfolding and_then digits in_thousandths decimals units unsigned signed number spaced pair_of command in_front then_rest more named
worked_texts =
    record {
      nothing = refl;
      one-move = refl;
      signs = refl;
      minus-nought = refl;
      leading_noughts = refl;
      decimals = refl;
      all_digits = refl;
      two-laps = refl;
      a_curve = refl;
      line_first = refl;
      relative = refl;
      no_space = refl;
      comma = refl;
      two_spaces = refl;
      space-first = refl;
      space-last = refl;
      plus = refl;
      two-minus = refl;
      point-last = refl;
      point-first = refl;
      eight-digits = refl;
      four-decimals = refl;
      exponent = refl;
      no_letter = refl;
      half_a_point = refl;
      half_a_curve = refl;
      closed = refl;
    }
