-- The table of limits holds: each row by evaluation. Assumes nothing.
use Rattle.std.proofs.Common.{refl}
use lib.Ieee.{span, climb, size, odd, units, round, neg, of_fields, of_bits}
use Rattle.floats.specs.Limits.{LimitsAre}

pub limits_are : LimitsAre
unfolding span climb size odd units round neg of_fields of_bits
limits_are =
    record {
      zero_is = refl;
      half_is = refl;
      one-is = refl;
      two_is = refl;
      three-is = refl;
      eight_hundred_is = refl;
      thousand-is = refl;
      million-is = refl;
      trillion-is = refl;
      quarter-is = refl;
      hundredth-is = refl;
      thousandth-is = refl;
      millionth-is = refl;
      nano-is = refl;
      tenth_nano-is = refl;
      pico-is = refl;
      femto-is = refl;
      atto-is = refl;
      untouched-is = refl;
    }
