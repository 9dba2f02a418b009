-- The pattern of a NaN. Assumes nothing.
use mathlib.Core.Path.{◌≡◌, refl, sym, subst}
use mathlib.Core.Bool.{true}
use lib.Dec.{T}
use lib.Ieee.{Float, nan, inf, fin, binary64, is_nan, to_bits}

pub nan_pattern : (x : Float) → is_nan x ≡ true → 0x7ff8_0000_0000_0000 ≡ to_bits binary64 x
unfolding is_nan to_bits
nan_pattern nan e = refl
nan_pattern (inf s) e = absurd (subst T (sym e) tt)
nan_pattern (fin s m k) e = absurd (subst T (sym e) tt)
