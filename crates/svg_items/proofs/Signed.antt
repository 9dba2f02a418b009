-- Numbers of ten digits as an `f64`: nothing is lost. Assumes nothing.
use mathlib.Core.Path.{◌≡◌}
use native.Mathlib.Omega.{arith}
use lib.IntN.{ℤ, pos, negsuc}
use lib.Ieee.{binary64, of_int, div}
use mir.Syntax.{w64}
use mir.Val.{SFits, to_z, of_z}
use mir.Facts.{to_z-of_z}
use Rattle.floats.specs.Limits.{thousand}
use Rattle.svg_text.specs.Thousandths.{float_of, TenDigits}
use Rattle.svg_text.proofs.Quotient.{one_division}

pub fits_64 : (z : ℤ) → TenDigits z → SFits w64 z
fits_64 (pos v) h = record { sfits = omega arith }
fits_64 (negsuc v) h = record { sfits = omega arith }

pub divided : (z : ℤ) → TenDigits z → div binary64 (of_int binary64 (to_z w64 (of_z w64 z))) thousand ≡ float_of z
divided z h = rw (to_z-of_z {w = w64} (fits_64 z h)) (one_division z h)
