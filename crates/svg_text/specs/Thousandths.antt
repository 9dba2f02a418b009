-- A whole number of thousandths as a float: "A number is its thousandths divided once by 1000, −0 read as +0" (document 02, §11). Definitions only.
use Rattle.std.specs.Prelude.{ℕ, suc, ◌≤◌, ◌≡◌, true, false, ℤ, pos, negsuc, Float}
use Rattle.std.specs.Float.{binary64}
use Rattle.std.specs.Float.Ieee.{round, div, of_int}
use Rattle.floats.specs.Limits.{thousand}

-- v/1000, rounded once; an integer has one zero, and its float is +0
unfoldable pub float_of : ℤ → Float
float_of (pos v) = round binary64 false v 1000
float_of (negsuc v) = round binary64 true (suc v) 1000

-- how far from zero
abbrev pub size_of : ℤ → ℕ
size_of (pos v) = v
size_of (negsuc v) = suc v

-- at most ten digits: seven before the point and three behind it
abbrev pub TenDigits : ℤ → Type 0
TenDigits z = size_of z ≤ 9999999999

-- two numbers of ten digits that have the same float are the same
abbrev pub OneNumber : Type 0
OneNumber = (v w : ℤ) → TenDigits v → TenDigits w → float_of v ≡ float_of w → v ≡ w

-- the code's `(v as f64) / 1000.0` is that float
abbrev pub OneDivision : Type 0
OneDivision = (v : ℤ) → TenDigits v → div binary64 (of_int binary64 v) thousand ≡ float_of v
