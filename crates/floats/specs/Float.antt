-- Absolute value, ceiling, and the Rust's `max` and `clamp`, over every value of `lib.Ieee`. Definitions only.
use Rattle.std.specs.Prelude.{◌≡◌, ℕ, ◌+◌, ◌-◌, ◌*◌, ◌/◌, Bool, true, false, pos, is_nan, Float, if◌then◌else◌}
use Rattle.std.specs.Float.{nan, inf, fin, binary64}
use Rattle.std.specs.Float.Ieee.{up, down, eq, neg, of_int}
use Rattle.floats.specs.Ops.{◌≺◌}

-- x without its sign
unfoldable pub abs_of : Float → Float
abs_of nan = nan
abs_of (inf s) = inf false
abs_of (fin s m e) = fin false m e

-- The ceiling of x. The number m * 2 ^ e is the fraction m * up e / down e. Rounded up, a / d is (a + (d - 1)) / d; and what lies below zero is cut off, so that a
-- number above -1 gives -0. As IEEE 754 has it, NaN, both infinities and both zeros are their own ceilings.
unfoldable pub ceil_of : Float → Float
unfolding of_int neg
ceil_of nan = nan
ceil_of (inf s) = inf s
ceil_of (fin false m e) = of_int binary64 (pos ((m * up e + (down e - 1)) / down e))
ceil_of (fin true m e) = neg (of_int binary64 (pos (m * up e / down e)))

-- whether x has a minus sign
unfoldable pub is_minus : Float → Bool
is_minus nan = false
is_minus (inf s) = s
is_minus (fin s m e) = s

-- the whole number n, or its negative where s is true: of any size, whether a format holds it or not
abbrev pub whole_number : Bool → ℕ → Float
whole_number s n = fin s n (pos 0)

-- r is the least whole number that is not below x, and has its sign: what IEEE 754 calls x rounded to a whole number toward positive. No formula of `ceil_of` stands here.
pub record LeastWhole (x r : Float) : Type 0 where
  pub sign : Bool
  pub count : ℕ
  pub whole : eq r (whole_number sign count) ≡ true
  pub not_below : (r ≺ x) ≡ false
  pub least : (s : Bool) (n : ℕ) → (whole_number s n ≺ x) ≡ false → (whole_number s n ≺ r) ≡ false
  pub signed : is_minus r ≡ is_minus x

-- the greater, b where a is a NaN, a where b is one
unfoldable pub max_of : Float → Float → Float
max_of a b = if a ≺ b then b else if is_nan a then b else a

-- the end of least..most beyond which x lies, else x
unfoldable pub clamp_of : Float → Float → Float → Float
clamp_of x least most = if x ≺ least then least else if most ≺ x then most else x
