-- Whole numbers and floats as bytes: "All integers are little-endian u32, all numbers f64 bits, little-endian" (document 01, "The lap file"). Definitions only.
use Rattle.std.specs.Prelude.{ℕ, ◌+◌, ◌*◌, ◌/◌, ◌%◌, List, [], ◌∷◌, ◌++◌, get_or, Float}
use Rattle.std.specs.Float.{binary64}
use Rattle.std.specs.Float.Ieee.{of_bits, to_bits}

-- ---- reading
-- the whole number in four bytes
unfoldable pub half_at : List ℕ → ℕ → ℕ
half_at s at = get_or s at 0 + get_or s (at + 1) 0 * 0x100 + get_or s (at + 2) 0 * 0x1_0000 + get_or s (at + 3) 0 * 0x100_0000

-- the word in eight bytes
unfoldable pub word_at : List ℕ → ℕ → ℕ
unfolding half_at
word_at s at = half_at s at + half_at s (at + 4) * 0x1_0000_0000

-- the float whose eight bytes stand from `at` on
unfoldable pub number_at : List ℕ → ℕ → Float
number_at s at = of_bits binary64 (word_at s at)

-- ---- writing
-- the four low bytes of a whole number
unfoldable pub u32_bytes : ℕ → List ℕ
u32_bytes n = n % 256 ∷ n / 256 % 256 ∷ n / 65536 % 256 ∷ n / 16777216 % 256 ∷ []

-- the eight bytes of a float's pattern; a NaN is written by one pattern
unfoldable pub f64_bytes : Float → List ℕ
f64_bytes x = u32_bytes (to_bits binary64 x) ++ u32_bytes (to_bits binary64 x / 4294967296)
