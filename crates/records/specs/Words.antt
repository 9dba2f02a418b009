-- Floats by their patterns, and lists of words as numbers or kinds. Definitions only.
use Rattle.std.specs.Prelude.{ℕ, ◌+◌, ◌-◌, ◌*◌, Bool, cond, List, eqb, get_or, Float}
use Rattle.std.specs.Float.{nan, binary64}
use Rattle.std.specs.Float.Ieee.{eq, is_nan, nan_bits, of_bits, to_bits}
use Rattle.geo.specs.Walk.{list_from}
use Rattle.geo.specs.Domain.{every_from}
use Rattle.file.specs.Bytes.{word_at}

-- x has the pattern p; every NaN has every NaN's
unfoldable pub has_pattern : Float → ℕ → Bool
has_pattern x p = cond (is_nan x) (nan_bits binary64 p) (eqb (to_bits binary64 x) p)

-- ---- the n words from `at` on
-- as numbers
unfoldable pub numbers_at : List ℕ → ℕ → ℕ → List Float
numbers_at s at n = list_from (λ i. of_bits binary64 (word_at s (at + 8 * i))) n 0

-- they are the patterns of the first n numbers of `out`
unfoldable pub numbers_written : List ℕ → ℕ → ℕ → List Float → Bool
numbers_written s at n out = every_from (λ i. has_pattern (get_or out i nan) (word_at s (at + 8 * i))) n 0

-- the n bytes from `at` on are the first n of `bytes`
unfoldable pub bytes_written : List ℕ → ℕ → ℕ → List ℕ → Bool
bytes_written s at n bytes = every_from (λ i. eqb (get_or bytes i 0) (get_or s (at + i) 0)) n 0

-- ---- what a call left: the known number, or byte, stands at each index from `from` on and below `to`
unfoldable pub numbers_left : List Float → ℕ → ℕ → Float → Bool
numbers_left out from to known = every_from (λ i. eq (get_or out i nan) known) (to - from) from

unfoldable pub bytes_left : List ℕ → ℕ → ℕ → ℕ → Bool
bytes_left bytes from to known = every_from (λ i. eqb (get_or bytes i 0) known) (to - from) from
