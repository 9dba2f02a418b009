-- The operators of `f64` as signs: ⊕ ⊖ ⊗ ⊘ round once each, ≺ and ≼ are the comparisons `<` and `<=`. Definitions only.
use Rattle.std.specs.Prelude.{Bool, from_bits, Float}
use Rattle.std.specs.Float.{binary64}
use Rattle.std.specs.Float.Ieee.{add, sub, mul, div, lt, le}

infixl 6 ◌⊕◌ ◌⊖◌
infixl 7 ◌⊗◌ ◌⊘◌
infix 4 ◌≺◌ ◌≼◌
abbrev pub ◌⊕◌ : Float → Float → Float
x ⊕ y = add binary64 x y

abbrev pub ◌⊖◌ : Float → Float → Float
x ⊖ y = sub binary64 x y

abbrev pub ◌⊗◌ : Float → Float → Float
x ⊗ y = mul binary64 x y

abbrev pub ◌⊘◌ : Float → Float → Float
x ⊘ y = div binary64 x y

abbrev pub ◌≺◌ : Float → Float → Bool
x ≺ y = lt x y

abbrev pub ◌≼◌ : Float → Float → Bool
x ≼ y = le x y

-- ---- constants, by their patterns
abbrev pub +0 : Float
+0 = from_bits binary64 0

abbrev pub half : Float
half = from_bits binary64 0x3fe0_0000_0000_0000

abbrev pub one : Float
one = from_bits binary64 0x3ff0_0000_0000_0000

abbrev pub two : Float
two = from_bits binary64 0x4000_0000_0000_0000

abbrev pub three : Float
three = from_bits binary64 0x4008_0000_0000_0000
