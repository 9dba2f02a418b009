-- Each limit and constant of the papers and of the Rust, by its pattern, as the code has it; and one table that states each as a fraction.
-- Beside these only Ops.antt holds patterns, of +0, a half, one, two and three, which are in the table too. Definitions only; proofs/Limits.antt shows that the table holds.
use Rattle.std.specs.Prelude.{◌≡◌, ℕ, ◌^◌, false, from_bits, Float}
use Rattle.std.specs.Float.{binary64}
use Rattle.std.specs.Float.Ieee.{round, neg}
use Rattle.floats.specs.Ops.{+0, half, one, two, three}

-- the float nearest to n / d
abbrev pub fraction : ℕ → ℕ → Float
fraction n d = round binary64 false n d

-- ---- above one
abbrev pub eight_hundred : Float
eight_hundred = from_bits binary64 0x4089_0000_0000_0000

abbrev pub thousand : Float
thousand = from_bits binary64 0x408f_4000_0000_0000

abbrev pub million : Float
million = from_bits binary64 0x412e_8480_0000_0000

abbrev pub trillion : Float
trillion = from_bits binary64 0x426d_1a94_a200_0000

-- ---- below one
abbrev pub quarter : Float
quarter = from_bits binary64 0x3fd0_0000_0000_0000

-- 1e-2, 1e-3, 1e-6, 1e-9
abbrev pub hundredth : Float
hundredth = from_bits binary64 0x3f84_7ae1_47ae_147b

abbrev pub thousandth : Float
thousandth = from_bits binary64 0x3f50_624d_d2f1_a9fc

abbrev pub millionth : Float
millionth = from_bits binary64 0x3eb0_c6f7_a0b5_ed8d

abbrev pub nano : Float
nano = from_bits binary64 0x3e11_2e0b_e826_d695

-- 1e-10, 1e-12, 1e-15, 1e-18
abbrev pub tenth_nano : Float
tenth_nano = from_bits binary64 0x3ddb_7cdf_d9d7_bdbb

abbrev pub pico : Float
pico = from_bits binary64 0x3d71_9799_812d_ea11

abbrev pub femto : Float
femto = from_bits binary64 0x3cd2_03af_9ee7_5616

abbrev pub atto : Float
atto = from_bits binary64 0x3c32_725d_d1d2_43ac

-- ---- what stands in a lent output before a replayed call
abbrev pub untouched : Float
untouched = from_bits binary64 0xc0fe_240c_9fbe_76c9

-- the table: each name is the float nearest to its fraction
pub record LimitsAre : Type 0 where
  pub zero_is : +0 ≡ fraction 0 1
  pub half_is : half ≡ fraction 1 2
  pub one-is : one ≡ fraction 1 1
  pub two_is : two ≡ fraction 2 1
  pub three-is : three ≡ fraction 3 1
  pub eight_hundred_is : eight_hundred ≡ fraction 800 1
  pub thousand-is : thousand ≡ fraction 1000 1
  pub million-is : million ≡ fraction 1000000 1
  pub trillion-is : trillion ≡ fraction (10 ^ 12) 1
  pub quarter-is : quarter ≡ fraction 1 4
  pub hundredth-is : hundredth ≡ fraction 1 100
  pub thousandth-is : thousandth ≡ fraction 1 1000
  pub millionth-is : millionth ≡ fraction 1 1000000
  pub nano-is : nano ≡ fraction 1 (10 ^ 9)
  pub tenth_nano-is : tenth_nano ≡ fraction 1 (10 ^ 10)
  pub pico-is : pico ≡ fraction 1 (10 ^ 12)
  pub femto-is : femto ≡ fraction 1 (10 ^ 15)
  pub atto-is : atto ≡ fraction 1 (10 ^ 18)
  pub untouched-is : untouched ≡ neg (fraction 123456789 1000)
