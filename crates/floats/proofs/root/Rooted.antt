-- Roots and patterns of numbers in units of the smallest value: their digits, and the pattern j * 2 ^ 52 + q. Assumes nothing.
use Rattle.std.proofs.Common.{◌≡◌, ℕ, ◌+◌, ◌-◌, ◌*◌, ◌/◌, ◌^◌, ◌<◌, ◌≤◌, Bool, true, false, cond, T, ltb, sym, refl, ap, ◌∙◌, subst, le_trans, le_of_eq, lt_of_lt_of_le, mul-le-mul_right, mul_assoc, lt_of_not-le, zero-add, not-le_of_lt, mul-div_cancel, arith, lt→ltb, pow_pos, pow_mono, pow-add, shl_lt}
use Prim.Native.Nat.{compare}
use native.Mathlib.Decide.{dec_le}
use lib.Ieee.{Float, nan, inf, fin, binary64, up, down, size, nearest, units, odd, to_bits}
use lib.Ieee.Digits.{size-lt, size-le}
use lib.Ieee.Bits.{is_true}
use lib.Ieee.Exact.{HasValue}
use lib.Ieee.Fits.{down_pos}
use Rattle.floats.specs.Root.{whole_root, root_from}

-- ---- how many digits
pub size_gt : (n i : ℕ) → 2 ^ i ≤ n → i < size n
size_gt n i h = lt_of_not-le (λ (g : size n ≤ i). not-le_of_lt (lt_of_lt_of_le (size-lt n) (pow_mono g)) h)

-- a number from 2 ^ a up and below 2 ^ b, times 2 ^ i
size_low : (n a i : ℕ) → 2 ^ a ≤ n → a + i < size (n * 2 ^ i)
size_low n a i h = size_gt (n * 2 ^ i) (a + i) (le_trans (le_of_eq (pow-add 2 a i)) (mul-le-mul_right (2 ^ i) h))

size_high : (n b i : ℕ) → n < 2 ^ b → size (n * 2 ^ i) ≤ b + i
size_high n b i h = size-le (n * 2 ^ i) (b + i) (shl_lt b i h)

-- ---- `root_from` at n * 4 ^ j
abbrev pub form : ℕ → ℕ → ℕ → Float
form u w k = units binary64 false (nearest (whole_root w) (compare (4 * u) ((2 * whole_root w + 1) * (2 * whole_root w + 1) * (2 ^ k * 2 ^ k)))) k

pub form_is : (u : ℕ) → root_from u ≡ form u (u / (2 ^ ((size u + 1) / 2 - 53) * 2 ^ ((size u + 1) / 2 - 53))) ((size u + 1) / 2 - 53)
unfolding root_from
form_is u = refl

-- ---- the pattern of q * 2 ^ j units
pub units-is : (q j : ℕ) → q * 2 ^ j < 2 ^ 2098 → units binary64 false q j ≡ odd 54 false q j 1074
unfolding units
units-is q j h = ap (λ (b : Bool). cond b (odd 54 false q j 1074) (inf false)) (is_true (ltb (q * 2 ^ j) (2 ^ 2098)) (lt→ltb (q * 2 ^ j) (2 ^ 2098) h))

-- a pattern from a value in units
abbrev pub pattern : ℕ → ℕ
pattern n = (size n - 53) * 2 ^ 52 + n / 2 ^ (size n - 53)

pub bits_of_value : (v : Float) (n : ℕ) → HasValue v false n (2 ^ 1074) → to_bits binary64 v ≡ pattern n
unfolding to_bits
bits_of_value nan n h = absurd h
bits_of_value (inf s) n h = absurd h
bits_of_value (fin true m e) n h = absurd (subst T h.0 tt)
bits_of_value (fin false m e) n h = go (m * up e * 2 ^ 1074 / down e) (ap (λ (x : ℕ). x / down e) h.1 ∙ mul-div_cancel n (down_pos e)) refl
  where
    go : (x : ℕ) → x ≡ n → m * up e * 2 ^ 1074 / down e ≡ x → to_bits binary64 (fin false m e) ≡ pattern n
    go x i j = rw (j, i) (ap (λ (y : ℕ). y + n / 2 ^ (size n - 53)) (zero-add ((size n - 53) * 2 ^ 52)))

pub pattern_at : (q j : ℕ) → 2 ^ 52 ≤ q → q ≤ 2 ^ 53 → pattern (q * 2 ^ j) ≡ j * 2 ^ 52 + q
pattern_at q j l h = either (dec_le (2 ^ 53) q)
  where
    low : q < 2 ^ 53 → pattern (q * 2 ^ j) ≡ j * 2 ^ 52 + q
    low g =
        let a = size_low q 52 j l in
        let b = size_high q 53 j g in
        let k : size (q * 2 ^ j) - 53 ≡ j = omega arith in
        ap (λ (x : ℕ). x * 2 ^ 52 + q * 2 ^ j / 2 ^ x) k ∙ ap (λ (x : ℕ). j * 2 ^ 52 + x) (mul-div_cancel q (pow_pos j))

    top : q ≡ 2 ^ 53 → pattern (q * 2 ^ j) ≡ j * 2 ^ 52 + q
    top e =
        let a = size_low q 53 j (omega arith) in
        let b = size_high q 54 j (omega arith) in
        let k : size (q * 2 ^ j) - 53 ≡ 1 + j = omega arith in
        let d : q * 2 ^ j ≡ 2 ^ 52 * 2 ^ (1 + j) = ap (λ (x : ℕ). x * 2 ^ j) e ∙ mul_assoc (2 ^ 52) 2 (2 ^ j) ∙ ap (λ (x : ℕ). 2 ^ 52 * x) (sym (pow-add 2 1 j)) in
        ap (λ (x : ℕ). x * 2 ^ 52 + q * 2 ^ j / 2 ^ x) k
        ∙ ap (λ (x : ℕ). (1 + j) * 2 ^ 52 + x / 2 ^ (1 + j)) d
        ∙ ap (λ (x : ℕ). (1 + j) * 2 ^ 52 + x) (mul-div_cancel (2 ^ 52) (pow_pos (1 + j)))
        ∙ omega arith

    either : Dec (2 ^ 53 ≤ q) → pattern (q * 2 ^ j) ≡ j * 2 ^ 52 + q
    either (yes g) = top (omega arith)
    either (no f) = low (lt_of_not-le f)
