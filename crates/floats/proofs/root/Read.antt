-- What the program reads in a pattern: the value, in units of the format's smallest. Assumes nothing.
use Rattle.std.proofs.Common.{◌≡◌, ℕ, zero, suc, ◌+◌, ◌-◌, ◌*◌, ◌/◌, ◌%◌, ◌^◌, ◌<◌, Bool, true, false, cond, ◌&&◌, T, eqb, ltb, leb, sym, refl, ap, ◌∙◌, subst, le_of_eq, lt_of_lt_of_le, mod-eq_of_lt, div-lt_iff_lt-mul, mul-lt-mul_of_pos_right, mul-pos, zero-mul, mul_right_comm, not-le_of_lt, mul-div_cancel, arith, eqb→eq, ltb→lt, leb→le, pow_pos}
use lib.Dec.{not_T}
use lib.Ieee.{Float, nan, inf, fin, binary64, up, down, size, odd, of_fields, of_bits, to_bits, fits}
use lib.Ieee.Digits.{size-le}
use lib.Ieee.Bits.{is_false, cond_no}
use lib.Ieee.Exact.{HasValue, odd_sign}
use lib.Ieee.Fits.{and_r, down_pos, kept-lt}
use Rattle.floats.specs.Root.{in_units, plain, root_of, root_from}

-- ---- the value that a pattern stands for
pub of_bits_is : (b : ℕ) → of_bits binary64 b ≡ of_fields binary64 (leb 0x8000_0000_0000_0000 b) (b % 0x8000_0000_0000_0000 / 0x10_0000_0000_0000) (b % 0x10_0000_0000_0000)
unfolding of_bits
of_bits_is b = refl

plus : (b : ℕ) → b < 0x7ff0_0000_0000_0000 → of_bits binary64 b ≡ of_fields binary64 false (b / 0x10_0000_0000_0000) (b % 0x10_0000_0000_0000)
plus b h =
    let l : b < 0x8000_0000_0000_0000 = omega arith in
    of_bits_is b
    ∙ ap (λ (s : Bool). of_fields binary64 s (b % 0x8000_0000_0000_0000 / 0x10_0000_0000_0000) (b % 0x10_0000_0000_0000)) (is_false (leb 0x8000_0000_0000_0000 b) (not_T (leb 0x8000_0000_0000_0000 b) (λ (u : T (leb 0x8000_0000_0000_0000 b)). not-le_of_lt l (leb→le 0x8000_0000_0000_0000 b u))))
    ∙ ap (λ (x : ℕ). of_fields binary64 false (x / 0x10_0000_0000_0000) (b % 0x10_0000_0000_0000)) (mod-eq_of_lt l)

under_ones : (t x : ℕ) → suc x < 2047 → of_fields binary64 false (suc x) t ≡ odd 53 false (0x10_0000_0000_0000 + t) x 1074
unfolding of_fields
under_ones t x h = cond_no (eqb (suc x) 2047) (cond (eqb t 0) (inf false) nan) (odd 53 false (0x10_0000_0000_0000 + t) x 1074) (not_T (eqb (suc x) 2047) (λ (u : T (eqb (suc x) 2047)). let e = eqb→eq (suc x) 2047 u in omega arith))

no_field : (t : ℕ) → of_fields binary64 false 0 t ≡ odd 53 false t 0 1074
unfolding of_fields
no_field t = refl

pub value_small : (b : ℕ) → b / 0x10_0000_0000_0000 ≡ 0 → HasValue (of_bits binary64 b) false (b % 0x10_0000_0000_0000 * 2 ^ 0) (2 ^ 1074)
value_small b z =
    let t = b % 0x10_0000_0000_0000 in
    subst (λ (x : Float). HasValue x false (t * 2 ^ 0) (2 ^ 1074)) (sym (plus b (omega arith) ∙ ap (λ (x : ℕ). of_fields binary64 false x t) z ∙ no_field t)) (odd_sign 53 false t 0 1074)

pub value-normal : (b : ℕ) → (b / 0x10_0000_0000_0000 ≡ 0 → ⊥) → b < 0x7ff0_0000_0000_0000
    → HasValue (of_bits binary64 b) false ((0x10_0000_0000_0000 + b % 0x10_0000_0000_0000) * 2 ^ (b / 0x10_0000_0000_0000 - 1)) (2 ^ 1074)
value-normal b z h =
    let t = b % 0x10_0000_0000_0000 in
    let x = b / 0x10_0000_0000_0000 - 1 in
    let e : b / 0x10_0000_0000_0000 ≡ suc x = omega arith in
    subst (λ (y : Float). HasValue y false ((0x10_0000_0000_0000 + t) * 2 ^ x) (2 ^ 1074)) (sym (plus b h ∙ ap (λ (y : ℕ). of_fields binary64 false y t) e ∙ under_ones t x (omega arith)))
    (odd_sign 53 false (0x10_0000_0000_0000 + t) x 1074)

-- ---- the same, of the float itself
pub units_of_value : (x : Float) (n : ℕ) → HasValue x false n (2 ^ 1074) → in_units x ≡ n
unfolding in_units
units_of_value nan n h = absurd h
units_of_value (inf s) n h = absurd h
units_of_value (fin s m e) n h = ap (λ (y : ℕ). y / down e) h.1 ∙ mul-div_cancel n (down_pos e)

-- ---- a finite float with no sign has a pattern below the infinity's
fin_bits : (m : ℕ) (e : _) → to_bits binary64 (fin false m e) ≡ 0 + (size (m * up e * 2 ^ 1074 / down e) - 53) * 2 ^ 52 + m * up e * 2 ^ 1074 / down e / 2 ^ (size (m * up e * 2 ^ 1074 / down e) - 53)
unfolding to_bits
fin_bits m e = refl

pub in_range : (m : ℕ) (e : _) → T (fits binary64 (fin false m e)) → m * up e * 2 ^ 1074 / down e < 2 ^ 2098
unfolding fits
in_range zero e t = (div-lt_iff_lt-mul (down_pos e)).1 (subst (λ (y : ℕ). y < 2 ^ 2098 * down e) (sym (ap (λ (y : ℕ). y * 2 ^ 1074) (zero-mul (up e)) ∙ zero-mul (2 ^ 1074))) (mul-pos (pow_pos 2098) (down_pos e)))
in_range (suc m) e t =
    let a : suc m * up e < 2 ^ 1024 * down e = ltb→lt (suc m * up e) (2 ^ 1024 * down e) (and_r (eqb (suc m % 2) 1 && ltb (suc m) (2 ^ 53) && leb (down e) (2 ^ 1074)) (ltb (suc m * up e) (2 ^ 1024 * down e)) t) in
    let b : suc m * up e * 2 ^ 1074 < 2 ^ 1024 * down e * 2 ^ 1074 = mul-lt-mul_of_pos_right a (pow_pos 1074) in
    (div-lt_iff_lt-mul (down_pos e)).1 (lt_of_lt_of_le b (le_of_eq (mul_right_comm (2 ^ 1024) (down e) (2 ^ 1074))))

below_inf : (v : ℕ) → v < 2 ^ 2098 → 0 + (size v - 53) * 2 ^ 52 + v / 2 ^ (size v - 53) < 0x7ff0_0000_0000_0000
below_inf v h =
    let a = size-le v 2098 h in
    let b = kept-lt 53 v in
    omega arith

pub plain_bits : (x : Float) → T (fits binary64 x) → T (plain x) → to_bits binary64 x < 0x7ff0_0000_0000_0000
unfolding plain
plain_bits nan f r = absurd r
plain_bits (inf s) f r = absurd r
plain_bits (fin true m e) f r = absurd r
plain_bits (fin false m e) f r = subst (λ (y : ℕ). y < 0x7ff0_0000_0000_0000) (sym (fin_bits m e)) (below_inf (m * up e * 2 ^ 1074 / down e) (in_range m e f))

-- ---- what `root_of` is there
pub root_of-is : (x : Float) → T (plain x) → root_of x ≡ root_from (in_units x * 2 ^ 1074)
unfolding root_of plain
root_of-is nan r = absurd r
root_of-is (inf s) r = absurd r
root_of-is (fin true m e) r = absurd r
root_of-is (fin false m e) r = refl
