-- A pattern without the sign's bit is the value without its sign. Assumes nothing.
use Rattle.std.proofs.Common.{◌≡◌, ℕ, zero, suc, ◌+◌, ◌/◌, ◌%◌, ◌<◌, Bool, true, false, cond, not, T, eqb, ltb, leb, sym, refl, ap, ◌∙◌, subst, not-le_of_lt, arith, leb→le}
use lib.Dec.{not_T}
use lib.Ieee.{Float, nan, inf, fin, binary64, odd, of_fields, of_bits, to_bits, fits, is_nan, nan_bits}
use lib.Ieee.Bits.{is_false, of_bits-to_bits, nan_bits_is, nan_bits_above}
use Rattle.floats.specs.Float.{abs_of}
use Rattle.floats.proofs.root.Read.{of_bits_is}

abs_odd : (d : ℕ) (s : Bool) (q k l : ℕ) → odd d false q k l ≡ abs_of (odd d s q k l)
unfolding odd abs_of
abs_odd d s zero k l = refl
abs_odd d s (suc q) k l = refl

abs_fields : (s : Bool) (f t : ℕ) → of_fields binary64 false f t ≡ abs_of (of_fields binary64 s f t)
unfolding of_fields abs_of
abs_fields s zero t = abs_odd 53 s t 0 1074
abs_fields s (suc x) t = go (eqb (suc x) 2047) (eqb t 0)
  where
    go : (a b : Bool) → cond a (cond b (inf false) nan) (odd 53 false (0x10_0000_0000_0000 + t) x 1074) ≡ abs_of (cond a (cond b (inf s) nan) (odd 53 s (0x10_0000_0000_0000 + t) x 1074))
    go true true = refl
    go true false = refl
    go false b = abs_odd 53 s (0x10_0000_0000_0000 + t) x 1074

clear : (b : ℕ) → of_bits binary64 (b % 0x8000_0000_0000_0000) ≡ abs_of (of_bits binary64 b)
clear b =
    let c = b % 0x8000_0000_0000_0000 in
    let l : c < 0x8000_0000_0000_0000 = omega arith in
    let p : c % 0x8000_0000_0000_0000 ≡ c = omega arith in
    let r : c % 0x10_0000_0000_0000 ≡ b % 0x10_0000_0000_0000 = omega arith in
    of_bits_is c
    ∙ ap (λ (s : Bool). of_fields binary64 s (c % 0x8000_0000_0000_0000 / 0x10_0000_0000_0000) (c % 0x10_0000_0000_0000)) (is_false (leb 0x8000_0000_0000_0000 c) (not_T (leb 0x8000_0000_0000_0000 c) (λ (u : T (leb 0x8000_0000_0000_0000 c)). not-le_of_lt l (leb→le 0x8000_0000_0000_0000 c u))))
    ∙ ap (λ (x : ℕ). of_fields binary64 false (x / 0x10_0000_0000_0000) (c % 0x10_0000_0000_0000)) p
    ∙ ap (λ (x : ℕ). of_fields binary64 false (c / 0x10_0000_0000_0000) x) r
    ∙ abs_fields (leb 0x8000_0000_0000_0000 b) (c / 0x10_0000_0000_0000) (b % 0x10_0000_0000_0000)
    ∙ ap abs_of (sym (of_bits_is b))

pub abs_is : (x : Float) → T (fits binary64 x) → of_bits binary64 (to_bits binary64 x % 0x8000_0000_0000_0000) ≡ abs_of x
abs_is x f = clear (to_bits binary64 x) ∙ ap abs_of (of_bits-to_bits binary64 x f)

pub abs_no_nan : (x : Float) → T (fits binary64 x) → T (not (is_nan x)) → T (not (nan_bits binary64 (to_bits binary64 x % 0x8000_0000_0000_0000)))
abs_no_nan x f h =
    let b = to_bits binary64 x in
    let c = b % 0x8000_0000_0000_0000 in
    let p : c % 0x8000_0000_0000_0000 ≡ c = omega arith in
    let e : nan_bits binary64 c ≡ is_nan x = nan_bits_above binary64 c ∙ ap (λ (n : ℕ). ltb 0x7ff0_0000_0000_0000 n) p ∙ sym (nan_bits_above binary64 b) ∙ nan_bits_is binary64 b ∙ ap is_nan (of_bits-to_bits binary64 x f) in
    subst (λ (t : Bool). T (not t)) (sym e) h

pub nan_abs : (x : Float) → is_nan x ≡ true → x ≡ abs_of x
unfolding is_nan abs_of
nan_abs nan h = refl
nan_abs (inf s) h = absurd (subst T (sym h) tt)
nan_abs (fin s m e) h = absurd (subst T (sym h) tt)

-- what is no NaN by the library's test
pub no_nan : (x : Float) → is_nan x ≡ false → T (not (is_nan x))
no_nan x h = subst (λ (t : Bool). T (not t)) (sym h) tt
