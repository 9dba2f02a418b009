-- What is finite and the pattern 0, as the code tests them. Assumes nothing.
use mathlib.Core.Path.{◌≡◌, refl, sym, ap, ◌∙◌, subst}
use mathlib.Core.Bool.{Bool, true, false, not}
use Prim.Native.Nat.{ℕ, zero, suc, ◌*◌, ◌<◌}
use native.Mathlib.Nat.{zero-lt-suc, mul-pos, lt_irrefl, zero-mul}
use lib.Dec.{T, eqb, eqb→eq}
use lib.IntN.{ℤ}
use lib.Ieee.{Float, nan, inf, fin, binary64, up, down, eq, of_bits, to_bits, fits, is_nan}
use lib.Ieee.Fits.{up_pos, and_l}
use Rattle.std.specs.Float.{float_is_finite}
use Rattle.floats.proofs.Order.{clash}
use Rattle.floats.proofs.float.Large.{zero_exponent}
use Rattle.geo.specs.Domain.{is_finite, is_plus_zero}

-- the library's test
pub finite-is : (x : Float) → float_is_finite x ≡ is_finite x
unfolding float_is_finite is_finite
finite-is nan = refl
finite-is (inf s) = refl
finite-is (fin s m e) = refl

pub eq_no_nan : (x y : Float) → eq x y ≡ true → T (not (is_nan x))
unfolding eq is_nan
eq_no_nan nan y e = clash e
eq_no_nan (inf s) y e = tt
eq_no_nan (fin s m k) y e = tt

-- ---- among what equals 0 the pattern tells the sign
not_equal : (s : Bool) (m : ℕ) (e : ℤ) → eq (fin s (suc m) e) (of_bits binary64 0) ≡ true → ⊥
unfolding eq of_bits
not_equal s m e h =
    let q : suc m * up e * 1 ≡ 0 * 1 * down e = eqb→eq (suc m * up e * 1) (0 * 1 * down e) (and_l (eqb (suc m * up e * 1) (0 * 1 * down e)) _ (subst T (sym h) tt)) in
    lt_irrefl 0 (subst (λ (n : ℕ). 0 < n) (q ∙ ap (λ (n : ℕ). n * down e) (zero-mul 1) ∙ zero-mul (down e)) (mul-pos (mul-pos (zero-lt-suc m) (up_pos e)) (zero-lt-suc 0)))

pub plus_zero_is : (x : Float) → T (fits binary64 x) → eq x (of_bits binary64 0) ≡ true → eqb (to_bits binary64 x) 0 ≡ is_plus_zero x
unfolding is_plus_zero
plus_zero_is nan f h = clash (unfold eq in h)
plus_zero_is (inf s) f h = clash (unfold eq of_bits in h)
plus_zero_is (fin true zero e) f h = ap (λ (d : ℤ). eqb (to_bits binary64 (fin true zero d)) 0) (zero_exponent true e f) ∙ (unfold to_bits in refl)
plus_zero_is (fin false zero e) f h = ap (λ (d : ℤ). eqb (to_bits binary64 (fin false zero d)) 0) (zero_exponent false e f) ∙ (unfold to_bits in refl)
plus_zero_is (fin true (suc m) e) f h = absurd (not_equal true m e h)
plus_zero_is (fin false (suc m) e) f h = absurd (not_equal false m e h)

equal_zero : (e : ℤ) → eq (fin false zero e) (of_bits binary64 0) ≡ true
unfolding eq of_bits
equal_zero e =
    let a : 0 * up e * 1 ≡ 0 = ap (λ (n : ℕ). n * 1) (zero-mul (up e)) ∙ zero-mul 1 in
    let b : 0 * 1 * down e ≡ 0 = ap (λ (n : ℕ). n * down e) (zero-mul 1) ∙ zero-mul (down e) in
    rw (a, b)

pub not_plus_zero : (x : Float) → eq x (of_bits binary64 0) ≡ false → false ≡ is_plus_zero x
unfolding is_plus_zero
not_plus_zero nan h = refl
not_plus_zero (inf s) h = refl
not_plus_zero (fin true zero e) h = refl
not_plus_zero (fin false zero e) h = clash (sym h ∙ equal_zero e)
not_plus_zero (fin true (suc m) e) h = refl
not_plus_zero (fin false (suc m) e) h = refl
