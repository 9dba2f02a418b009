-- Floats from 2 ^ 52 up are whole, zero is written in one way, and a sign turned twice. Assumes nothing.
use Rattle.std.proofs.Common.{◌≡◌, ℕ, zero, suc, ◌+◌, ◌*◌, ◌%◌, ◌^◌, ◌<◌, ◌≤◌, Bool, true, false, not, ◌&&◌, T, eqb, ltb, leb, ℤ, pos, negsuc, sym, refl, ap, ◌∙◌, subst, le_of_eq, lt_of_lt_of_le, zero-lt-suc, mul_assoc, mul-lt-mul_of_pos_right, one-mul, mul-one, arith, eqb→eq, ltb→lt, nltb→le, pow_pos, pow-add}
use native.Mathlib.Nat.{pow-succ'}
use lib.Ieee.{Float, nan, inf, fin, binary64, up, down, lt, neg, round, fits}
use lib.Ieee.Fits.{and_l, and_r, round-fits}
use lib.Ieee.Exact.{round_exact}
use lib.Ieee.Back.{whole_unique}

-- what `fits` says of a number that is not zero
digits : (s : Bool) (m : ℕ) (e : ℤ) → T (fits binary64 (fin s (suc m) e)) → suc m < 2 ^ 53
unfolding fits
digits s m e t =
    ltb→lt (suc m) (2 ^ 53)
    (and_r (eqb (suc m % 2) 1) (ltb (suc m) (2 ^ 53))
    (and_l (eqb (suc m % 2) 1 && ltb (suc m) (2 ^ 53)) (leb (down e) (2 ^ 1074))
    (and_l (eqb (suc m % 2) 1 && ltb (suc m) (2 ^ 53) && leb (down e) (2 ^ 1074)) (ltb (suc m * up e) (2 ^ 1024 * down e)) t)))

range : (s : Bool) (m : ℕ) (e : ℤ) → T (fits binary64 (fin s (suc m) e)) → suc m * up e < 2 ^ 1024 * down e
unfolding fits
range s m e t =
    ltb→lt (suc m * up e) (2 ^ 1024 * down e) (and_r (eqb (suc m % 2) 1 && ltb (suc m) (2 ^ 53) && leb (down e) (2 ^ 1074)) (ltb (suc m * up e) (2 ^ 1024 * down e)) t)

-- the sign plays no part
pub unsigned : (s : Bool) (m : ℕ) (e : ℤ) → T (fits binary64 (fin s m e)) → T (fits binary64 (fin false m e))
unfolding fits
unsigned s zero e t = t
unsigned s (suc m) e t = t

-- m * 2 ^ k, rounded, is itself
rounds_back : (m k : ℕ) → T (fits binary64 (fin false (suc m) (pos k))) → round binary64 false (suc m * 2 ^ k) 1 ≡ fin false (suc m) (pos k)
rounds_back m k f =
    let n = suc m * 2 ^ k in
    let e : n * 2 ^ 1074 ≡ suc m * 2 ^ (k + 1074) = mul_assoc (suc m) (2 ^ k) (2 ^ 1074) ∙ ap (λ (x : ℕ). suc m * x) (sym (pow-add 2 k 1074)) in
    let r : suc m * 2 ^ (k + 1074) < 2 ^ (1024 + 1074) =
    subst (λ (x : ℕ). x < 2 ^ (1024 + 1074)) e
    (lt_of_lt_of_le (mul-lt-mul_of_pos_right (range false m (pos k) f) (pow_pos 1074)) (le_of_eq (ap (λ (x : ℕ). x * 2 ^ 1074) (mul-one (2 ^ 1024)) ∙ sym (pow-add 2 1024 1074)))) in
    whole_unique binary64 (round binary64 false n 1) (fin false (suc m) (pos k)) false n (round-fits binary64 false n 1) f
    (round_exact binary64 false n 1 (suc m) (k + 1074) (zero-lt-suc 0) (digits false m (pos k) f) r (e ∙ sym (mul-one (suc m * 2 ^ (k + 1074)))))
    (refl, refl)

-- a fraction is below 2 ^ 52
no_fraction : (m j : ℕ) → suc m < 2 ^ 53 → 2 ^ 52 * 2 ^ suc j ≤ suc m * 1 → ⊥
no_fraction m j d h =
    let p = pow_pos j in
    let e = pow-succ' 2 j in
    omega (arith, mul-one (suc m))

not_below : (m : ℕ) (e : ℤ) → lt (fin false m e) (fin false 1 (pos 52)) ≡ false → 2 ^ 52 * down e ≤ m * up e
unfolding lt
not_below m e h =
    let l : 1 * 2 ^ 52 * down e ≤ m * up e * 1 = nltb→le (m * up e * 1) (1 * 2 ^ 52 * down e) (subst (λ (b : Bool). T (not b)) (sym h) tt) in
    omega (arith, mul-one (m * up e))

pub whole-value : (m : ℕ) (e : ℤ) → T (fits binary64 (fin false (suc m) e)) → lt (fin false (suc m) e) (fin false 1 (pos 52)) ≡ false
    → (down e ≡ 1) × (round binary64 false (suc m * up e) 1 ≡ fin false (suc m) e)
whole-value m (pos k) f h = (refl, rounds_back m k f)
whole-value m (negsuc j) f h = absurd (no_fraction m j (digits false m (negsuc j) f) (not_below (suc m) (negsuc j) h))

-- ---- zero is written in one way
unit_exponent : (e : ℤ) → up e * down e ≡ 1 → (e ≡ pos 0) × (down e ≡ 1)
unit_exponent (pos zero) h = (refl, refl)
unit_exponent (pos (suc k)) h = absurd (let p = pow_pos k in omega (arith, pow-succ' 2 k, mul-one (2 ^ suc k)))
unit_exponent (negsuc k) h = absurd (let p = pow_pos k in omega (arith, pow-succ' 2 k, one-mul (2 ^ suc k)))

pub zero_exponent : (s : Bool) (e : ℤ) → T (fits binary64 (fin s zero e)) → e ≡ pos 0
unfolding fits
zero_exponent s e t = (unit_exponent e (eqb→eq (up e * down e) 1 t)).0

-- ---- signs
pub neg_neg : (x : Float) → neg (neg x) ≡ x
unfolding neg
neg_neg nan = refl
neg_neg (inf true) = refl
neg_neg (inf false) = refl
neg_neg (fin true m e) = refl
neg_neg (fin false m e) = refl
