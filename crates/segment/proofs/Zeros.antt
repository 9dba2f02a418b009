-- Floats that are equal but for the sign of a zero: every operation keeps that, and a square does not see the sign. Assumes nothing.
use mathlib.Core.Path.{◌≡◌, refl, sym, ap, ◌∙◌}
use mathlib.Core.Bool.{Bool, true, false}
use Prim.Native.Nat.{ℕ, zero, suc, ◌+◌, ◌-◌, ◌*◌, ◌<◌}
use native.Mathlib.Nat.{zero-mul, mul-zero, mul-pos, one-mul, zero-lt-suc, mul_comm, mul_assoc}
use native.Mathlib.Omega.{arith}
use borrow.Author.Tests.{lt-ltb, le-ltb}
use lib.Dec.{T}
use lib.IntN.{ℤ, pos}
use lib.Ieee.{Float, nan, inf, fin, binary64, up, down, unlike, round, sum, add, sub, mul, neg, lt, fits, of_bits}
use lib.Ieee.Fits.{up_pos, down_pos}
use lib.Ieee.Scale.{round_same, finite}
use Rattle.floats.specs.Ops.{◌⊕◌, ◌⊖◌, ◌⊗◌, ◌≺◌, +0, one}
use Rattle.floats.specs.Float.{clamp_of}
use Rattle.floats.proofs.float.Large.{zero_exponent}
use Rattle.segment.proofs.Itself.{round_itself}

-- x with +0 in the place of -0
unfoldable pub bare : Float → Float
bare nan = nan
bare (inf s) = inf s
bare (fin false m e) = fin false m e
bare (fin true zero e) = fin false zero e
bare (fin true (suc m) e) = fin true (suc m) e

-- equal but for the sign of a zero
pub record Twin (x y : Float) : Type 0 where
  pub is : bare x ≡ bare y

pub twin : {x y : Float} → x ≡ y → Twin x y
twin e = record { is = ap bare e }

pub twin_through : {x y z : Float} → Twin x y → Twin y z → Twin x z
twin_through h k = record { is = h.is ∙ k.is }

-- ---- rounded zeros
pub none : (u d : ℕ) → 0 * u * d ≡ 0
none u d = ap (λ (z : ℕ). z * d) (zero-mul u) ∙ zero-mul d

there : (s : Bool) → round binary64 s 0 1 ≡ fin s 0 (pos 0)
unfolding round
there true = refl
there false = refl

pub round_none : (s : Bool) (C : ℕ) → 0 < C → round binary64 s 0 C ≡ fin s 0 (pos 0)
round_none s C h = round_same binary64 s 0 C 0 1 h (zero-lt-suc 0) (zero-mul 1 ∙ sym (zero-mul C)) ∙ there s

pub bare_zero : (s : Bool) → bare (fin s 0 (pos 0)) ≡ fin false 0 (pos 0)
unfolding bare
bare_zero true = refl
bare_zero false = refl

-- of whatever sign
bare_none : (s : Bool) (A C : ℕ) → A ≡ 0 → 0 < C → bare (round binary64 s A C) ≡ fin false 0 (pos 0)
bare_none s A C z h = ap bare (ap (λ (n : ℕ). round binary64 s n C) z ∙ round_none s C h) ∙ bare_zero s

-- ---- sums: A is a zero
zero_left : (t : Bool) (B C : ℕ) → 0 < C → bare (sum binary64 true 0 t B C) ≡ bare (sum binary64 false 0 t B C)
unfolding sum
zero_left true zero C h = bare_none true (0 + 0) C refl h ∙ sym (bare_none false (0 - 0) C refl h)
zero_left true (suc b) C h = rw (lt-ltb 0 (suc b) (omega arith)) (ap (λ (n : ℕ). bare (round binary64 true n C)) (omega arith))
zero_left false zero C h = refl
zero_left false (suc b) C h = rw (lt-ltb 0 (suc b) (omega arith)) (ap (λ (n : ℕ). bare (round binary64 false n C)) (omega arith))

zero_right : (s : Bool) (A C : ℕ) → 0 < C → bare (sum binary64 s A true 0 C) ≡ bare (sum binary64 s A false 0 C)
unfolding sum
zero_right true zero C h = bare_none true (0 + 0) C refl h ∙ sym (bare_none false (0 - 0) C refl h)
zero_right true (suc a) C h =
    rw (le-ltb (suc a) 0 (omega arith), lt-ltb 0 (suc a) (omega arith)) (ap (λ (n : ℕ). bare (round binary64 true n C)) (omega arith))
zero_right false A C h = rw (le-ltb A 0 (omega arith)) (ap (λ (n : ℕ). bare (round binary64 false n C)) (omega arith))

sides : (e d : ℤ) → 0 < down e * down d
sides e d = mul-pos (down_pos e) (down_pos d)

add_left : (x y : Float) → bare (x ⊕ y) ≡ bare (bare x ⊕ y)
unfolding add bare
add_left nan y = refl
add_left (inf s) y = refl
add_left (fin false m e) y = refl
add_left (fin true (suc m) e) y = refl
add_left (fin true zero e) nan = refl
add_left (fin true zero e) (inf t) = refl
add_left (fin true zero e) (fin t n d) = rw (none (up e) (down d)) (zero_left t (n * up d * down e) (down e * down d) (sides e d))

add_right : (x y : Float) → bare (x ⊕ y) ≡ bare (x ⊕ bare y)
unfolding add bare
add_right x nan = refl
add_right x (inf t) = refl
add_right x (fin false n d) = refl
add_right x (fin true (suc n) d) = refl
add_right nan (fin true zero d) = refl
add_right (inf s) (fin true zero d) = refl
add_right (fin s m e) (fin true zero d) = rw (none (up d) (down e)) (zero_right s (m * up e * down d) (down e * down d) (sides e d))

pub twin_add : {x x' y y' : Float} → Twin x x' → Twin y y' → Twin (x ⊕ y) (x' ⊕ y')
twin_add {x} {x'} {y} {y'} h k =
    record { is = add_left x y ∙ add_right (bare x) y ∙ ap (λ (z : Float). bare (z ⊕ bare y)) h.is ∙ ap (λ (z : Float). bare (bare x' ⊕ z)) k.is ∙ sym (add_left x' y' ∙ add_right (bare x') y') }

-- ---- differences
neg_bare : (x : Float) → bare (neg x) ≡ bare (neg (bare x))
unfolding neg bare
neg_bare nan = refl
neg_bare (inf s) = refl
neg_bare (fin false m e) = refl
neg_bare (fin true (suc m) e) = refl
neg_bare (fin true zero e) = refl

pub twin_sub : {x x' y y' : Float} → Twin x x' → Twin y y' → Twin (x ⊖ y) (x' ⊖ y')
unfolding sub
twin_sub {x} {x'} {y} {y'} h k =
    twin_add {y = neg y} {y' = neg y'} h (record { is = neg_bare y ∙ ap (λ (z : Float). bare (neg z)) k.is ∙ sym (neg_bare y') })

-- ---- products
mul_left : (x y : Float) → bare (x ⊗ y) ≡ bare (bare x ⊗ y)
unfolding mul bare
mul_left nan y = refl
mul_left (inf s) y = refl
mul_left (fin false m e) y = refl
mul_left (fin true (suc m) e) y = refl
mul_left (fin true zero e) nan = refl
mul_left (fin true zero e) (inf t) = refl
mul_left (fin true zero e) (fin t n d) =
    let z = none (up e) (n * up d) in
    bare_none (unlike true t) (0 * up e * (n * up d)) (down e * down d) z (sides e d) ∙ sym (bare_none (unlike false t) (0 * up e * (n * up d)) (down e * down d) z (sides e d))

mul_right : (x y : Float) → bare (x ⊗ y) ≡ bare (x ⊗ bare y)
unfolding mul bare
mul_right x nan = refl
mul_right x (inf t) = refl
mul_right x (fin false n d) = refl
mul_right x (fin true (suc n) d) = refl
mul_right nan (fin true zero d) = refl
mul_right (inf s) (fin true zero d) = refl
mul_right (fin s m e) (fin true zero d) =
    let z : m * up e * (0 * up d) ≡ 0 = ap (λ (n : ℕ). m * up e * n) (zero-mul (up d)) ∙ mul-zero (m * up e) in
    bare_none (unlike s true) (m * up e * (0 * up d)) (down e * down d) z (sides e d) ∙ sym (bare_none (unlike s false) (m * up e * (0 * up d)) (down e * down d) z (sides e d))

pub twin_mul : {x x' y y' : Float} → Twin x x' → Twin y y' → Twin (x ⊗ y) (x' ⊗ y')
twin_mul {x} {x'} {y} {y'} h k =
    record { is = mul_left x y ∙ mul_right (bare x) y ∙ ap (λ (z : Float). bare (z ⊗ bare y)) h.is ∙ ap (λ (z : Float). bare (bare x' ⊗ z)) k.is ∙ sym (mul_left x' y' ∙ mul_right (bare x') y') }

-- a square has no sign to differ in
square_bare : (x : Float) → x ⊗ x ≡ bare x ⊗ bare x
unfolding mul bare
square_bare nan = refl
square_bare (inf s) = refl
square_bare (fin false m e) = refl
square_bare (fin true (suc m) e) = refl
square_bare (fin true zero e) = refl

pub twin_square : {x y : Float} → Twin x y → x ⊗ x ≡ y ⊗ y
twin_square {x} {y} h = square_bare x ∙ ap (λ (z : Float). z ⊗ z) h.is ∙ sym (square_bare y)

-- ---- clamping to 0..1 leaves a zero as it is
pub one-is : one ≡ fin false 1 (pos 0)
unfolding of_bits
one-is = refl

zero_not_below : (s : Bool) (e : ℤ) → (fin s zero e ≺ +0) ≡ false
unfolding lt of_bits
zero_not_below true e = rw (none (up e) 1, none 1 (down e))
zero_not_below false e = rw (none (up e) 1) (le-ltb 0 (0 * 1 * down e) (omega arith))

one_not_below : (s : Bool) (e : ℤ) → (fin false 1 (pos 0) ≺ fin s zero e) ≡ false
unfolding lt
one_not_below true e = refl
one_not_below false e = rw (none (up e) 1) (le-ltb (1 * 1 * down e) 0 (omega arith))

pub clamp_zero : (s : Bool) (e : ℤ) → clamp_of (fin s zero e) +0 one ≡ fin s zero e
unfolding clamp_of
clamp_zero s e = rw (zero_not_below s e) (rw (ap (λ (x : Float). x ≺ fin s zero e) one-is ∙ one_not_below s e))

-- ---- adding a zero
positive_sum : (s : Bool) (a C : ℕ) → 0 < a → sum binary64 s a false 0 C ≡ round binary64 s a C
unfolding sum
positive_sum true a C h = rw (le-ltb a 0 (omega arith), lt-ltb 0 a (omega arith)) (ap (λ (n : ℕ). round binary64 true n C) (omega arith))
positive_sum false a C h = ap (λ (n : ℕ). round binary64 false n C) (omega arith)

zero_sum : (s : Bool) (C : ℕ) → 0 < C → bare (sum binary64 s 0 false 0 C) ≡ fin false 0 (pos 0)
unfolding sum
zero_sum true C h = bare_none false (0 - 0) C refl h
zero_sum false C h = bare_none false (0 + 0) C refl h

-- the same number over a denominator d times as large
rescaled : (s : Bool) (m : ℕ) (e : ℤ) (d : ℕ) → 0 < d → T (fits binary64 (fin s m e)) → round binary64 s (m * up e * d) (down e * d) ≡ fin s m e
rescaled s m e d h f =
    round_same binary64 s (m * up e * d) (down e * d) (m * up e) (down e) (mul-pos (down_pos e) h) (down_pos e)
    (mul_assoc (m * up e) d (down e) ∙ ap (λ (n : ℕ). m * up e * n) (mul_comm d (down e)))
    ∙ round_itself s m e f

-- x that the format holds
plus-nothing : (x : Float) → T (fits binary64 x) → bare (x ⊕ +0) ≡ bare x
unfolding add bare of_bits
plus-nothing nan f = refl
plus-nothing (inf s) f = refl
plus-nothing (fin s zero e) f =
    rw (none (up e) 1, none 1 (down e)) (zero_sum s (down e * 1) (mul-pos (down_pos e) (zero-lt-suc 0)) ∙ sym (own s e f))
  where
    own : (s : Bool) (e : ℤ) → T (fits binary64 (fin s zero e)) → bare (fin s zero e) ≡ fin false 0 (pos 0)
    own true e f = rw (zero_exponent true e f)
    own false e f = rw (zero_exponent false e f)
plus-nothing (fin s (suc m) e) f =
    rw (none 1 (down e))
    (ap bare (positive_sum s (suc m * up e * 1) (down e * 1) (mul-pos (mul-pos (zero-lt-suc m) (up_pos e)) (zero-lt-suc 0)) ∙ rescaled s (suc m) e 1 (zero-lt-suc 0) f))

-- Adding a zero of either sign changes at most the sign of a zero.
pub twin_plus : {x z : Float} → T (fits binary64 x) → Twin z +0 → Twin (x ⊕ z) x
twin_plus {x} {z} f h = twin_through (twin_add (twin {x = x} refl) h) (record { is = plus-nothing x f })

-- ---- the difference of two finite floats that are equal
pub zero_is : bare +0 ≡ fin false 0 (pos 0)
unfolding bare of_bits
zero_is = refl

zero_times : (x : Float) → T (finite x) → bare (+0 ⊗ x) ≡ fin false 0 (pos 0)
unfolding mul of_bits
zero_times nan f = absurd f
zero_times (inf s) f = absurd f
zero_times (fin s m e) f = bare_none (unlike false s) (0 * 1 * (m * up e)) (1 * down e) (none 1 (m * up e)) (mul-pos (zero-lt-suc 0) (down_pos e))

pub twin_zero_times : {z : Float} (x : Float) → T (finite x) → Twin z +0 → Twin (z ⊗ x) +0
twin_zero_times {z} x f h = twin_through (twin_mul h (twin {x = x} refl)) (record { is = zero_times x f ∙ sym zero_is })

same_sign : (s : Bool) → unlike false s ≡ s
same_sign true = refl
same_sign false = refl

unit : (x : Float) → T (fits binary64 x) → fin false 1 (pos 0) ⊗ x ≡ x
unfolding mul
unit nan f = refl
unit (inf s) f = ap inf (same_sign s)
unit (fin s m e) f =
    ap (λ (t : Bool). round binary64 t (1 * 1 * (m * up e)) (1 * down e)) (same_sign s)
    ∙ ap (λ (n : ℕ). round binary64 s n (1 * down e)) (one-mul (m * up e)) ∙ ap (round binary64 s (m * up e)) (one-mul (down e)) ∙ round_itself s m e f

-- One times x is x.
pub one_times : (x : Float) → T (fits binary64 x) → one ⊗ x ≡ x
one_times x f = ap (λ (y : Float). y ⊗ x) one-is ∙ unit x f
