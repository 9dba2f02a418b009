-- Floats that are equal but for the sign of a zero: quotients and clamping keep that; the difference of equal floats is a zero, and adding the square of a zero changes nothing. Assumes nothing.
use mathlib.Core.Path.{◌≡◌, refl, sym, ap, ◌∙◌}
use mathlib.Core.Logic.{◌⊎◌, inl, inr, ⊎_elim}
use mathlib.Core.Bool.{Bool, true, false, not, ◌||◌, beq}
use Prim.Native.Nat.{ℕ, zero, suc, ◌+◌, ◌-◌, ◌*◌, ◌<◌}
use native.Mathlib.Nat.{zero-mul, mul-zero, mul-pos, zero-lt-suc, mul_right_comm, eq_of_mul-eq-mul_right, eq-zero-or-pos}
use native.Mathlib.Omega.{arith}
use borrow.Author.Tests.{le-ltb, eqb-true, eq-eqb, ne_eqb}
use lib.Dec.{T, eqb}
use lib.IntN.{ℤ, pos}
use lib.Ieee.{Float, nan, inf, fin, binary64, up, down, unlike, round, sum, add, sub, mul, div, neg, eq, fits, of_bits, level}
use lib.Ieee.Fits.{up_pos, down_pos}
use lib.Ieee.Scale.{finite}
use Rattle.floats.specs.Ops.{◌⊕◌, ◌⊖◌, ◌⊗◌, ◌⊘◌, +0, one}
use Rattle.floats.specs.Float.{clamp_of}
use Rattle.floats.proofs.Order.{clash, and_left, and_right}
use Rattle.floats.proofs.Unsigned.{Unsigned, sum_unsigned}
use Rattle.segment.proofs.Zeros.{bare, Twin, twin, twin_through, twin_mul, twin_square, twin_plus, clamp_zero, none, round_none, bare_zero, zero_is}

bare_none : (s : Bool) (a C : ℕ) → a ≡ 0 → 0 < C → bare (round binary64 s a C) ≡ fin false 0 (pos 0)
bare_none s a C e h = rw e (ap bare (round_none s C h) ∙ bare_zero s)

sides : (e d : ℤ) → 0 < down e * down d
sides e d = mul-pos (down_pos e) (down_pos d)

-- ---- quotients by the same number
div_left : (x y : Float) → bare (x ⊘ y) ≡ bare (bare x ⊘ y)
unfolding div bare
div_left nan y = refl
div_left (inf s) y = refl
div_left (fin false m e) y = refl
div_left (fin true (suc m) e) y = refl
div_left (fin true zero e) nan = refl
div_left (fin true zero e) (inf true) = refl
div_left (fin true zero e) (inf false) = refl
div_left (fin true zero e) (fin t zero d) = refl
div_left (fin true zero e) (fin t (suc n) d) =
    let z = none (up e) (down d) in
    let p = mul-pos (mul-pos (zero-lt-suc n) (up_pos d)) (down_pos e) in
    rw (ne_eqb (suc n) 0 (λ q. omega (arith, q)))
    (bare_none (unlike true t) (0 * up e * down d) (suc n * up d * down e) z p ∙ sym (bare_none (unlike false t) (0 * up e * down d) (suc n * up d * down e) z p))

pub twin_div : {x x' : Float} (y : Float) → Twin x x' → Twin (x ⊘ y) (x' ⊘ y)
twin_div {x} {x'} y h = record { is = div_left x y ∙ ap (λ (z : Float). bare (z ⊘ y)) h.is ∙ sym (div_left x' y) }

-- ---- clamping
clamp_bare : (x : Float) → bare (clamp_of x +0 one) ≡ bare (clamp_of (bare x) +0 one)
unfolding bare
clamp_bare nan = refl
clamp_bare (inf s) = refl
clamp_bare (fin false m e) = refl
clamp_bare (fin true (suc m) e) = refl
clamp_bare (fin true zero e) = ap bare (clamp_zero true e) ∙ sym (ap bare (clamp_zero false e))

pub twin_clamp : {x y : Float} → Twin x y → Twin (clamp_of x +0 one) (clamp_of y +0 one)
twin_clamp {x} {y} h = record { is = clamp_bare x ∙ ap (λ (z : Float). bare (clamp_of z +0 one)) h.is ∙ sym (clamp_bare y) }

-- ---- what has no minus sign is a twin only of itself
bare_unsigned : (x : Float) → Unsigned x → bare x ≡ x
unfolding bare
bare_unsigned nan u = refl
bare_unsigned (inf s) u = refl
bare_unsigned (fin false m e) u = refl
bare_unsigned (fin true m e) u = clash (sym u)

zero_unsigned : Unsigned +0
unfolding of_bits
zero_unsigned = refl

there-square : +0 ⊗ +0 ≡ +0
unfolding mul round of_bits
there-square = refl

-- Adding the square of a zero to what has no minus sign changes no bit.
pub plus-square : {z : Float} (x : Float) → T (fits binary64 x) → Unsigned x → Twin z +0 → x ⊕ z ⊗ z ≡ x
plus-square {z} x f u h =
    ap (λ (w : Float). x ⊕ w) (twin_square h ∙ there-square)
    ∙ sym (bare_unsigned (x ⊕ +0) (sum_unsigned x +0 u zero_unsigned)) ∙ (twin_plus {x = x} {z = +0} f (twin {x = +0} refl)).is ∙ bare_unsigned x u

-- ---- equal floats
level_sum : (s t : Bool) (A B C : ℕ) → 0 < C → level s A t B ≡ true → bare (sum binary64 s A (not t) B C) ≡ fin false 0 (pos 0)
unfolding sum
level_sum true true A B C h e =
    let q = eqb-true A B (and_left (eqb A B) _ e) in
    rw (le-ltb A B (omega arith), le-ltb B A (omega arith)) (bare_none false (A - B) C (omega arith) h)
level_sum false false A B C h e =
    let q = eqb-true A B (and_left (eqb A B) _ e) in
    rw (le-ltb A B (omega arith)) (bare_none false (A - B) C (omega arith) h)
level_sum true false A B C h e =
    let q = eqb-true A B (and_left (eqb A B) _ e) in
    let z = eqb-true A 0 (and_right (eqb A B) _ e) in
    bare_none true (A + B) C (omega arith) h
level_sum false true A B C h e =
    let q = eqb-true A B (and_left (eqb A B) _ e) in
    let z = eqb-true A 0 (and_right (eqb A B) _ e) in
    bare_none false (A + B) C (omega arith) h

-- The difference of two finite floats that are equal is a zero.
pub equal_difference : (x y : Float) → T (finite x) → eq x y ≡ true → Twin (x ⊖ y) +0
unfolding sub add neg eq
equal_difference nan y f h = absurd f
equal_difference (inf s) y f h = absurd f
equal_difference (fin s m e) nan f h = clash h
equal_difference (fin s m e) (inf t) f h = clash h
equal_difference (fin s m e) (fin t n d) f h =
    record { is = level_sum s t (m * up e * down d) (n * up d * down e) (down e * down d) (sides e d) h ∙ sym zero_is }

-- A finite float times a zero is a zero.
times_zero : (x : Float) → T (finite x) → bare (x ⊗ +0) ≡ fin false 0 (pos 0)
unfolding mul of_bits
times_zero nan f = absurd f
times_zero (inf s) f = absurd f
times_zero (fin s m e) f =
    bare_none (unlike s false) (m * up e * (0 * 1)) (down e * 1) (mul-zero (m * up e)) (mul-pos (down_pos e) (zero-lt-suc 0))

pub twin_times : (x : Float) {z : Float} → T (finite x) → Twin z +0 → Twin (x ⊗ z) +0
twin_times x {z} f h = twin_through (twin_mul (twin {x = x} refl) h) (record { is = times_zero x f ∙ sym zero_is })

-- ---- floats that equal a third
or_zero : (b : Bool) (a : ℕ) → (b || eqb a 0) ≡ true → (b ≡ true) ⊎ (a ≡ 0)
or_zero true a h = inl refl
or_zero false a h = inr (eqb-true a 0 h)

-- two fractions that equal a / c
level_fractions : (x y dx dy a c : ℕ) → 0 < c → x * c ≡ a * dx → y * c ≡ a * dy → x * dy ≡ y * dx
level_fractions x y dx dy a c p h k =
    eq_of_mul-eq-mul_right c p (x * dy) (y * dx)
    (mul_right_comm x dy c ∙ ap (λ (z : ℕ). z * dy) h ∙ mul_right_comm a dx dy ∙ ap (λ (z : ℕ). z * dx) (sym k) ∙ mul_right_comm y c dx)

-- a product with a factor above 0 that is 0
no_factor : (x c d : ℕ) → 0 < c → x * c ≡ 0 → x * d ≡ 0
no_factor x c d p h = ⊎_elim (λ z. ap (λ (n : ℕ). n * d) z ∙ zero-mul d) (λ q. let l = mul-pos q p in absurd (omega arith)) (eq-zero-or-pos x)

same-signs : (s t u : Bool) (A B : ℕ) → A ≡ B → (beq s u ≡ true) ⊎ (A ≡ 0) → (beq t u ≡ true) ⊎ (B ≡ 0) → level s A t B ≡ true
same-signs true true u A B e h k = rw (eq-eqb A B e)
same-signs false false u A B e h k = rw (eq-eqb A B e)
same-signs true false true A B e h k = let z : A ≡ 0 = ⊎_elim (λ c. clash c) (λ n. e ∙ n) k in rw (eq-eqb A B e) (eq-eqb A 0 z)
same-signs true false false A B e h k = let z : A ≡ 0 = ⊎_elim (λ c. clash c) (λ n. n) h in rw (eq-eqb A B e) (eq-eqb A 0 z)
same-signs false true true A B e h k = let z : A ≡ 0 = ⊎_elim (λ c. clash c) (λ n. n) h in rw (eq-eqb A B e) (eq-eqb A 0 z)
same-signs false true false A B e h k = let z : A ≡ 0 = ⊎_elim (λ c. clash c) (λ n. e ∙ n) k in rw (eq-eqb A B e) (eq-eqb A 0 z)

pub equal-through : (x y z : Float) → T (finite x) → T (finite y) → eq x z ≡ true → eq y z ≡ true → eq x y ≡ true
unfolding eq
equal-through nan y z f g h k = absurd f
equal-through (inf s) y z f g h k = absurd f
equal-through (fin s m e) nan z f g h k = absurd g
equal-through (fin s m e) (inf t) z f g h k = absurd g
equal-through (fin s m e) (fin t n d) nan f g h k = clash h
equal-through (fin s m e) (fin t n d) (inf u) f g h k = clash h
equal-through (fin s m e) (fin t n d) (fin u j i) f g h k =
    let c = down i in
    let x = m * up e in
    let y = n * up d in
    let a = j * up i in
    let h₁ = eqb-true (x * c) (a * down e) (and_left (eqb (x * c) (a * down e)) _ h) in
    let k₁ = eqb-true (y * c) (a * down d) (and_left (eqb (y * c) (a * down d)) _ k) in
    let h₂ = or_zero (beq s u) (x * c) (and_right (eqb (x * c) (a * down e)) _ h) in
    let k₂ = or_zero (beq t u) (y * c) (and_right (eqb (y * c) (a * down d)) _ k) in
    same-signs s t u (x * down d) (y * down e) (level_fractions x y (down e) (down d) a c (down_pos i) h₁ k₁)
    (⊎_elim (λ b. inl b) (λ o. inr (no_factor x c (down d) (down_pos i) o)) h₂)
    (⊎_elim (λ b. inl b) (λ o. inr (no_factor y c (down e) (down_pos i) o)) k₂)
