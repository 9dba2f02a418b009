-- The division that a measure to a segment saves: where the foot does not lie strictly inside, the clamped parameter is known without it. Assumes nothing.
use mathlib.Core.Path.{◌≡◌, refl, sym, ap, ◌∙◌, subst}
use mathlib.Core.Logic.{⊎_elim}
use mathlib.Core.Bool.{Bool, true, false}
use Prim.Native.Nat.{ℕ, zero, suc, ◌+◌, ◌-◌, ◌*◌, ◌/◌, ◌%◌, ◌^◌, ◌≤◌, ◌<◌, compare}
use native.Mathlib.Omega.{arith}
use native.Mathlib.Nat.{mul-pos, mul-one, one-mul, zero-lt-suc, eq-zero-or-pos}
use borrow.Author.Tests.{lt-ltb, ltb-true, ltb-false, eqb-true, ne_eqb}
use lib.Dec.{T, ltb, eqb}
use lib.IntN.{ℤ, pos}
use lib.Ieee.{Float, nan, inf, fin, binary64, low, emax, prec, up, down, size, nearest, odd, units, round, div, lt, le, eq, fits, of_bits}
use lib.Ieee.Bits.{is_true}
use lib.Ieee.Fits.{up_pos, down_pos, round-fits}
use lib.Ieee.Order.{round_mono}
use lib.Ieee.Positive.{first_pos}
use lib.Ieee.Scale.{finite}
use Rattle.floats.specs.Ops.{◌⊕◌, ◌⊖◌, ◌⊘◌, ◌≺◌, ◌≼◌, +0, one}
use Rattle.floats.specs.Float.{clamp_of}
use Rattle.floats.proofs.Order.{either, clash, and_left, and_right, or_right, le_below, lt_trans}
use Rattle.floats.proofs.Bounds.{or_le}
use Rattle.floats.proofs.Unsigned.{Plus, Unsigned, round_plus, unsigned_not_negative}
use Rattle.floats.proofs.float.Large.{zero_exponent}
use Rattle.segment.specs.Segment.{parameter_of, off_foot}
use Rattle.segment.proofs.Itself.{one_float, round_itself}
use Rattle.segment.proofs.Zeros.{bare, none, round_none, bare_zero, zero_is, one-is, clamp_zero, Twin, twin, twin_sub, twin_plus, twin_zero_times, one_times}

-- what is above zero has a numerator
not_zero : (t : Bool) (n : ℕ) (d : ℤ) → (+0 ≺ fin t n d) ≡ true → 0 < n
unfolding lt of_bits
not_zero true n d h = clash h
not_zero false n d h = let l = ltb-true (0 * 1 * down d) (n * up d * 1) h in first_pos n (up d) (first_pos (n * up d) 1 (omega arith))

-- ---- what a quotient of finite numbers is
quotient_is : (s : Bool) (m n : ℕ) (e g : ℤ) → 0 < n → fin s m e ⊘ fin false n g ≡ round binary64 s (m * up e * down g) (n * up g * down e)
unfolding div
quotient_is true m n e g h = rw (ne_eqb n 0 (λ z. omega (arith, z)))
quotient_is false m n e g h = rw (ne_eqb n 0 (λ z. omega (arith, z)))

-- ---- with a minus sign
abbrev Minus : Float → Type 0
Minus nan = ⊥
Minus (inf s) = s ≡ true
Minus (fin s m e) = s ≡ true

odd_minus : (d q k l : ℕ) → Minus (odd d true q k l)
unfolding odd
odd_minus d zero k l = refl
odd_minus d (suc q) k l = refl

units-minus : (q k : ℕ) → Minus (units binary64 true q k)
unfolding units
units-minus q k = ⊎_elim (λ h. rw h (odd_minus 54 q k (low binary64))) (λ h. rw h refl) (either (ltb (q * 2 ^ k) (2 ^ (low binary64 + suc (emax binary64)))))

round_minus : (a b : ℕ) → Minus (round binary64 true a b)
unfolding round
round_minus a b =
    let n = a * 2 ^ low binary64 in
    let k = size (n / b) - prec binary64 in
    let u = b * 2 ^ k in
    units-minus (nearest (n / u) (compare (n % u * 2) u)) k

below_zero : (m : ℕ) (e : ℤ) → (fin true (suc m) e ≺ +0) ≡ true
unfolding lt of_bits
below_zero m e = let p = mul-pos (zero-lt-suc m) (up_pos e) in lt-ltb 0 (suc m * up e * 1 + 0 * 1 * down e) (omega (arith, mul-one (suc m * up e)))

clamp_low : (x : Float) → (x ≺ +0) ≡ true → clamp_of x +0 one ≡ +0
unfolding clamp_of
clamp_low x h = rw h

inf_low : (inf true ≺ +0) ≡ true
unfolding lt of_bits
inf_low = refl

-- a number with a minus sign is clamped to a zero
clamp_minus : (x : Float) → T (fits binary64 x) → Minus x → bare (clamp_of x +0 one) ≡ fin false 0 (pos 0)
clamp_minus nan f h = absurd h
clamp_minus (inf true) f h = ap bare (clamp_low (inf true) inf_low) ∙ zero_is
clamp_minus (inf false) f h = clash h
clamp_minus (fin false m e) f h = clash h
clamp_minus (fin true zero e) f h = ap bare (clamp_zero true e ∙ ap (fin true zero) (zero_exponent true e f)) ∙ bare_zero true
clamp_minus (fin true (suc m) e) f h = ap bare (clamp_low (fin true (suc m) e) (below_zero m e)) ∙ zero_is

-- ---- the dot product is at most 0
plus_at_most_zero : (m : ℕ) (e : ℤ) → (fin false m e ≼ +0) ≡ true → m ≡ 0
unfolding le lt eq of_bits
plus_at_most_zero m e h =
    let l = or_le (m * up e * 1) (0 * 1 * down e) _ h in
    ⊎_elim (λ z. z) (λ p. let q = mul-pos p (up_pos e) in absurd (omega (arith, none 1 (down e), mul-one (m * up e)))) (eq-zero-or-pos m)

at_most_zero : (s : Bool) (m n : ℕ) (e g : ℤ) → 0 < n → (fin s m e ≼ +0) ≡ true → bare (clamp_of (fin s m e ⊘ fin false n g) +0 one) ≡ fin false 0 (pos 0)
at_most_zero true m n e g h k =
    ap (λ (x : Float). bare (clamp_of x +0 one)) (quotient_is true m n e g h)
    ∙ clamp_minus (round binary64 true (m * up e * down g) (n * up g * down e)) (round-fits binary64 true (m * up e * down g) (n * up g * down e)) (round_minus (m * up e * down g) (n * up g * down e))
at_most_zero false m n e g h k =
    let z : m * up e * down g ≡ 0 = ap (λ (i : ℕ). i * up e * down g) (plus_at_most_zero m e k) ∙ none (up e) (down g) in
    ap (λ (x : Float). bare (clamp_of x +0 one))
    (quotient_is false m n e g h ∙ ap (λ (i : ℕ). round binary64 false i (n * up g * down e)) z ∙ round_none false (n * up g * down e) (mul-pos (mul-pos h (up_pos g)) (down_pos e)))
    ∙ ap bare (clamp_zero false (pos 0)) ∙ bare_zero false

-- ---- it is at least the chord's square
one-fits : T (fits binary64 (fin false 1 (pos 0)))
unfolding fits
one-fits = tt

round_one : round binary64 false 1 1 ≡ one
round_one = round_itself false 1 (pos 0) one-fits ∙ sym one-is

zero_below-one : (+0 ≺ one) ≡ true
unfolding lt of_bits
zero_below-one = refl

-- what equals one is one
equal-one : (x : Float) → T (fits binary64 x) → eq (fin false 1 (pos 0)) x ≡ true → x ≡ fin false 1 (pos 0)
unfolding eq
equal-one nan f h = clash h
equal-one (inf s) f h = clash h
equal-one (fin true m e) f h =
    let z = eqb-true (1 * 1 * down e) 0 (and_right (eqb (1 * 1 * down e) (m * up e * 1)) _ h) in
    let p = down_pos e in absurd (omega (arith, one-mul (down e)))
equal-one (fin false m e) f h =
    let q = eqb-true (1 * 1 * down e) (m * up e * 1) (and_left (eqb (1 * 1 * down e) (m * up e * 1)) _ h) in
    one_float (fin false m e) (fin false 1 (pos 0)) false 1 1 (zero-lt-suc 0) f one-fits (refl, sym q ∙ ap (λ (n : ℕ). n * down e) (one-mul 1)) (refl, refl)

-- a number that is at least one is clamped to one
clamp_high : (x : Float) → T (fits binary64 x) → (one ≼ x) ≡ true → clamp_of x +0 one ≡ one
unfolding clamp_of le
clamp_high x f h =
    let low : (x ≺ +0) ≡ false = ⊎_elim (λ t. clash (sym (le_below one x h) ∙ lt_trans x +0 one t zero_below-one)) (λ t. t) (either (x ≺ +0)) in
    rw low
    (⊎_elim (λ t. rw t)
    (λ t. rw t (equal-one x f (ap (λ (y : Float). eq y x) (sym one-is) ∙ or_right (one ≺ x) (eq one x) h t) ∙ sym one-is)) (either (one ≺ x)))

reaches : (A B : ℕ) → 0 < B → B ≤ A → (one ≼ round binary64 false A B) ≡ true
reaches A B p l =
    subst (λ (x : Float). (x ≼ round binary64 false A B) ≡ true) round_one
    (is_true _ (round_mono binary64 1 1 A B (zero-lt-suc 0) p (omega (arith, one-mul B, mul-one A))))

-- ---- strictly between
plus-unsigned : (x : Float) → Plus x → Unsigned x
plus-unsigned nan p = tt
plus-unsigned (inf s) p = p
plus-unsigned (fin s m e) p = p

clamp_inside : (A B : ℕ) → 0 < B → A ≤ B → clamp_of (round binary64 false A B) +0 one ≡ round binary64 false A B
unfolding clamp_of
clamp_inside A B p l =
    let x = round binary64 false A B in
    let h : (one ≺ x) ≡ false =
    le_below x one (subst (λ (y : Float). (x ≼ y) ≡ true) round_one (is_true _ (round_mono binary64 A B 1 1 p (zero-lt-suc 0) (omega (arith, one-mul B, mul-one A))))) in
    rw (unsigned_not_negative x (plus-unsigned x (round_plus A B)), h)

-- ---- the three places of the foot
inf_over : (s : Bool) (n : ℕ) (i : ℤ) → inf s ⊘ fin false n i ≡ inf s
unfolding div
inf_over true n i = refl
inf_over false n i = refl

-- Where the dot product is at most 0, the parameter is a zero.
pub before-start : (d q : Float) → T (finite q) → (+0 ≺ q) ≡ true → (d ≼ +0) ≡ true → Twin (parameter_of d q) +0
unfolding parameter_of
before-start d nan g h k = absurd g
before-start d (inf t) g h k = absurd g
before-start d (fin true n i) g h k = clash (unfold lt of_bits in h)
before-start nan (fin false n i) g h k = clash (unfold le lt eq of_bits in k)
before-start (inf true) (fin false n i) g h k = twin (ap (λ (x : Float). clamp_of x +0 one) (inf_over true n i) ∙ clamp_low (inf true) inf_low)
before-start (inf false) (fin false n i) g h k = clash (unfold le lt eq of_bits in k)
before-start (fin s m e) (fin false n i) g h k = record { is = at_most_zero s m n e i (not_zero false n i h) k ∙ sym zero_is }

-- Where it is above 0 and not below the chord's square, the parameter is 1.
past_fin : (m n : ℕ) (e g : ℤ) → 0 < n → (fin false m e ≺ fin false n g) ≡ false → clamp_of (fin false m e ⊘ fin false n g) +0 one ≡ one
unfolding lt
past_fin m n e g h k =
    let A = m * up e * down g in
    let B = n * up g * down e in
    ap (λ (x : Float). clamp_of x +0 one) (quotient_is false m n e g h)
    ∙ clamp_high (round binary64 false A B) (round-fits binary64 false A B) (reaches A B (mul-pos (mul-pos h (up_pos g)) (down_pos e)) (ltb-false A B k))

inf_high : clamp_of (inf false) +0 one ≡ one
unfolding clamp_of lt of_bits
inf_high = refl

pub past_end : (d q : Float) → T (finite q) → (+0 ≺ q) ≡ true → (+0 ≺ d) ≡ true → (d ≺ q) ≡ false → parameter_of d q ≡ one
unfolding parameter_of
past_end d nan g h j k = absurd g
past_end d (inf t) g h j k = absurd g
past_end d (fin true n i) g h j k = clash (unfold lt of_bits in h)
past_end nan (fin false n i) g h j k = clash (unfold lt of_bits in j)
past_end (inf true) (fin false n i) g h j k = clash (unfold lt of_bits in j)
past_end (inf false) (fin false n i) g h j k = ap (λ (x : Float). clamp_of x +0 one) (inf_over false n i) ∙ inf_high
past_end (fin true m e) (fin false n i) g h j k = clash (unfold lt of_bits in j)
past_end (fin false m e) (fin false n i) g h j k = past_fin m n e i (not_zero false n i h) k

-- Strictly between it is the quotient as it stands.
inside_fin : (m n : ℕ) (e g : ℤ) → 0 < n → (fin false m e ≺ fin false n g) ≡ true → clamp_of (fin false m e ⊘ fin false n g) +0 one ≡ fin false m e ⊘ fin false n g
unfolding lt
inside_fin m n e g h k =
    let A = m * up e * down g in
    let B = n * up g * down e in
    let l = ltb-true A B k in
    rw (quotient_is false m n e g h) (clamp_inside A B (mul-pos (mul-pos h (up_pos g)) (down_pos e)) (omega arith))

by_inf : (m : ℕ) (e : ℤ) → fin false m e ⊘ inf false ≡ fin false 0 (pos 0)
unfolding div
by_inf m e = refl

pub strictly_inside : (d q : Float) → (+0 ≺ d) ≡ true → (d ≺ q) ≡ true → parameter_of d q ≡ d ⊘ q
unfolding parameter_of
strictly_inside nan q j k = clash (unfold lt of_bits in j)
strictly_inside (inf true) q j k = clash (unfold lt of_bits in j)
strictly_inside (fin true m e) q j k = clash (unfold lt of_bits in j)
strictly_inside (inf false) nan j k = clash (unfold lt in k)
strictly_inside (inf false) (inf true) j k = clash (unfold lt in k)
strictly_inside (inf false) (inf false) j k = clash (unfold lt in k)
strictly_inside (inf false) (fin t n i) j k = clash (unfold lt in k)
strictly_inside (fin false m e) nan j k = clash (unfold lt in k)
strictly_inside (fin false m e) (inf true) j k = clash (unfold lt in k)
strictly_inside (fin false m e) (inf false) j k = rw (by_inf m e) (clamp_zero false (pos 0))
strictly_inside (fin false m e) (fin true n i) j k = clash (unfold lt in k)
strictly_inside (fin false m e) (fin false n i) j k =
    inside_fin m n e i (not_zero false n i (lt_trans +0 (fin false m e) (fin false n i) j k)) k

-- ---- offsets from the foot there
pub foot_before : (t s dx p : Float) → T (fits binary64 s) → T (finite dx) → Twin t +0 → Twin (off_foot t s dx p) (p ⊖ s)
unfolding off_foot
foot_before t s dx p f g h = twin_sub (twin {x = p} refl) (twin_plus f (twin_zero_times dx g h))

pub foot_past : (s dx p : Float) → T (fits binary64 dx) → off_foot one s dx p ≡ p ⊖ (s ⊕ dx)
unfolding off_foot
foot_past s dx p f = ap (λ (x : Float). p ⊖ (s ⊕ x)) (one_times dx f)
