-- Numbers without a minus sign: squares, their sums and quotients are such, none is below zero, and division by a positive number keeps their order. Assumes nothing.
use Rattle.std.proofs.Common.{◌≡◌, ℕ, zero, suc, ◌+◌, ◌-◌, ◌*◌, ◌/◌, ◌%◌, ◌^◌, ◌<◌, ◌≤◌, Bool, true, false, cond, T, eqb, ltb, ℤ, sym, refl, ap, ◌∙◌, ⊎_elim, mul-le-mul_right, mul_assoc, mul_comm, mul-pos, zero-mul, mul_left_comm, arith, ltb-false, ltb-true, le-ltb, ne_eqb}
use Prim.Native.Nat.{compare}
use lib.Ieee.{Float, nan, inf, fin, binary64, low, emax, prec, up, down, size, nearest, odd, units, round, sum, add, mul, div, lt, eq, le, is_nan, of_bits}
use lib.Ieee.Fits.{up_pos, down_pos}
use lib.Ieee.Order.{round_mono}
use lib.Ieee.Positive.{first_pos}
use Rattle.floats.specs.Ops.{◌⊕◌, ◌⊗◌, ◌⊘◌, ◌≺◌, ◌≼◌, +0}
use Rattle.floats.proofs.Bounds.{or_le}
use Rattle.floats.proofs.Order.{either, clash, lt_gap, lt_nan}

-- x is a number without a minus sign; or it may be a NaN too
abbrev pub Plus : Float → Type 0
Plus nan = ⊥
Plus (inf s) = s ≡ false
Plus (fin s m e) = s ≡ false

abbrev pub Unsigned : Float → Type 0
Unsigned nan = Unit
Unsigned (inf s) = s ≡ false
Unsigned (fin s m e) = s ≡ false

plus-unsigned : (x : Float) → Plus x → Unsigned x
plus-unsigned nan p = tt
plus-unsigned (inf s) p = p
plus-unsigned (fin s m e) p = p

pub plus-number : (x : Float) → Plus x → is_nan x ≡ false
unfolding is_nan
plus-number nan p = absurd p
plus-number (inf s) p = refl
plus-number (fin s m e) p = refl

-- ---- what an operation rounds with the plus sign
odd_plus : (d q k l : ℕ) → Plus (odd d false q k l)
unfolding odd
odd_plus d zero k l = refl
odd_plus d (suc q) k l = refl

units-plus : (q k : ℕ) → Plus (units binary64 false q k)
unfolding units
units-plus q k = ⊎_elim (λ h. rw h (odd_plus 54 q k (low binary64))) (λ h. rw h refl) (either (ltb (q * 2 ^ k) (2 ^ (low binary64 + suc (emax binary64)))))

pub round_plus : (a b : ℕ) → Plus (round binary64 false a b)
unfolding round
round_plus a b =
    let n = a * 2 ^ low binary64 in
    let k = size (n / b) - prec binary64 in
    let u = b * 2 ^ k in
    units-plus (nearest (n / u) (compare (n % u * 2) u)) k

round_unsigned : (a b : ℕ) → Unsigned (round binary64 false a b)
round_unsigned a b = plus-unsigned (round binary64 false a b) (round_plus a b)

pub square-unsigned : (x : Float) → Unsigned (x ⊗ x)
unfolding mul
square-unsigned nan = tt
square-unsigned (inf true) = refl
square-unsigned (inf false) = refl
square-unsigned (fin true m e) = round_unsigned (m * up e * (m * up e)) (down e * down e)
square-unsigned (fin false m e) = round_unsigned (m * up e * (m * up e)) (down e * down e)

pub sum_unsigned : (x y : Float) → Unsigned x → Unsigned y → Unsigned (x ⊕ y)
unfolding add sum
sum_unsigned nan y p q = tt
sum_unsigned (inf s) nan p q = tt
sum_unsigned (inf true) (inf t) p q = clash (sym p)
sum_unsigned (inf false) (inf true) p q = tt
sum_unsigned (inf false) (inf false) p q = refl
sum_unsigned (inf s) (fin t n d) p q = p
sum_unsigned (fin s m e) nan p q = tt
sum_unsigned (fin s m e) (inf t) p q = q
sum_unsigned (fin true m e) (fin t n d) p q = clash (sym p)
sum_unsigned (fin false m e) (fin true n d) p q = clash (sym q)
sum_unsigned (fin false m e) (fin false n d) p q = round_unsigned (m * up e * down d + n * up d * down e) (down e * down d)

pub quotient_unsigned : (x y : Float) → Unsigned x → Unsigned y → Unsigned (x ⊘ y)
unfolding div
quotient_unsigned nan y p q = tt
quotient_unsigned (inf s) nan p q = tt
quotient_unsigned (inf s) (inf t) p q = tt
quotient_unsigned (inf true) (fin t n d) p q = clash (sym p)
quotient_unsigned (inf false) (fin true n d) p q = clash (sym q)
quotient_unsigned (inf false) (fin false n d) p q = refl
quotient_unsigned (fin s m e) nan p q = tt
quotient_unsigned (fin true m e) (inf t) p q = clash (sym p)
quotient_unsigned (fin false m e) (inf true) p q = clash (sym q)
quotient_unsigned (fin false m e) (inf false) p q = refl
quotient_unsigned (fin true m e) (fin t n d) p q = clash (sym p)
quotient_unsigned (fin false m e) (fin true n d) p q = clash (sym q)
quotient_unsigned (fin false m e) (fin false n d) p q = either_way (eqb n 0) (eqb m 0)
  where
    either_way : (b c : Bool) → Unsigned (cond b (cond c nan (inf false)) (round binary64 false (m * up e * down d) (n * up d * down e)))
    either_way true true = tt
    either_way true false = refl
    either_way false c = round_unsigned (m * up e * down d) (n * up d * down e)

-- ---- none is below zero
pub unsigned_not_negative : (x : Float) → Unsigned x → (x ≺ +0) ≡ false
unfolding lt of_bits
unsigned_not_negative nan p = refl
unsigned_not_negative (inf true) p = clash (sym p)
unsigned_not_negative (inf false) p = refl
unsigned_not_negative (fin true m e) p = clash (sym p)
unsigned_not_negative (fin false m e) p =
    let z : 0 * 1 * down e ≡ 0 = ap (λ (n : ℕ). n * down e) (zero-mul 1) ∙ zero-mul (down e) in
    le-ltb (m * up e * 1) (0 * 1 * down e) (rw z (omega arith))

pub square_not_negative : (x : Float) → (x ⊗ x ≺ +0) ≡ false
square_not_negative x = unsigned_not_negative (x ⊗ x) (square-unsigned x)

-- ---- division
-- what is at most x is not above it
le_not_above : (y x : Float) → Unsigned y → Unsigned x → (y ≼ x) ≡ true → (x ≺ y) ≡ false
unfolding le lt eq
le_not_above nan x p q h = clash h
le_not_above (inf true) x p q h = clash (sym p)
le_not_above (inf false) nan p q h = clash h
le_not_above (inf false) (inf true) p q h = clash (sym q)
le_not_above (inf false) (inf false) p q h = refl
le_not_above (inf false) (fin t n d) p q h = clash h
le_not_above (fin true m e) x p q h = clash (sym p)
le_not_above (fin false m e) nan p q h = clash h
le_not_above (fin false m e) (inf true) p q h = clash (sym q)
le_not_above (fin false m e) (inf false) p q h = refl
le_not_above (fin false m e) (fin true n d) p q h = clash (sym q)
le_not_above (fin false m e) (fin false n d) p q h =
    le-ltb (n * up d * down e) (m * up e * down d) (or_le (m * up e * down d) (n * up d * down e) true h)

-- c is not above b, nor b above a; so c is not above a
pub not_above : (a b c : Float) → is_nan b ≡ false → (a ≺ b) ≡ false → (b ≺ c) ≡ false → (a ≺ c) ≡ false
not_above a b c n p q =
    ⊎_elim (λ t. ⊎_elim (λ r. clash (sym p ∙ r)) (λ r. clash (sym q ∙ r)) (lt_gap a b c n t)) (λ t. t) (either (a ≺ c))

-- a / D ≤ b / G, so a / (M * G) ≤ b / (M * D), with a factor E on both sides
crossed : (a b D E G M : ℕ) → a * D ≤ b * G → a * E * (M * D) ≤ b * E * (M * G)
crossed a b D E G M h =
    let p : a * E * (M * D) ≡ a * D * (E * M) = simp (mul_assoc, mul_comm, mul_left_comm) in
    let q : b * E * (M * G) ≡ b * G * (E * M) = simp (mul_assoc, mul_comm, mul_left_comm) in
    rw (p, q) (mul-le-mul_right (E * M) h)

-- of finite numbers
finite_quotient : (m : ℕ) (e : ℤ) (j : ℕ) (d : ℤ) (k : ℕ) (g : ℤ) → 0 < m → k * up g * down d ≤ j * up d * down g
    → (round binary64 false (j * up d * down e) (m * up e * down d) ≺ round binary64 false (k * up g * down e) (m * up e * down g)) ≡ false
finite_quotient m e j d k g z h =
    le_not_above (round binary64 false (k * up g * down e) (m * up e * down g)) (round binary64 false (j * up d * down e) (m * up e * down d))
    (round_unsigned (k * up g * down e) (m * up e * down g)) (round_unsigned (j * up d * down e) (m * up e * down d))
    (is_true _ (round_mono binary64 (k * up g * down e) (m * up e * down g) (j * up d * down e) (m * up e * down d)
    (mul-pos (mul-pos z (up_pos e)) (down_pos g)) (mul-pos (mul-pos z (up_pos e)) (down_pos d)) (crossed (k * up g) (j * up d) (down d) (down e) (down g) (m * up e) h)))
  where
    is_true : (b : Bool) → T b → b ≡ true
    is_true true t = refl
    is_true false t = absurd t

quotient_is : (m : ℕ) (e : ℤ) (j : ℕ) (d : ℤ) → 0 < m → fin false j d ⊘ fin false m e ≡ round binary64 false (j * up d * down e) (m * up e * down d)
unfolding div
quotient_is m e j d h = rw (ne_eqb m 0 (λ q. omega (arith, q)))

positive : (m : ℕ) (e : ℤ) → (+0 ≺ fin false m e) ≡ true → 0 < m
unfolding lt of_bits
positive m e h =
    let l = ltb-true (0 * 1 * down e) (m * up e * 1) h in first_pos m (up e) (first_pos (m * up e) 1 (omega arith))

inf_not_below : (y : Float) → (inf false ≺ y) ≡ false
unfolding lt
inf_not_below nan = refl
inf_not_below (inf t) = refl
inf_not_below (fin t n d) = refl

finite_not_above : (m : ℕ) (e : ℤ) (j : ℕ) (d : ℤ) (k : ℕ) (g : ℤ) (b : Float) → 0 < m → ltb (j * up d * down g) (k * up g * down d) ≡ false
    → (b ≺ fin false j d ⊘ fin false m e) ≡ false → (b ≺ fin false k g ⊘ fin false m e) ≡ false
finite_not_above m e j d k g b z h v =
    rw (quotient_is m e k g z)
    (not_above b (round binary64 false (j * up d * down e) (m * up e * down d)) (round binary64 false (k * up g * down e) (m * up e * down g))
    (plus-number _ (round_plus (j * up d * down e) (m * up e * down d))) (rw (quotient_is m e j d z) at v)
    (finite_quotient m e j d k g z (ltb-false _ _ h)))

-- Division by a positive number L keeps the order of x and y: where y is not above x, and x / L not above b, which is not below zero, y / L is not above b.
pub quotient_not_above : (b L x y : Float) → (+0 ≺ L) ≡ true → Unsigned x → Unsigned y → is_nan x ≡ false → (x ≺ y) ≡ false
    → (b ≺ +0) ≡ false → (b ≺ x ⊘ L) ≡ false → (b ≺ y ⊘ L) ≡ false
unfolding div
quotient_not_above b nan x y l p q n h z v = clash (unfold lt of_bits in l)
quotient_not_above b (inf true) x y l p q n h z v = clash (unfold lt of_bits in l)
quotient_not_above b (inf false) x nan l p q n h z v = lt_nan b nan (unfold is_nan in refl)
quotient_not_above b (inf false) x (inf t) l p q n h z v = lt_nan b nan (unfold is_nan in refl)
quotient_not_above b (inf false) x (fin true k g) l p q n h z v = clash (sym q)
quotient_not_above b (inf false) x (fin false k g) l p q n h z v = unfold of_bits in z
quotient_not_above b (fin true m e) x y l p q n h z v = clash (unfold lt of_bits in l)
quotient_not_above b (fin false m e) nan y l p q n h z v = clash (sym (unfold is_nan in n))
quotient_not_above b (fin false m e) (inf true) y l p q n h z v = clash (sym p)
quotient_not_above b (fin false m e) (inf false) nan l p q n h z v = lt_nan b nan (unfold is_nan in refl)
quotient_not_above b (fin false m e) (inf false) (inf true) l p q n h z v = clash (sym q)
quotient_not_above b (fin false m e) (inf false) (inf false) l p q n h z v = v
quotient_not_above b (fin false m e) (inf false) (fin true k g) l p q n h z v = clash (sym q)
quotient_not_above b (fin false m e) (inf false) (fin false k g) l p q n h z v =
    not_above b (inf false) (fin false k g ⊘ fin false m e) (unfold is_nan in refl) v (inf_not_below _)
quotient_not_above b (fin false m e) (fin true j d) y l p q n h z v = clash (sym p)
quotient_not_above b (fin false m e) (fin false j d) nan l p q n h z v = lt_nan b nan (unfold is_nan in refl)
quotient_not_above b (fin false m e) (fin false j d) (inf true) l p q n h z v = clash (sym q)
quotient_not_above b (fin false m e) (fin false j d) (inf false) l p q n h z v = clash (sym (unfold lt in h))
quotient_not_above b (fin false m e) (fin false j d) (fin true k g) l p q n h z v = clash (sym q)
quotient_not_above b (fin false m e) (fin false j d) (fin false k g) l p q n h z v = finite_not_above m e j d k g b (positive m e l) (unfold lt in h) v
