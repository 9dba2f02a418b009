-- The sign of a sum and of a product as their operands turn: a quarter turn exchanges cross and dot. Assumes nothing.
use Prim.Native.Nat.{ℕ, zero, suc, ◌+◌, ◌-◌, ◌*◌, ◌/◌, ◌%◌, ◌^◌, ◌≤◌, ◌<◌, compare}
use mathlib.Core.Path.{◌≡◌, refl, sym, ap, ◌∙◌, subst}
use mathlib.Core.Logic.{⊎_elim}
use mathlib.Core.Bool.{Bool, true, false, not, cond}
use native.Mathlib.Nat.{zero-mul, mul-pos, mul_comm, add_comm}
use native.Mathlib.Omega.{arith}
use borrow.Author.Tests.{lt-ltb, le-ltb}
use lib.Dec.{ltb, eqb, lit<}
use lib.IntN.{ℤ}
use lib.Ieee.{Float, nan, inf, fin, binary64, low, emax, prec, up, down, size, nearest, odd, units, round, sum, unlike, add, mul, neg, lt, of_bits}
use lib.Ieee.Fits.{down_pos}
use Rattle.floats.specs.Ops.{◌⊕◌, ◌⊗◌, ◌≺◌, +0}
use Rattle.floats.proofs.Order.{either, lt_or_ge}
use Rattle.floats.proofs.Bounds.{Within, round_within}
use Rattle.floats.proofs.float.Large.{neg_neg}

-- ---- zero
no_down : (e : ℤ) → 0 * 1 * down e ≡ 0
no_down e = ap (λ (n : ℕ). n * down e) (zero-mul 1) ∙ zero-mul (down e)

-- a number's negative lies on the other side of zero
pub neg_above : (x : Float) → (+0 ≺ neg x) ≡ (x ≺ +0)
unfolding lt neg of_bits
neg_above nan = refl
neg_above (inf true) = refl
neg_above (inf false) = refl
neg_above (fin true m e) = let a : m * up e * 1 + 0 ≡ m * up e * 1 = omega arith in rw (no_down e, a)
neg_above (fin false m e) = sym (le-ltb (m * up e * 1) (0 * 1 * down e) (rw (no_down e) (omega arith)))

pub neg_below_zero : (x : Float) → (neg x ≺ +0) ≡ (+0 ≺ x)
neg_below_zero x = sym (neg_above (neg x)) ∙ ap (λ (y : Float). +0 ≺ y) (neg_neg x)

no_size : (x c : ℕ) → x ≤ 0 * 2 ^ 0 * c → x ≡ 0
no_size x c h = let z : 0 * 2 ^ 0 * c ≡ 0 = ap (λ (n : ℕ). n * c) (zero-mul (2 ^ 0)) ∙ zero-mul c in omega arith

-- a number of no size lies on neither side
zero_beside : (x : Float) → Within (0 * 2 ^ 0) x → ((+0 ≺ x) ≡ false) × ((x ≺ +0) ≡ false)
unfolding lt of_bits
zero_beside nan w = absurd w
zero_beside (inf s) w = absurd w
zero_beside (fin true m e) w =
    let z : m * up e ≡ 0 = no_size (m * up e) (down e) w in
    (refl, le-ltb 0 (m * up e * 1 + 0 * 1 * down e) (rw (no_down e) (omega arith)))
zero_beside (fin false m e) w =
    let z : m * up e ≡ 0 = no_size (m * up e) (down e) w in
    (le-ltb (0 * 1 * down e) (m * up e * 1) (rw (no_down e) (omega arith)), le-ltb (m * up e * 1) (0 * 1 * down e) (rw (no_down e) (omega arith)))

-- ---- what is rounded with the other sign is the negative
odd_neg : (d : ℕ) (s : Bool) (q k l : ℕ) → odd d (not s) q k l ≡ neg (odd d s q k l)
unfolding odd neg
odd_neg d s zero k l = refl
odd_neg d s (suc q) k l = refl

units_neg : (s : Bool) (q k : ℕ) → units binary64 (not s) q k ≡ neg (units binary64 s q k)
unfolding units neg
units_neg s q k = ⊎_elim (λ h. rw h (odd_neg 54 s q k (low binary64))) (λ h. rw h) (either (ltb (q * 2 ^ k) (2 ^ (low binary64 + suc (emax binary64)))))

pub round_neg : (s : Bool) (a b : ℕ) → round binary64 (not s) a b ≡ neg (round binary64 s a b)
unfolding round
round_neg s a b =
    let n = a * 2 ^ low binary64 in
    let k = size (n / b) - prec binary64 in
    let u = b * 2 ^ k in
    units_neg s (nearest (n / u) (compare (n % u * 2) u)) k

-- ---- products
unlike_not : (s t : Bool) → unlike (not s) t ≡ not (unlike s t)
unlike_not true true = refl
unlike_not true false = refl
unlike_not false true = refl
unlike_not false false = refl

cond_neg : (b : Bool) (s : Bool) → cond b nan (inf (not s)) ≡ neg (cond b nan (inf s))
unfolding neg
cond_neg true s = refl
cond_neg false s = refl

pub mul_neg : (x y : Float) → neg x ⊗ y ≡ neg (x ⊗ y)
unfolding mul neg
mul_neg nan y = refl
mul_neg (inf s) nan = refl
mul_neg (inf s) (inf t) = ap inf (unlike_not s t)
mul_neg (inf s) (fin t n d) = ap (λ (b : Bool). cond (eqb n 0) nan (inf b)) (unlike_not s t) ∙ cond_neg (eqb n 0) (unlike s t)
mul_neg (fin s m e) nan = refl
mul_neg (fin s m e) (inf t) = ap (λ (b : Bool). cond (eqb m 0) nan (inf b)) (unlike_not s t) ∙ cond_neg (eqb m 0) (unlike s t)
mul_neg (fin s m e) (fin t n d) =
    ap (λ (b : Bool). round binary64 b (m * up e * (n * up d)) (down e * down d)) (unlike_not s t) ∙ round_neg (unlike s t) (m * up e * (n * up d)) (down e * down d)

-- ---- sums
-- which of two sizes is the smaller, as the sum tests it
pub data Sizes (a b : ℕ) : Type 0 where
  smaller : ltb a b ≡ true → ltb b a ≡ false → Sizes a b
  larger : ltb a b ≡ false → ltb b a ≡ true → Sizes a b
  equal : ltb a b ≡ false → ltb b a ≡ false → a - b ≡ 0 → b - a ≡ 0 → Sizes a b

pub sizes : (a b : ℕ) → Sizes a b
sizes a b =
    ⊎_elim (λ h. smaller (lt-ltb a b h) (le-ltb b a (omega arith)))
    (λ h. ⊎_elim (λ g. larger (le-ltb a b (omega arith)) (lt-ltb b a g)) (λ g. equal (le-ltb a b (omega arith)) (le-ltb b a (omega arith)) (omega arith) (omega arith)) (lt_or_ge b a))
    (lt_or_ge a b)

-- in either order
sum_turned : (s t : Bool) (a b c : ℕ) → sum binary64 s a t b c ≡ sum binary64 t b s a c
unfolding sum
sum_turned true true a b c = rw (add_comm a b)
sum_turned false false a b c = rw (add_comm a b)
sum_turned true false a b c = go (sizes a b)
  where
    go : Sizes a b → cond (ltb a b) (round binary64 false (b - a) c) (round binary64 (ltb b a) (a - b) c) ≡ cond (ltb b a) (round binary64 true (a - b) c) (round binary64 false (b - a) c)
    go (smaller h g) = rw (h, g)
    go (larger h g) = rw (h, g)
    go (equal h g p q) = rw (h, g, p, q)
sum_turned false true a b c = go (sizes a b)
  where
    go : Sizes a b → cond (ltb a b) (round binary64 true (b - a) c) (round binary64 false (a - b) c) ≡ cond (ltb b a) (round binary64 false (a - b) c) (round binary64 (ltb a b) (b - a) c)
    go (smaller h g) = rw (h, g)
    go (larger h g) = rw (h, g)
    go (equal h g p q) = rw (h, g, p, q)

pub add_turned : (x y : Float) → x ⊕ y ≡ y ⊕ x
unfolding add
add_turned nan nan = refl
add_turned nan (inf t) = refl
add_turned nan (fin t n d) = refl
add_turned (inf s) nan = refl
add_turned (inf true) (inf true) = refl
add_turned (inf true) (inf false) = refl
add_turned (inf false) (inf true) = refl
add_turned (inf false) (inf false) = refl
add_turned (inf s) (fin t n d) = refl
add_turned (fin s m e) nan = refl
add_turned (fin s m e) (inf t) = refl
add_turned (fin s m e) (fin t n d) =
    sum_turned s t (m * up e * down d) (n * up d * down e) (down e * down d) ∙ ap (sum binary64 t (n * up d * down e) s (m * up e * down d)) (mul_comm (down e) (down d))

-- Two numbers lie on opposite sides of zero, or neither beside it. Zeros have no side, so a sum's sign of zero does not count.
pub record Opposite (x y : Float) : Type 0 where
  pub above : (+0 ≺ x) ≡ (y ≺ +0)
  pub under : (x ≺ +0) ≡ (+0 ≺ y)

pub neg_opposite : (x : Float) → Opposite (neg x) x
neg_opposite x = record { above = neg_above x; under = neg_below_zero x }

same_opposite : (x y z : Float) → x ≡ y → Opposite y z → Opposite x z
same_opposite x y z e o = subst (λ (v : Float). Opposite v z) (sym e) o

zeros_opposite : (s t : Bool) (c : ℕ) → 0 < c → Opposite (round binary64 s 0 c) (round binary64 t 0 c)
zeros_opposite s t c p =
    let a = zero_beside (round binary64 s 0 c) (round_within s 0 c 0 0 p (lit< tt) (lit< tt) (omega arith)) in
    let b = zero_beside (round binary64 t 0 c) (round_within t 0 c 0 0 p (lit< tt) (lit< tt) (omega arith)) in
    record { above = a.0 ∙ sym b.1; under = a.1 ∙ sym b.0 }

round_opposite : (s : Bool) (a c : ℕ) → Opposite (round binary64 (not s) a c) (round binary64 s a c)
round_opposite s a c = same_opposite (round binary64 (not s) a c) (neg (round binary64 s a c)) (round binary64 s a c) (round_neg s a c) (neg_opposite (round binary64 s a c))

sum_opposite : (s t : Bool) (a b c : ℕ) → 0 < c → Opposite (sum binary64 (not s) a (not t) b c) (sum binary64 s a t b c)
unfolding sum
sum_opposite true true a b c p = round_opposite true (a + b) c
sum_opposite false false a b c p = round_opposite false (a + b) c
sum_opposite true false a b c p = go (sizes a b)
  where
    go : Sizes a b → Opposite (cond (ltb a b) (round binary64 true (b - a) c) (round binary64 false (a - b) c)) (cond (ltb a b) (round binary64 false (b - a) c) (round binary64 (ltb b a) (a - b) c))
    go (smaller h g) = rw h (round_opposite false (b - a) c)
    go (larger h g) = rw (h, g) (round_opposite true (a - b) c)
    go (equal h g z y) = rw (h, g, z) (zeros_opposite false false c p)
sum_opposite false true a b c p = go (sizes a b)
  where
    go : Sizes a b → Opposite (cond (ltb a b) (round binary64 false (b - a) c) (round binary64 (ltb b a) (a - b) c)) (cond (ltb a b) (round binary64 true (b - a) c) (round binary64 false (a - b) c))
    go (smaller h g) = rw h (round_opposite true (b - a) c)
    go (larger h g) = rw (h, g) (round_opposite false (a - b) c)
    go (equal h g z y) = rw (h, g, z) (zeros_opposite false false c p)

pub add_opposite : (x y : Float) → Opposite (neg x ⊕ neg y) (x ⊕ y)
unfolding add neg lt of_bits
add_opposite nan y = record { above = refl; under = refl }
add_opposite (inf s) nan = record { above = refl; under = refl }
add_opposite (inf true) (inf true) = record { above = refl; under = refl }
add_opposite (inf true) (inf false) = record { above = refl; under = refl }
add_opposite (inf false) (inf true) = record { above = refl; under = refl }
add_opposite (inf false) (inf false) = record { above = refl; under = refl }
add_opposite (inf true) (fin t n d) = record { above = refl; under = refl }
add_opposite (inf false) (fin t n d) = record { above = refl; under = refl }
add_opposite (fin s m e) nan = record { above = refl; under = refl }
add_opposite (fin s m e) (inf true) = record { above = refl; under = refl }
add_opposite (fin s m e) (inf false) = record { above = refl; under = refl }
add_opposite (fin s m e) (fin t n d) = sum_opposite s t (m * up e * down d) (n * up d * down e) (down e * down d) (mul-pos (down_pos e) (down_pos d))

pub opposite_turned : (x y : Float) → Opposite x y → Opposite y x
opposite_turned x y o = record { above = sym o.under; under = sym o.above }

-- on the same side
pub record Alike (x y : Float) : Type 0 where
  pub above : (+0 ≺ x) ≡ (+0 ≺ y)
  pub under : (x ≺ +0) ≡ (y ≺ +0)

pub alike_same : (x y : Float) → x ≡ y → Alike x y
alike_same x y e = record { above = ap (λ (z : Float). +0 ≺ z) e; under = ap (λ (z : Float). z ≺ +0) e }

pub twice_opposite : (x y z : Float) → Opposite x y → Opposite y z → Alike x z
twice_opposite x y z o p = record { above = o.above ∙ p.under; under = o.under ∙ p.above }
