-- Bounds of floats by whole numbers, and by powers of two: what rounding to nearest keeps, since it is monotone and holds each such bound exactly.
-- `Within b x`: x is finite, and at most b in size. `Below k x`: at most 2 ^ k. `AtLeast l x`: finite, and at least 2 ^ -l in size. Assumes nothing.
use Rattle.std.proofs.Common.{◌≡◌, ℕ, ◌+◌, ◌-◌, ◌*◌, ◌/◌, ◌%◌, ◌^◌, ◌<◌, ◌≤◌, Bool, true, false, cond, not, ◌&&◌, ◌||◌, T, eqb, ltb, sym, ap, ◌∙◌, subst, inl, inr, le_trans, le_of_eq, lt_of_le_of_lt, le_of_lt, lt_irrefl, mul-le-mul_right, mul_assoc, mul_comm, div-lt_iff_lt-mul, add-mul, eq-zero-or-pos, mul-le-mul, mul-lt-mul_of_pos_right, mul-pos, one-mul, zero-mul, mul-one, mul_right_comm, not-le_of_lt, le_of_mul-le-mul_right, mul_left_comm, arith, lit<, eqb→eq, ltb→lt, nltb→le, pow_pos, pow_mono, pow-add}
use mathlib.Core.Bool.{beq}
use native.Mathlib.Nat.{mul-mul-mul_comm}
use lib.Pow.{pow-lt}
use lib.Ieee.{Float, nan, inf, fin, binary64, up, down, size, units, round, sum, unlike, add, sub, mul, div, neg, lt, le, eq}
use lib.Ieee.Digits.{size-le}
use lib.Ieee.Fits.{round_is, down_pos}
use lib.Ieee.Exact.{HasValue, units_val}
use lib.Ieee.Nearest.{closest, closest_mono}
use lib.Ieee.Order.{drop, kept}
use Rattle.floats.specs.Float.{abs_of}
use Rattle.floats.specs.Root.{plain}

abbrev pub Within : ℕ → Float → Type 0
Within b nan = ⊥
Within b (inf s) = ⊥
Within b (fin s m e) = m * up e ≤ b * down e

pub record Below (k : ℕ) (x : Float) : Type 0 where
  pub within : Within (2 ^ k) x

abbrev pub AtLeast : ℕ → Float → Type 0
AtLeast l nan = ⊥
AtLeast l (inf s) = ⊥
AtLeast l (fin s m e) = down e ≤ m * up e * 2 ^ l

-- ---- what a bound gives

pub within_more : (b c : ℕ) (x : Float) → b ≤ c → Within b x → Within c x
within_more b c nan l h = h
within_more b c (inf s) l h = h
within_more b c (fin s m e) l h = le_trans h (mul-le-mul_right (down e) l)

pub below_more : {j : ℕ} {x : Float} (k : ℕ) → j ≤ k → Below j x → Below k x
below_more {j} {x} k l h = record { within = within_more (2 ^ j) (2 ^ k) x (pow_mono l) h.within }

-- ---- rounding: a bound a * 2 ^ k with an a of 53 digits is held exactly

pub value-within : (x : Float) (s : Bool) (a c b : ℕ) → 0 < c → HasValue x s a c → a ≤ b * c → Within b x
value-within nan s a c b p h l = h
value-within (inf t) s a c b p h l = h
value-within (fin t m e) s a c b p h l =
    le_of_mul-le-mul_right
    (le_trans (le_of_eq h.1) (le_trans (mul-le-mul_right (down e) l) (le_of_eq (mul_right_comm b c (down e))))) p

closest_whole : (c : ℕ) → closest c 1 ≡ c
closest_whole c =
    let q : c / 1 ≡ c = omega arith in
    let r : c % 1 * 2 ≡ 0 = omega arith in
    rw (q, r)

spare : (z l : ℕ) → z ≤ 53 + l → z - 53 ≤ l
spare z l h = omega arith

split : (j t : ℕ) → j ≤ t → 2 ^ (t - j) * 2 ^ j ≡ 2 ^ t
split j t h = sym (pow-add 2 (t - j) j) ∙ ap (λ (z : ℕ). 2 ^ z) (omega arith)

-- what is kept of n / den, where n / den ≤ a * 2 ^ t
grid_within : (n den a t : ℕ) → 0 < den → a < 2 ^ 53 → n ≤ a * 2 ^ t * den → kept 53 n den * 2 ^ drop 53 n den ≤ a * 2 ^ t
grid_within n den a t D A h =
    let w : n / den < 2 ^ (53 + t) = (div-lt_iff_lt-mul D).1 (lt_of_le_of_lt h (mul-lt-mul_of_pos_right (subst (λ (z : ℕ). a * 2 ^ t < z) (sym (pow-add 2 53 t)) (mul-lt-mul_of_pos_right A (pow_pos t))) D)) in
    let j = drop 53 n den in
    let J : j ≤ t = spare (size (n / den)) t (size-le (n / den) (53 + t) w) in
    let c = a * 2 ^ (t - j) in
    let e : c * (den * 2 ^ j) ≡ a * 2 ^ t * den =
    mul-mul-mul_comm a (2 ^ (t - j)) den (2 ^ j) ∙ ap (λ (z : ℕ). a * den * z) (split j t J) ∙ mul_right_comm a den (2 ^ t) in
    let k : closest n (den * 2 ^ j) ≤ c =
    subst (λ (z : ℕ). closest n (den * 2 ^ j) ≤ z) (closest_whole c)
    (closest_mono n (den * 2 ^ j) c 1 (mul-pos D (pow_pos j)) (pow_pos 0) (le_trans (le_of_eq (mul-one n)) (le_trans h (le_of_eq (sym e))))) in
    le_trans (mul-le-mul_right (2 ^ j) k) (le_of_eq (mul_assoc a (2 ^ (t - j)) (2 ^ j) ∙ ap (λ (z : ℕ). a * z) (split j t J)))

pub round_within : (s : Bool) (n den a k : ℕ) → 0 < den → a < 2 ^ 53 → a * 2 ^ k < 2 ^ 1024 → n ≤ a * 2 ^ k * den → Within (a * 2 ^ k) (round binary64 s n den)
round_within s n den a k D A O h =
    let N = n * 2 ^ 1074 in
    let e : a * 2 ^ (k + 1074) ≡ a * 2 ^ k * 2 ^ 1074 = ap (λ (z : ℕ). a * z) (pow-add 2 k 1074) ∙ sym (mul_assoc a (2 ^ k) (2 ^ 1074)) in
    let g : kept 53 N den * 2 ^ drop 53 N den ≤ a * 2 ^ k * 2 ^ 1074 =
    subst (λ (z : ℕ). kept 53 N den * 2 ^ drop 53 N den ≤ z) e
    (grid_within N den a (k + 1074) D A
    (subst (λ (z : ℕ). N ≤ z * den) (sym e) (le_trans (mul-le-mul_right (2 ^ 1074) h) (le_of_eq (mul_right_comm (a * 2 ^ k) den (2 ^ 1074)))))) in
    let o : kept 53 N den * 2 ^ drop 53 N den < 2 ^ (1074 + 1024) =
    lt_of_le_of_lt g (subst (λ (z : ℕ). a * 2 ^ k * 2 ^ 1074 < z) (mul_comm (2 ^ 1024) (2 ^ 1074) ∙ sym (pow-add 2 1074 1024)) (mul-lt-mul_of_pos_right O (pow_pos 1074))) in
    subst (λ (z : Float). Within (a * 2 ^ k) z) (sym (round_is binary64 s n den))
    (value-within (units binary64 s (kept 53 N den) (drop 53 N den)) s (kept 53 N den * 2 ^ drop 53 N den) (2 ^ 1074) (a * 2 ^ k) (pow_pos 1074)
    (units_val binary64 s (kept 53 N den) (drop 53 N den) o) g)

-- ---- the operations, for a bound b = a * 2 ^ k that is held exactly

add_sizes : (x y de dd p q b : ℕ) → x ≤ p * de → y ≤ q * dd → p + q ≤ b → x * dd + y * de ≤ b * (de * dd)
add_sizes x y de dd p q b hx hy hb =
    let A : x * dd ≤ p * (de * dd) = le_trans (mul-le-mul_right dd hx) (le_of_eq (mul_assoc p de dd)) in
    let B : y * de ≤ q * (de * dd) = le_trans (mul-le-mul_right de hy) (le_of_eq (mul_assoc q dd de ∙ ap (λ (z : ℕ). q * z) (mul_comm dd de))) in
    let C : (p + q) * (de * dd) ≤ b * (de * dd) = mul-le-mul_right (de * dd) hb in
    let D : (p + q) * (de * dd) ≡ p * (de * dd) + q * (de * dd) = add-mul p q (de * dd) in
    omega arith

module _ (a k : ℕ) (A : a < 2 ^ 53) (O : a * 2 ^ k < 2 ^ 1024) where
  sum_within : (s t : Bool) (n m c : ℕ) → 0 < c → n + m ≤ a * 2 ^ k * c → Within (a * 2 ^ k) (sum binary64 s n t m c)
  unfolding sum
  sum_within s t n m c C h = go (beq s t) (ltb n m) (s && ltb m n)
    where
      go : (x y z : Bool) → Within (a * 2 ^ k) (cond x (round binary64 s (n + m) c) (cond y (round binary64 t (m - n) c) (round binary64 z (n - m) c)))
      go true y z = round_within s (n + m) c a k C A O h
      go false true z = round_within t (m - n) c a k C A O (le_trans (omega arith) h)
      go false false z = round_within z (n - m) c a k C A O (le_trans (omega arith) h)

  pub add_within : (p q : ℕ) (x y : Float) → p + q ≤ a * 2 ^ k → Within p x → Within q y → Within (a * 2 ^ k) (add binary64 x y)
  unfolding add
  add_within p q nan y l h g = absurd h
  add_within p q (inf s) y l h g = absurd h
  add_within p q (fin s m e) nan l h g = absurd g
  add_within p q (fin s m e) (inf t) l h g = absurd g
  add_within p q (fin s m e) (fin t n d) l h g =
      sum_within s t (m * up e * down d) (n * up d * down e) (down e * down d) (mul-pos (down_pos e) (down_pos d))
      (add_sizes (m * up e) (n * up d) (down e) (down d) p q (a * 2 ^ k) h g l)

  pub mul_within : (p q : ℕ) (x y : Float) → p * q ≤ a * 2 ^ k → Within p x → Within q y → Within (a * 2 ^ k) (mul binary64 x y)
  unfolding mul
  mul_within p q nan y l h g = absurd h
  mul_within p q (inf s) y l h g = absurd h
  mul_within p q (fin s m e) nan l h g = absurd g
  mul_within p q (fin s m e) (inf t) l h g = absurd g
  mul_within p q (fin s m e) (fin t n d) l h g =
      round_within (unlike s t) (m * up e * (n * up d)) (down e * down d) a k (mul-pos (down_pos e) (down_pos d)) A O
      (le_trans (mul-le-mul h g) (le_trans (le_of_eq (mul-mul-mul_comm p (down e) q (down d))) (mul-le-mul_right (down e * down d) l)))

  pub div_within : (p l : ℕ) (x y : Float) → p * 2 ^ l ≤ a * 2 ^ k → Within p x → AtLeast l y → Within (a * 2 ^ k) (div binary64 x y)
  unfolding div
  div_within p l nan y z h g = absurd h
  div_within p l (inf s) y z h g = absurd h
  div_within p l (fin s m e) nan z h g = absurd g
  div_within p l (fin s m e) (inf t) z h g = absurd g
  div_within p l (fin s m e) (fin t n d) z h g = go (eqb n 0) (eqb→eq n 0)
    where
      size : (X Y de dd L : ℕ) → X ≤ p * de → dd ≤ Y * L → p * L ≤ a * 2 ^ k → X * dd ≤ a * 2 ^ k * (Y * de)
      size X Y de dd L hx hy hz =
          let E : p * de * (Y * L) ≡ p * L * (Y * de) = simp (mul_assoc, mul_comm, mul_left_comm) in
          le_trans (mul-le-mul hx hy) (le_trans (le_of_eq E) (mul-le-mul_right (Y * de) hz))

      some : 0 < n * up d
      some = elim (eq-zero-or-pos (n * up d)) [
        | inl q ↦ absurd (not-le_of_lt (down_pos d) (subst (λ (w : ℕ). down d ≤ w) (ap (λ (w : ℕ). w * 2 ^ l) q ∙ zero-mul (2 ^ l)) g))
        | inr q ↦ q
      ]

      go : (b : Bool) → (T b → n ≡ 0) → Within (a * 2 ^ k) (cond b (cond (eqb m 0) nan (inf (unlike s t))) (round binary64 (unlike s t) (m * up e * down d) (n * up d * down e)))
      go true q = absurd (lt_irrefl 0 (subst (λ (w : ℕ). 0 < w) (ap (λ (w : ℕ). w * up d) (q tt) ∙ zero-mul (up d)) some))
      go false q =
          round_within (unlike s t) (m * up e * down d) (n * up d * down e) a k (mul-pos some (down_pos e)) A O
          (size (m * up e) (n * up d) (down e) (down d) (2 ^ l) h g z)

pub neg_within : (b : ℕ) (x : Float) → Within b x → Within b (neg x)
unfolding neg
neg_within b nan h = h
neg_within b (inf s) h = h
neg_within b (fin s m e) h = h

-- ---- by powers of two

held : (k : ℕ) → k ≤ 1023 → 1 * 2 ^ k < 2 ^ 1024
held k h = let g : k < 1024 = omega arith in lt_of_le_of_lt (le_of_eq (one-mul (2 ^ k))) (pow-lt g)

one-held : 1 < 2 ^ 53
one-held = lit< tt

pow_double : (k : ℕ) → 2 ^ k + 2 ^ k ≤ 1 * 2 ^ (k + 1)
pow_double k = let e : 2 ^ (k + 1) ≡ 2 ^ k * 2 = pow-add 2 k 1 in omega arith

pow_times : (j k : ℕ) → 2 ^ j * 2 ^ k ≤ 1 * 2 ^ (j + k)
pow_times j k = le_of_eq (sym (pow-add 2 j k) ∙ sym (one-mul (2 ^ (j + k))))

plainly : (k : ℕ) (x : Float) → Within (1 * 2 ^ k) x → Below k x
plainly k x h = record { within = subst (λ (b : ℕ). Within b x) (one-mul (2 ^ k)) h }

pub add_below : {k : ℕ} {x y : Float} → k + 1 ≤ 1023 → Below k x → Below k y → Below (k + 1) (add binary64 x y)
add_below {k} {x} {y} l h g =
    plainly (k + 1) (add binary64 x y) (add_within 1 (k + 1) one-held (held (k + 1) l) (2 ^ k) (2 ^ k) x y (pow_double k) h.within g.within)

pub neg_below : {k : ℕ} {x : Float} → Below k x → Below k (neg x)
neg_below {k} {x} h = record { within = neg_within (2 ^ k) x h.within }

pub sub_below : {k : ℕ} {x y : Float} → k + 1 ≤ 1023 → Below k x → Below k y → Below (k + 1) (sub binary64 x y)
unfolding sub
sub_below l h g = add_below l h (neg_below g)

pub mul_below : {j k : ℕ} {x y : Float} → j + k ≤ 1023 → Below j x → Below k y → Below (j + k) (mul binary64 x y)
mul_below {j} {k} {x} {y} l h g =
    plainly (j + k) (mul binary64 x y) (mul_within 1 (j + k) one-held (held (j + k) l) (2 ^ j) (2 ^ k) x y (pow_times j k) h.within g.within)

pub div_below : {k : ℕ} {x : Float} (l : ℕ) (y : Float) → k + l ≤ 1023 → Below k x → AtLeast l y → Below (k + l) (div binary64 x y)
div_below {k} {x} l y z h g =
    plainly (k + l) (div binary64 x y) (div_within 1 (k + l) one-held (held (k + l) z) (2 ^ k) l x y (pow_times k l) h.within g)

-- ---- bounds from tests that the code makes

pub no_false : {A : Type 0} → false ≡ true → A
no_false e = absurd (subst T (sym e) tt)

pub or_le : (A B : ℕ) (c : Bool) → (ltb A B || (eqb A B && c)) ≡ true → A ≤ B
or_le A B c e = go (ltb A B) (eqb A B) c (ltb→lt A B) (eqb→eq A B) e
  where
    go : (x y z : Bool) → (T x → A < B) → (T y → A ≡ B) → (x || (y && z)) ≡ true → A ≤ B
    go true y z f g h = le_of_lt (f tt)
    go false true z f g h = le_of_eq (g tt)
    go false false z f g h = no_false h

eq_le : (A B : ℕ) (c : Bool) → (eqb A B && c) ≡ true → A ≤ B
eq_le A B c e = go (eqb A B) c (eqb→eq A B) e
  where
    go : (y z : Bool) → (T y → A ≡ B) → (y && z) ≡ true → A ≤ B
    go true z g h = le_of_eq (g tt)
    go false z g h = no_false h

-- x / de ≤ y / dd ≤ b
through_cross : (x y de dd b : ℕ) → 0 < dd → x * dd ≤ y * de → y ≤ b * dd → x ≤ b * de
through_cross x y de dd b D h g =
    le_of_mul-le-mul_right (le_trans h (le_trans (mul-le-mul_right de g) (le_of_eq (mul_right_comm b dd de)))) D

-- |x| <= c
pub within_of_abs : (b : ℕ) (x c : Float) → le (abs_of x) c ≡ true → Within b c → Within b x
unfolding abs_of le lt eq
within_of_abs b nan c h g = no_false h
within_of_abs b (inf s) nan h g = absurd g
within_of_abs b (inf s) (inf t) h g = absurd g
within_of_abs b (inf s) (fin t n d) h g = no_false h
within_of_abs b (fin s m e) nan h g = absurd g
within_of_abs b (fin s m e) (inf t) h g = absurd g
within_of_abs b (fin s m e) (fin false n d) h g = through_cross (m * up e) (n * up d) (down e) (down d) b (down_pos d) (or_le (m * up e * down d) (n * up d * down e) _ h) g
within_of_abs b (fin s m e) (fin true n d) h g = through_cross (m * up e) (n * up d) (down e) (down d) b (down_pos d) (eq_le (m * up e * down d) (n * up d * down e) _ h) g

not_ltb : (A B : ℕ) → ltb A B ≡ false → B ≤ A
not_ltb A B e = nltb→le A B (subst (λ (z : Bool). T (not z)) (sym e) tt)

-- not |x| < c, of a finite x
pub at_least_of_abs : (l b : ℕ) (x c : Float) → Within b x → T (plain c) → lt (abs_of x) c ≡ false → AtLeast l c → AtLeast l x
unfolding abs_of lt plain
at_least_of_abs l b nan c w p h g = absurd w
at_least_of_abs l b (inf s) c w p h g = absurd w
at_least_of_abs l b (fin s m e) nan w p h g = absurd g
at_least_of_abs l b (fin s m e) (inf t) w p h g = absurd g
at_least_of_abs l b (fin s m e) (fin true n d) w p h g = absurd p
at_least_of_abs l b (fin s m e) (fin false n d) w p h g =
    let q : n * up d * down e ≤ m * up e * down d = not_ltb (m * up e * down d) (n * up d * down e) h in
    let E : n * up d * 2 ^ l * down e ≡ n * up d * down e * 2 ^ l = mul_right_comm (n * up d) (2 ^ l) (down e) in
    let F : m * up e * down d * 2 ^ l ≡ m * up e * 2 ^ l * down d = mul_right_comm (m * up e) (down d) (2 ^ l) in
    le_of_mul-le-mul_right
    (le_trans (le_of_eq (mul_comm (down e) (down d)))
    (le_trans (mul-le-mul_right (down e) g) (le_trans (le_of_eq E) (le_trans (mul-le-mul_right (2 ^ l) q) (le_of_eq F))))) (down_pos d)
