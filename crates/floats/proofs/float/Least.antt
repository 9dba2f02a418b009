-- The ceiling of a finite float is the least whole number not below it: of its fraction a / d, by the laws of division; and where the whole number is too large to be
-- rounded exactly, the float is whole already. Assumes nothing.
use Rattle.std.proofs.Common.{◌≡◌, ℕ, zero, suc, ◌+◌, ◌-◌, ◌*◌, ◌/◌, ◌%◌, ◌^◌, ◌<◌, ◌≤◌, Bool, true, false, not, T, ltb, ltb→lt, ℤ, pos, sym, refl, ap, ◌∙◌, subst, ⊎_elim, mul-le-mul_right, mod-lt, zero-lt-suc, div-lt_iff_lt-mul, add-mul, mul-lt-mul_of_pos_right, mul-pos, one-mul, div-add-mod', le-div_iff_mul-le, zero-mul, mul-one, mul_right_comm, div-mul-le_self, arith, ltb-false, le-ltb, lt-ltb, eq-eqb}
use lib.Ieee.{Float, nan, inf, fin, binary64, up, down, below, level, lt, eq, neg, round, fits}
use lib.Ieee.Fits.{down_pos}
use lib.Ieee.Exact.{HasValue}
use lib.Ieee.Back.{round_whole}
use lib.Ieee.Scale.{finite}
use Rattle.floats.specs.Float.{ceil_of, is_minus, whole_number, LeastWhole}
use Rattle.floats.proofs.Order.{either, lt_or_ge}
use Rattle.floats.proofs.float.Large.{unsigned, whole-value}

below-cut : (m : ℕ) (e : ℤ) → T (lt (fin false m e) (fin false 1 (pos 52))) → m * up e < 2 ^ 52 * down e
unfolding lt
below-cut m e h = let l = ltb→lt (m * up e * 1) (1 * 2 ^ 52 * down e) h in subst (λ (x : ℕ). x < 2 ^ 52 * down e) (mul-one (m * up e)) l

cut_lt : (m : ℕ) (e : ℤ) → T (lt (fin false m e) (fin false 1 (pos 52))) → m * up e / down e < 2 ^ 52
cut_lt m e h = (div-lt_iff_lt-mul (down_pos e)).1 (below-cut m e h)

-- ---- comparisons of fractions with a common divisor
ltb_scale : (a b c : ℕ) → 0 < c → ltb (a * c) (b * c) ≡ ltb a b
ltb_scale a b c h =
    ⊎_elim (λ l. lt-ltb (a * c) (b * c) (mul-lt-mul_of_pos_right l h) ∙ sym (lt-ltb a b l))
    (λ l. le-ltb (a * c) (b * c) (mul-le-mul_right c l) ∙ sym (le-ltb a b l)) (lt_or_ge a b)

below_scale : (s t : Bool) (a b c : ℕ) → 0 < c → below s (a * c) t (b * c) ≡ below s a t b
below_scale false false a b c h = ltb_scale a b c h
below_scale false true a b c h = refl
below_scale true false a b c h = ap (λ (n : ℕ). ltb 0 n) (sym (add-mul a b c)) ∙ ap (λ (n : ℕ). ltb n ((a + b) * c)) (sym (zero-mul c)) ∙ ltb_scale 0 (a + b) c h
below_scale true true a b c h = ltb_scale b a c h

level-same : (t : Bool) (a b : ℕ) → a ≡ b → level t a t b ≡ true
level-same true a b h = rw (eq-eqb a b h)
level-same false a b h = rw (eq-eqb a b h)

-- ---- y has the value of a whole number, q or -q
module _ (t : Bool) (q : ℕ) where
  -- compared with a number m * 2 ^ e
  value-below : (y : Float) → HasValue y t q 1 → (s : Bool) (m : ℕ) (e : ℤ) → lt y (fin s m e) ≡ below t (q * down e) s (m * up e)
  unfolding lt
  value-below nan h s m e = absurd h
  value-below (inf u) h s m e = absurd h
  value-below (fin u k g) h s m e =
      let z : k * up g * down e ≡ q * down e * down g = ap (λ (x : ℕ). x * down e) (sym (mul-one (k * up g)) ∙ h.1) ∙ mul_right_comm q (down g) (down e) in
      ap (λ (b : Bool). below b (k * up g * down e) s (m * up e * down g)) h.0
      ∙ ap (λ (x : ℕ). below t x s (m * up e * down g)) z
      ∙ below_scale t s (q * down e) (m * up e) (down g) (down_pos g)

  -- compared with a whole number
  below-value : (y : Float) → HasValue y t q 1 → (s : Bool) (n : ℕ) → lt (whole_number s n) y ≡ below s n t q
  unfolding lt
  below-value nan h s n = absurd h
  below-value (inf u) h s n = absurd h
  below-value (fin u k g) h s n =
      ap (λ (b : Bool). below s (n * 1 * down g) b (k * up g * 1)) h.0
      ∙ ap (λ (x : ℕ). below s (x * down g) t (k * up g * 1)) (mul-one n)
      ∙ ap (λ (x : ℕ). below s (n * down g) t x) h.1
      ∙ below_scale s t n q (down g) (down_pos g)

  is_whole : (y : Float) → HasValue y t q 1 → eq y (whole_number t q) ≡ true
  unfolding eq
  is_whole nan h = absurd h
  is_whole (inf u) h = absurd h
  is_whole (fin u k g) h =
      let z : k * up g * 1 ≡ q * 1 * down g = h.1 ∙ ap (λ (x : ℕ). x * down g) (sym (mul-one q)) in
      ap (λ (b : Bool). level b (k * up g * 1) t (q * 1 * down g)) h.0 ∙ level-same t (k * up g * 1) (q * 1 * down g) z

  has_sign : (y : Float) → HasValue y t q 1 → is_minus y ≡ t
  unfolding is_minus
  has_sign nan h = absurd h
  has_sign (inf u) h = absurd h
  has_sign (fin u k g) h = h.0

-- ---- the whole number q of a ceiling, rounded, is itself: up to 2 ^ 53 by rounding, and above since the float is whole
exact : (m : ℕ) (e : ℤ) (q : ℕ) → T (fits binary64 (fin false m e)) → (m * up e / down e < 2 ^ 52 → q ≤ 2 ^ 53) → (down e ≡ 1 → q ≡ m * up e)
    → HasValue (round binary64 false q 1) false q 1
exact zero e q f low high =
    let d = down_pos e in
    round_whole binary64 false q (low ((div-lt_iff_lt-mul d).1 (omega (arith, zero-mul (up e)))))
exact (suc m) e q f low high =
    ⊎_elim (λ t. round_whole binary64 false q (low (cut_lt (suc m) e (subst T (sym t) tt))))
    (λ t. let w = whole-value m e f t in
    let v : HasValue (fin false (suc m) e) false (suc m * up e) 1 = (refl, ap (λ (x : ℕ). suc m * up e * x) (sym w.0)) in
    let r = subst (λ (y : Float). HasValue y false (suc m * up e) 1) (sym w.1) v in
    subst (λ (n : ℕ). HasValue (round binary64 false n 1) false n 1) (sym (high w.0)) r)
    (either (lt (fin false (suc m) e) (fin false 1 (pos 52))))

neg_value : (y : Float) (q : ℕ) → HasValue y false q 1 → HasValue (neg y) true q 1
unfolding neg
neg_value nan q h = h
neg_value (inf s) q h = h
neg_value (fin s m e) q h = (ap not h.0, h.1)

-- ---- a fraction a / d rounded up, and cut
module _ (a d : ℕ) (p : 0 < d) where
  up_enough : a ≤ (a + (d - 1)) / d * d
  up_enough =
      let s = div-add-mod' (a + (d - 1)) d in
      let r = mod-lt (a + (d - 1)) p in
      enough ((a + (d - 1)) / d * d) ((a + (d - 1)) % d) s r
    where
      enough : (b r : ℕ) → b + r ≡ a + (d - 1) → r < d → a ≤ b
      enough b r s h = omega arith

  up_least : (n : ℕ) → a ≤ n * d → (a + (d - 1)) / d ≤ n
  up_least n h =
      let l = (div-lt_iff_lt-mul {k = d} {x = a + (d - 1)} {y = n + 1} p).1 (less (n * d) ((n + 1) * d) h (add-mul n 1 d ∙ ap (λ (x : ℕ). n * d + x) (one-mul d))) in
      omega arith
    where
      less : (b c : ℕ) → a ≤ b → c ≡ b + d → a + (d - 1) < c
      less b c h e = omega (arith, p)

  up-few : (b : ℕ) → a / d < b → (a + (d - 1)) / d ≤ b
  up-few b h = up_least b (let l = (div-lt_iff_lt-mul p).0 h in omega arith)

  cut_enough : a / d * d ≤ a
  cut_enough = div-mul-le_self a d

  cut-least : (n : ℕ) → n * d ≤ a → n ≤ a / d
  cut-least n h = (le-div_iff_mul-le p).1 h

  -- a whole number not below a / d is not below what a / d is rounded up to; and so with both signs turned, where a / d is cut
  up-under : (s : Bool) (n : ℕ) → below s (n * d) false a ≡ false → below s n false ((a + (d - 1)) / d) ≡ false
  up-under false n h = le-ltb n ((a + (d - 1)) / d) (up_least n (ltb-false (n * d) a h))
  up-under true n h =
      let z : n * d + a ≤ 0 = ltb-false 0 (n * d + a) h in
      let q = up_least 0 (omega (arith, zero-mul d)) in
      let z' = none n (omega arith) in
      le-ltb 0 (n + (a + (d - 1)) / d) (omega arith)
    where
      none : (n : ℕ) → n * d ≤ 0 → n ≤ 0
      none zero l = omega arith
      none (suc k) l = let o = mul-pos (zero-lt-suc k) p in absurd (omega arith)

  cut-under : (s : Bool) (n : ℕ) → below s (n * d) true a ≡ false → below s n true (a / d) ≡ false
  cut-under false n h = refl
  cut-under true n h = le-ltb (a / d) n (cut-least n (ltb-false a (n * d) h))

-- ---- the law: r has the value of the whole number q, which is what the fraction of x is rounded up to, or cut to
number-value : (s : Bool) (n : ℕ) → HasValue (whole_number s n) s n 1
number-value s n = (refl, mul-one (n * 1))

module _ (m : ℕ) (e : ℤ) where
  plus-least : (r : Float) (q : ℕ) → q ≡ (m * up e + (down e - 1)) / down e → HasValue r false q 1 → LeastWhole (fin false m e) r
  plus-least r q i v = record {
    sign = false;
    count = q;
    whole = is_whole false q r v;
    not_below = value-below false q r v false m e ∙ le-ltb (q * down e) (m * up e) (rw i (up_enough (m * up e) (down e) (down_pos e)));
    least = λ s n h. below-value false q r v s n ∙ rw i (up-under (m * up e) (down e) (down_pos e) s n (sym (value-below s n (whole_number s n) (number-value s n) false m e) ∙ h));
    signed = has_sign false q r v ∙ sym (unfold is_minus in refl);
  }

  minus-least : (r : Float) (q : ℕ) → q ≡ m * up e / down e → HasValue r true q 1 → LeastWhole (fin true m e) r
  minus-least r q i v = record {
    sign = true;
    count = q;
    whole = is_whole true q r v;
    not_below = value-below true q r v true m e ∙ le-ltb (m * up e) (q * down e) (rw i (cut_enough (m * up e) (down e) (down_pos e)));
    least = λ s n h. below-value true q r v s n ∙ rw i (cut-under (m * up e) (down e) (down_pos e) s n (sym (value-below s n (whole_number s n) (number-value s n) true m e) ∙ h));
    signed = has_sign true q r v ∙ sym (unfold is_minus in refl);
  }

  up-value : T (fits binary64 (fin false m e)) → HasValue (ceil_of (fin false m e)) false ((m * up e + (down e - 1)) / down e) 1
  unfolding ceil_of
  up-value f = exact m e ((m * up e + (down e - 1)) / down e) f (λ h. let l = up-few (m * up e) (down e) (down_pos e) (2 ^ 52) h in omega arith) (λ h. rw h (omega arith))

  cut-value : T (fits binary64 (fin true m e)) → HasValue (ceil_of (fin true m e)) true (m * up e / down e) 1
  unfolding ceil_of
  cut-value f = neg_value (round binary64 false (m * up e / down e) 1) (m * up e / down e) (exact m e (m * up e / down e) (unsigned true m e f) (λ h. omega arith) (λ h. rw h (omega arith)))

pub ceil_is-least : (x : Float) → T (fits binary64 x) → T (finite x) → LeastWhole x (ceil_of x)
ceil_is-least nan f h = absurd h
ceil_is-least (inf s) f h = absurd h
ceil_is-least (fin false m e) f h = plus-least m e _ _ refl (up-value m e f)
ceil_is-least (fin true m e) f h = minus-least m e _ _ refl (cut-value m e f)
