-- The processor's root is this one: what the toolchain says of its operation, that it takes the root to 2271 binary places and rounds once, comes to `root_of`. Assumes nothing.
use Rattle.std.proofs.Common.{◌≡◌, ℕ, zero, suc, ◌+◌, ◌-◌, ◌*◌, ◌/◌, ◌%◌, ◌^◌, ◌<◌, ◌≤◌, Bool, true, false, cond, T, eqb, sym, refl, ap, ◌∙◌, subst, le_trans, le_of_eq, lt_of_lt_of_le, add_assoc, add_comm, mul_assoc, mul_comm, mul_left_comm, add-mul, mul-add, mul-le-mul, mul-le-mul_right, mul-lt-mul_of_pos_right, mul-pos, le_antisymm, lt_of_not-le, not-le_of_lt, div-lt_iff_lt-mul, mul-div_cancel, eqb→eq, arith, pow_pos, pow_mono, pow-add}
use Prim.Native.Nat.{compare, Ordering}
use native.Mathlib.Nat.{add_left_comm, le-div_iff_mul-le, div-div-eq-div-mul}
use native.Mathlib.Decide.{dec_le}
use lib.Dec.{compare_is_eq}
use borrow.Author.Tests.{eq-eqb}
use lib.Ieee.{Float, nan, inf, fin, binary64, up, down, fits, sqrt, size, nearest, units, round, root_below, root_twice}
use lib.Ieee.Digits.{size-lt, size-le, size_reaches}
use lib.Ieee.Root.{whole_part}
use Rattle.std.proofs.Math.Nat.{mod-add-div'}
use lib.IntN.{ℤ}
use lib.Ieee.Fits.{down_pos}
use native.Mathlib.Nat.{zero-mul, mul_right_comm}
use Rattle.floats.specs.Root.{whole_root, root_from, root_of, in_units, plain}
use Rattle.floats.proofs.float.Large.{zero_exponent}
use Rattle.floats.proofs.root.Nearest.{own-units, root_of_zero}
use Rattle.floats.proofs.root.Rooted.{size_gt}
use Rattle.floats.proofs.root.Floor.{Floor, only_one, whole_root-is, whole_root_at, compare_lt, compare_gt}

-- ---- squares in order
square-lt : (a b : ℕ) → a * a < b * b → a < b
square-lt a b h = lt_of_not-le (λ (g : b ≤ a). not-le_of_lt h (mul-le-mul g g))

below_next : (n s t : ℕ) → s * s ≤ n → n < (t + 1) * (t + 1) → s ≤ t
below_next n s t h k = let q = square-lt s (t + 1) (omega arith) in omega arith

scaled : (a P : ℕ) → a * P * (a * P) ≡ a * a * (P * P)
scaled a P = simp (mul_assoc, mul_comm, mul_left_comm) refl

-- ---- roots of numbers that are moved by whole places
module _ (U P : ℕ) (pp : 0 < P) where
  -- r is the root of U * P * P
  pub root_above : (r : ℕ) → Floor (U * (P * P)) r → (whole_root U * P ≤ r) × (r < (whole_root U + 1) * P)
  root_above r g =
      let s = whole_root U in
      let f = whole_root-is U in
      let low : s * P * (s * P) ≤ U * (P * P) = le_trans (le_of_eq (scaled s P)) (mul-le-mul_right (P * P) f.0) in
      let high : U * (P * P) < (s + 1) * P * ((s + 1) * P) = lt_of_lt_of_le (mul-lt-mul_of_pos_right f.1 (mul-pos pp pp)) (le_of_eq (sym (scaled (s + 1) P))) in
      (below_next (U * (P * P)) (s * P) r low g.1, square-lt r ((s + 1) * P) (omega (arith, g.0, high)))

  pub root_of_quotient : whole_root (U / (P * P)) ≡ whole_root U / P
  root_of_quotient =
      let s = whole_root U in
      let f = whole_root-is U in
      let t = s / P in
      let m : t * P ≤ s = (le-div_iff_mul-le pp).0 (le_of_eq refl) in
      let n : s < (t + 1) * P = (div-lt_iff_lt-mul pp).0 (omega arith) in
      let low : t * t ≤ U / (P * P) = (le-div_iff_mul-le (mul-pos pp pp)).1 (le_trans (le_of_eq (sym (scaled t P))) (le_trans (mul-le-mul m m) f.0)) in
      let o : s + 1 ≤ (t + 1) * P = omega arith in
      let high : U / (P * P) < (t + 1) * (t + 1) = (div-lt_iff_lt-mul (mul-pos pp pp)).1 (lt_of_lt_of_le f.1 (le_trans (mul-le-mul o o) (le_of_eq (scaled (t + 1) P)))) in
      whole_root_at (U / (P * P)) t low high

-- ---- how many digits a root has
pub root_size : (U : ℕ) → size (whole_root U) ≡ (size U + 1) / 2
root_size U = le_antisymm most (least ((size U + 1) / 2) refl)
  where
    a : ℕ
    a = (size U + 1) / 2

    f : Floor U (whole_root U)
    f = whole_root-is U

    most : size (whole_root U) ≤ a
    most =
        let h : U < 2 ^ a * 2 ^ a = lt_of_lt_of_le (size-lt U) (le_trans (pow_mono {i = size U} {j = a + a} (omega arith)) (le_of_eq (pow-add 2 a a))) in
        size-le (whole_root U) a (square-lt (whole_root U) (2 ^ a) (omega (arith, f.0)))

    least : (b : ℕ) → a ≡ b → b ≤ size (whole_root U)
    least zero e = omega arith
    least (suc b) e =
        let h : 2 ^ (b + b) ≤ U = size_reaches U (b + b) (omega arith) in
        size_gt (whole_root U) b (below_next U (2 ^ b) (whole_root U) (le_trans (le_of_eq (sym (pow-add 2 b b))) h) f.1)

-- ---- which way to round
compare_same : (a : ℕ) → compare a a ≡ Ordering.eq
compare_same a = go (compare a a) (subst T (sym (eq-eqb a a refl)) tt)
  where
    go : (o : Ordering) → T (compare_is_eq o) → o ≡ Ordering.eq
    go Ordering.lt t = absurd t
    go Ordering.eq t = refl
    go Ordering.gt t = absurd t

same_order : (a b c d : ℕ) → (a < b → c < d) → (a ≡ b → c ≡ d) → (b < a → d < c) → compare a b ≡ compare c d
same_order a b c d l e g = go (dec_le b a) (dec_le a b)
  where
    go : Dec (b ≤ a) → Dec (a ≤ b) → compare a b ≡ compare c d
    go (no f) w = let h : a < b = lt_of_not-le f in compare_lt a b h ∙ sym (compare_lt c d (l h))
    go (yes y) (no f) = let h : b < a = lt_of_not-le f in compare_gt a b h ∙ sym (compare_gt c d (g h))
    go (yes y) (yes z) = let h : a ≡ b = le_antisymm z y in rw (h, e h) (compare_same b ∙ sym (compare_same d))

-- R is twice the root r of N, or one more where the root goes on; it lies on the same side of 2 * h as N of h * h
module _ (N r h : ℕ) (g : Floor N r) where
  abbrev R : ℕ
  R = 2 * r + cond (eqb (r * r) N) 0 1

  twice_most : (b : Bool) → 2 * r + cond b 0 1 ≤ 2 * r + 1
  twice_most true = omega arith
  twice_most false = omega arith

  side-below : N < h * h → R < 2 * h
  side-below k =
      let q : r < h = square-lt r h (omega (arith, g.0)) in
      let m = twice_most (eqb (r * r) N) in omega arith

  side-on : N ≡ h * h → R ≡ 2 * h
  side-on k =
      let q : r ≡ h = only_one N r h g (le_of_eq (sym k), subst (λ (x : ℕ). x < (h + 1) * (h + 1)) (sym k) (grows h)) in
      let e : eqb (r * r) N ≡ true = eq-eqb (r * r) N (rw q (sym k)) in
      rw e (omega arith)
    where
      grows : (t : ℕ) → t * t < (t + 1) * (t + 1)
      grows t = let e : (t + 1) * (t + 1) ≡ t * t + 2 * t + 1 = simp (mul-add, add-mul, mul_assoc, mul_comm, mul_left_comm, add_assoc, add_comm, add_left_comm) (omega arith) in omega arith

  side-above : h * h < N → 2 * h < R
  side-above k = go (eqb (r * r) N) (eqb→eq (r * r) N)
    where
      l : h ≤ r
      l = below_next N h r (omega arith) g.1

      go : (b : Bool) → (T b → r * r ≡ N) → 2 * h < 2 * r + cond b 0 1
      go true f = let q : h < r = square-lt h r (omega (arith, f tt)) in omega arith
      go false f = omega (arith, l)

-- ---- the operation, of the root of U * (2 * P) * (2 * P), and `root_from`, of U: W is the format's places, K those that are dropped
module _ (U P W K r : ℕ) (pp : 0 < P) (wp : 0 < W) (kp : 0 < K) (g : Floor (U * (2 * P * (2 * P))) r) where
  abbrev N : ℕ
  N = U * (2 * P * (2 * P))

  abbrev B : ℕ
  B = R N r (2 * P) g

  abbrev den : ℕ
  den = 4 * P * W

  den-positive : 0 < den
  den-positive = mul-pos (omega arith) wp

  -- the whole part of what is rounded
  whole : B * W / den ≡ whole_root U
  whole =
      let s = whole_root U in
      let a = root_above U (2 * P) (omega arith) r g in
      let m = twice_most N r (2 * P) g (eqb (r * r) N) in
      let x : s * (4 * P) ≡ 2 * (s * (2 * P)) = simp (mul_assoc, mul_comm, mul_left_comm) (omega arith) in
      let y : (s + 1) * (4 * P) ≡ 2 * ((s + 1) * (2 * P)) = simp (mul-add, add-mul, mul_assoc, mul_comm, mul_left_comm) (omega arith) in
      let low : s * (4 * P) ≤ B = omega arith in
      let high : B < (s + 1) * (4 * P) = omega arith in
      quotient_at s
      (le_trans (le_of_eq (sym (mul_assoc s (4 * P) W))) (mul-le-mul_right W low))
      (lt_of_lt_of_le (mul-lt-mul_of_pos_right high wp) (le_of_eq (mul_assoc (s + 1) (4 * P) W)))
    where
      quotient_at : (s : ℕ) → s * den ≤ B * W → B * W < (s + 1) * den → B * W / den ≡ s
      quotient_at s l h =
          let a = (le-div_iff_mul-le den-positive).1 l in
          let b = (div-lt_iff_lt-mul den-positive).1 h in omega arith

  -- what is dropped, twice, and the step: on the side on which 4 * U lies
  tie : (q : ℕ) → B * W / (den * K) ≡ q → compare (B * W % (den * K) * 2) (den * K) ≡ compare (4 * U) ((2 * q + 1) * (2 * q + 1) * (K * K))
  tie q e = sym (same_order (4 * U) X D2 (den * K) (λ l. less (side-below N r h g (moved l))) (λ i. same (side-on N r h g (on i))) (λ l. more (side-above N r h g (back l))))
    where
      X : ℕ
      X = (2 * q + 1) * (2 * q + 1) * (K * K)

      h : ℕ
      h = (2 * q + 1) * (P * K)

      D2 : ℕ
      D2 = B * W % (den * K) * 2

      squares : X * (P * P) ≡ h * h
      squares = simp (mul_assoc, mul_comm, mul_left_comm) refl

      four : 4 * U * (P * P) ≡ N
      four = simp (mul_assoc, mul_comm, mul_left_comm) (omega arith)

      moved : 4 * U < X → N < h * h
      moved l = subst (λ (x : ℕ). x < h * h) four (lt_of_lt_of_le (mul-lt-mul_of_pos_right l (mul-pos pp pp)) (le_of_eq squares))

      on : 4 * U ≡ X → N ≡ h * h
      on i = sym four ∙ ap (λ (x : ℕ). x * (P * P)) i ∙ squares

      back : X < 4 * U → h * h < N
      back l = subst (λ (x : ℕ). x < N) squares (lt_of_lt_of_le (mul-lt-mul_of_pos_right l (mul-pos pp pp)) (le_of_eq four))

      split : B * W % (den * K) + q * (den * K) ≡ B * W
      split = ap (λ (x : ℕ). B * W % (den * K) + x * (den * K)) (sym e) ∙ mod-add-div' (B * W) (den * K)

      step : 2 * h * W * 2 ≡ 2 * (q * (den * K)) + den * K
      step = simp (mul-add, add-mul, mul_assoc, mul_comm, mul_left_comm) (omega arith)

      less : B < 2 * h → D2 < den * K
      less l = let a = mul-lt-mul_of_pos_right l wp in omega (arith, split, step, a)

      same : B ≡ 2 * h → D2 ≡ den * K
      same i = let a : B * W ≡ 2 * h * W = ap (λ (x : ℕ). x * W) i in omega (arith, split, step, a)

      more : 2 * h < B → den * K < D2
      more l = let a = mul-lt-mul_of_pos_right l wp in omega (arith, split, step, a)

  kept : B * W / (den * K) ≡ whole_root (U / (K * K))
  kept = sym (div-div-eq-div-mul (B * W) den K) ∙ ap (λ (x : ℕ). x / K) whole ∙ sym (root_of_quotient U K kp)

pub rounded : (U P r : ℕ) → 0 < P → Floor (U * (2 * P * (2 * P))) r → round binary64 false (2 * r + cond (eqb (r * r) (U * (2 * P * (2 * P)))) 0 1) (4 * P * 2 ^ 1074) ≡ root_from U
unfolding round root_from
rounded U P r pp g =
    let W = 2 ^ 1074 in
    let wp : 0 < W = pow_pos 1074 in
    let k = (size U + 1) / 2 - 53 in
    let K = 2 ^ k in
    let kp : 0 < K = pow_pos k in
    let A = (2 * r + cond (eqb (r * r) (U * (2 * P * (2 * P)))) 0 1) * W in
    let d = 4 * P * W in
    let e : size (A / d) - 53 ≡ k = ap (λ (x : ℕ). size x - 53) (whole U P W K r pp wp kp g) ∙ ap (λ (x : ℕ). x - 53) (root_size U) in
    ap (λ (x : ℕ). units binary64 false (nearest (A / (d * 2 ^ x)) (compare (A % (d * 2 ^ x) * 2) (d * 2 ^ x))) x) e
    ∙ ap (λ (o : Ordering). units binary64 false (nearest (A / (d * K)) o) k) (tie U P W K r pp wp kp g (A / (d * K)) refl)
    ∙ ap (λ (q : ℕ). units binary64 false (nearest q (compare (4 * U) ((2 * q + 1) * (2 * q + 1) * (K * K)))) k) (kept U P W K r pp wp kp g)

-- ---- the processor's root of what the format holds
none : (e : ℤ) → in_units (fin false 0 e) ≡ 0
unfolding in_units
none e = ap (λ (y : ℕ). y * 2 ^ 1074 / down e) (zero-mul (up e)) ∙ ap (λ (y : ℕ). y / down e) (sym (zero-mul (down e))) ∙ mul-div_cancel 0 (down_pos e)

above_zero : (m : ℕ) (e : ℤ) → T (fits binary64 (fin false (suc m) e)) → sqrt binary64 (fin false (suc m) e) ≡ root_of (fin false (suc m) e)
unfolding sqrt root_of root_twice
above_zero m e f =
    let I = in_units (fin false (suc m) e) in
    let U = I * 2 ^ 1074 in
    let P = 2 ^ 1196 in
    let N = U * (2 * P * (2 * P)) in
    let v = (own-units (fin false (suc m) e) f (unfold plain in tt)).1 in
    let w : 2 ^ 3468 ≡ 2 ^ 1074 * (2 * P * (2 * P)) = refl in
    let places : suc m * up e * 2 ^ 4542 / down e ≡ N =
    ap (λ (x : ℕ). x / down e)
    (ap (λ (x : ℕ). suc m * up e * x) (pow-add 2 1074 3468)
    ∙ sym (mul_assoc (suc m * up e) (2 ^ 1074) (2 ^ 3468))
    ∙ ap (λ (x : ℕ). x * 2 ^ 3468) v
    ∙ mul_right_comm I (down e) (2 ^ 3468))
    ∙ mul-div_cancel (I * 2 ^ 3468) (down_pos e)
    ∙ ap (λ (x : ℕ). I * x) w
    ∙ sym (mul_assoc I (2 ^ 1074) (2 * P * (2 * P))) in
    ap (λ (x : ℕ). round binary64 false (2 * root_below (size x) x + cond (eqb (root_below (size x) x * root_below (size x) x) x) 0 1) (2 ^ 2272)) places
    ∙ rounded U P (root_below (size N) N) (pow_pos 1196) (whole_part N)

pub sqrt-is : (x : Float) → T (fits binary64 x) → sqrt binary64 x ≡ root_of x
unfolding sqrt root_of
sqrt-is nan f = refl
sqrt-is (inf false) f = refl
sqrt-is (inf true) f = refl
sqrt-is (fin true zero e) f = ap (λ (d : ℤ). fin true 0 d) (sym (zero_exponent true e f))
sqrt-is (fin true (suc m) e) f = refl
sqrt-is (fin false zero e) f = sym (root_of_zero (fin false 0 e) (unfold plain in tt) (none e))
sqrt-is (fin false (suc m) e) f = above_zero m e f
