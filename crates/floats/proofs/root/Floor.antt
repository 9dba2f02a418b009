-- `whole_root n` is the one s with s * s ≤ n < (s + 1) * (s + 1). Assumes nothing.
use Rattle.std.proofs.Common.{◌≡◌, ℕ, zero, suc, ◌+◌, ◌*◌, ◌/◌, ◌^◌, ◌<◌, ◌≤◌, Bool, true, false, cond, not, T, leb, sym, refl, ◌∙◌, subst, le_trans, le_refl, lt_of_lt_of_le, le_of_suc-le-suc, add_assoc, zero-lt-suc, mul_assoc, mul_comm, div-lt_iff_lt-mul, add-mul, mul-le-mul, add_comm, le_antisymm, lt_of_not-le, mul-add, not-le_of_lt, mul_left_comm, arith, le→leb, eqb→eq, leb→le}
use Prim.Native.Nat.{compare, Ordering}
use native.Mathlib.Nat.{add_left_comm, pow-succ'}
use lib.Dec.{is_le, compare_is_eq, nleb→lt}
use lib.Ieee.{size}
use lib.Ieee.Digits.{size-lt}
use Rattle.floats.specs.Root.{better, root_in, whole_root}

abbrev pub Floor : ℕ → ℕ → Type 0
Floor n s = (s * s ≤ n) × (n < (s + 1) * (s + 1))

-- there is one at most
half : (n s t : ℕ) → s * s ≤ n → n < (t + 1) * (t + 1) → s ≤ t
half n s t h k = le_of_suc-le-suc (lt_of_not-le (λ (g : suc t ≤ s). not-le_of_lt k (le_trans (mul-le-mul (le_of t s g) (le_of t s g)) h)))
  where
    le_of : (t s : ℕ) → suc t ≤ s → t + 1 ≤ s
    le_of t s g = omega arith

pub only_one : (n s t : ℕ) → Floor n s → Floor n t → s ≡ t
only_one n s t a b = le_antisymm (half n s t a.0 b.1) (half n t s b.0 a.1)

-- a digit more
next : (n r : ℕ) → Floor (n / 4) r → (2 * r * (2 * r) ≤ n) × (n < (2 * r + 1 + 1) * (2 * r + 1 + 1))
next n r h =
    let a : 2 * r * (2 * r) ≡ 4 * (r * r) = simp (mul_assoc, mul_comm, mul_left_comm) (omega arith) in
    let b : (r + 1) * (r + 1) ≡ r * r + 2 * r + 1 = simp (mul-add, add-mul, mul_assoc, mul_comm, mul_left_comm, add_assoc, add_comm, add_left_comm) (omega arith) in
    let d : (2 * r + 1 + 1) * (2 * r + 1 + 1) ≡ 4 * (r * r) + 8 * r + 4 = simp (mul-add, add-mul, mul_assoc, mul_comm, mul_left_comm, add_assoc, add_comm, add_left_comm) (omega arith) in
    let x = h.0 in
    let y = h.1 in
    (omega arith, omega arith)

pub better-is : (n r : ℕ) → r * r ≤ n → n < (r + 1 + 1) * (r + 1 + 1) → Floor n (better r n)
unfolding better
better-is n r h k = go (leb ((r + 1) * (r + 1)) n) (leb→le ((r + 1) * (r + 1)) n) (nleb→lt ((r + 1) * (r + 1)) n)
  where
    go : (b : Bool) → (T b → (r + 1) * (r + 1) ≤ n) → (T (not b) → n < (r + 1) * (r + 1)) → Floor n (cond b (r + 1) r)
    go true f g = (f tt, k)
    go false f g = (h, g tt)

quarter : (n k : ℕ) → n < 4 ^ suc k → n / 4 < 4 ^ k
quarter n k h = (div-lt_iff_lt-mul (zero-lt-suc 3)).1 (subst (λ (x : ℕ). n < x) (pow-succ' 4 k ∙ mul_comm 4 (4 ^ k)) h)

root_in-is : (k n : ℕ) → n < 4 ^ k → Floor n (root_in k n)
unfolding root_in
root_in-is zero n h = (omega arith, omega arith)
root_in-is (suc k) n h =
    let r = root_in k (n / 4) in
    let f = next n r (root_in-is k (n / 4) (quarter n k h)) in
    better-is n (2 * r) f.0 f.1

four : (k : ℕ) → 2 ^ k ≤ 4 ^ k
four zero = le_refl 1
four (suc k) = subst (λ (x : ℕ). x ≤ 4 ^ suc k) (sym (pow-succ' 2 k)) (subst (λ (x : ℕ). 2 * 2 ^ k ≤ x) (sym (pow-succ' 4 k)) (mul-le-mul (omega arith) (four k)))

pub whole_root-is : (n : ℕ) → Floor n (whole_root n)
unfolding whole_root
whole_root-is n = root_in-is (size n) n (lt_of_lt_of_le (size-lt n) (four (size n)))

pub whole_root_at : (n s : ℕ) → s * s ≤ n → n < (s + 1) * (s + 1) → whole_root n ≡ s
whole_root_at n s h k = only_one n (whole_root n) s (whole_root-is n) (h, k)

-- ---- what `compare` says
pub compare_lt : (a b : ℕ) → a < b → compare a b ≡ Ordering.lt
compare_lt a b h = go (compare a b) (le→leb a b (omega arith)) (λ (t : T (compare_is_eq (compare a b))). let e = eqb→eq a b t in omega arith)
  where
    go : (o : Ordering) → T (is_le o) → (T (compare_is_eq o) → ⊥) → o ≡ Ordering.lt
    go Ordering.lt t f = refl
    go Ordering.eq t f = absurd (f tt)
    go Ordering.gt t f = absurd t

pub compare_gt : (a b : ℕ) → b < a → compare a b ≡ Ordering.gt
compare_gt a b h = go (compare a b) (λ (t : T (is_le (compare a b))). let e = leb→le a b t in omega arith)
  where
    go : (o : Ordering) → (T (is_le o) → ⊥) → o ≡ Ordering.gt
    go Ordering.lt f = absurd (f tt)
    go Ordering.eq f = absurd (f tt)
    go Ordering.gt f = refl
