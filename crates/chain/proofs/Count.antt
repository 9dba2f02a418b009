-- Counts up to 800, and a Bezier's steps as such a count. Assumes nothing.
use Prim.Native.Nat.{ℕ, ◌+◌, ◌-◌, ◌*◌, ◌/◌, ◌^◌, ◌≤◌, ◌<◌, min}
use mathlib.Core.Path.{◌≡◌, refl, sym, ap, ◌∙◌, subst}
use mathlib.Core.Logic.{⊎_elim}
use mathlib.Core.Bool.{Bool, true, false}
use native.Mathlib.Nat.{min-eq_left, min_comm, le_of_lt}
use native.Mathlib.Omega.{arith}
use borrow.Author.Tests.{lt-ltb, le-ltb}
use lib.Dec.{T}
use lib.IntN.{pos}
use lib.Ieee.{Float, nan, inf, fin, binary64, up, down, lt, le, eq, neg, is_nan, of_int, of_bits, round, to_unsigned}
use lib.Ieee.Fits.{down_pos}
use lib.Ieee.Nearest.{div_mono}
use lib.Ieee.Order.{round_mono}
use Rattle.floats.specs.Ops.{two}
use Rattle.floats.specs.Float.{ceil_of, max_of}
use Rattle.floats.proofs.Order.{clash, lt_or_ge}
use Rattle.floats.proofs.Bounds.{or_le}
use Rattle.floats.proofs.Unsigned.{Plus, round_plus}
use Rattle.bezier.specs.Calls.{most_steps}
use Rattle.chain.specs.Chains.{cap}

-- ---- counts
pub cap-few : (n : ℕ) → n ≤ 800 → cap n ≡ n
unfolding cap
cap-few n h = rw (le-ltb 800 n h)

pub cap_many : (n : ℕ) → 800 < n → cap n ≡ 801
unfolding cap
cap_many n h = rw (lt-ltb 800 n h)

pub cap-most : (n : ℕ) → cap n ≤ 801
cap-most n = ⊎_elim (λ h. let e = cap_many n h in omega arith) (λ h. let e = cap-few n h in omega arith) (lt_or_ge 800 n)

pub cap-twice : (n : ℕ) → cap (cap n) ≡ cap n
cap-twice n = ⊎_elim (λ h. rw (cap_many n h) (cap_many 801 (omega arith))) (λ h. rw (cap-few n h) (cap-few n h)) (lt_or_ge 800 n)

-- a count behind a count
pub cap-left : (a b : ℕ) → cap (cap a + b) ≡ cap (a + b)
cap-left a b =
    ⊎_elim (λ h. let e = cap_many a h in cap_many (cap a + b) (omega arith) ∙ sym (cap_many (a + b) (omega arith))) (λ h. rw (cap-few a h)) (lt_or_ge 800 a)

-- one more count, with those that follow
pub cap-next : (a b n m r : ℕ) → n ≡ cap b → m ≡ cap (a + n) → cap (m + r) ≡ cap (a + (b + r))
cap-next a b n m r e f =
    let q : a + n + r ≡ cap b + (a + r) = omega arith in
    let p : b + (a + r) ≡ a + (b + r) = omega arith in
    ap (λ (k : ℕ). cap (k + r)) f ∙ cap-left (a + n) r ∙ ap cap q ∙ cap-left b (a + r) ∙ ap cap p

-- a most that passed, or did not
pub cap_passed : (n : ℕ) → cap n ≤ 800 → cap n ≡ n
cap_passed n h = ⊎_elim (λ g. absurd (let e = cap_many n g in omega arith)) (λ g. cap-few n g) (lt_or_ge 800 n)

pub cap-over : (n : ℕ) → 800 < cap n → 800 < n
cap-over n h = ⊎_elim (λ g. g) (λ g. let e = cap-few n g in omega arith) (lt_or_ge 800 n)

-- ---- a count of steps that is not at most 800 as a float is above 800 as a whole number
over_zero : (x : Float) → Plus x → lt (neg x) two ≡ true
unfolding neg lt
over_zero nan p = absurd p
over_zero (inf true) p = clash (sym p)
over_zero (inf false) p = unfold of_bits in refl
over_zero (fin true m e) p = clash (sym p)
over_zero (fin false m e) p = unfold of_bits in lt-ltb 0 (m * up e * 1 + 1 * 2 ^ 1 * down e) (let d = down_pos e in omega arith)

of_le : (x y : Float) → T (le x y) → le x y ≡ true
of_le x y h = go (le x y) h
  where
    go : (b : Bool) → T b → b ≡ true
    go true t = refl
    go false t = absurd t

few-below : (k : ℕ) → k ≤ 800 → le (of_int binary64 (pos k)) most_steps ≡ true
unfolding of_int
few-below k h = let e : round binary64 false 800 1 ≡ most_steps = unfold round of_bits in refl in of_le (round binary64 false k 1) most_steps (subst (λ (x : Float). T (le (round binary64 false k 1) x)) e (round_mono binary64 k 1 800 1 (omega arith) (omega arith) (omega arith)))

pub under_min : (k a b : ℕ) → k ≤ a → k ≤ b → k ≤ min a b
under_min k a b p q =
    ⊎_elim (λ h. subst (λ (x : ℕ). k ≤ x) (sym (min-eq_left (le_of_lt h))) p) (λ h. subst (λ (x : ℕ). k ≤ x) (sym (min_comm a b ∙ min-eq_left h)) q) (lt_or_ge a b)

cross : (x : Float) → T (le (round binary64 false 801 1) x) → Plus x → 800 < to_unsigned 64 x
unfolding to_unsigned
cross nan t p = absurd p
cross (inf true) t p = clash (sym p)
cross (inf false) t p = omega arith
cross (fin true m e) t p = clash (sym p)
cross (fin false m e) t p =
    let l : 801 * 1 * down e ≤ m * up e * 1 = unfold le lt eq round in or_le (801 * 1 * down e) (m * up e * 1) _ (of_le (round binary64 false 801 1) (fin false m e) t) in
    let d : 801 / 1 ≤ m * up e / down e = div_mono 801 1 (m * up e) (down e) (omega arith) (down_pos e) (omega arith) in
    under_min 801 (m * up e / down e) (2 ^ 64 - 1) d (omega arith)

many_whole : (k : ℕ) → 800 < k → 800 < to_unsigned 64 (of_int binary64 (pos k))
unfolding of_int
many_whole k h = cross (round binary64 false k 1) (round_mono binary64 801 1 k 1 (omega arith) (omega arith) (omega arith)) (round_plus k 1)

many_ceil : (y : Float) → lt (ceil_of y) two ≡ false → is_nan (ceil_of y) ≡ false → le (ceil_of y) most_steps ≡ false → 800 < to_unsigned 64 (ceil_of y)
unfolding ceil_of
many_ceil nan a b c = clash (sym (unfold is_nan in b))
many_ceil (inf true) a b c = clash (sym (unfold lt of_bits in a))
many_ceil (inf false) a b c = unfold to_unsigned in omega arith
many_ceil (fin true m e) a b c = clash (sym a ∙ over_zero (of_int binary64 (pos (m * up e / down e))) (unfold of_int in round_plus (m * up e / down e) 1))
many_ceil (fin false m e) a b c =
    let k = (m * up e + (down e - 1)) / down e in
    ⊎_elim (λ h. many_whole k h) (λ h. clash (sym c ∙ few-below k h)) (lt_or_ge 800 k)

pub many_steps : (y : Float) → le (max_of (ceil_of y) two) most_steps ≡ false → 800 < to_unsigned 64 (max_of (ceil_of y) two)
unfolding max_of
many_steps y = go (lt (ceil_of y) two) (is_nan (ceil_of y)) refl refl
  where
    two-few : le two most_steps ≡ true
    two-few = unfold le lt eq of_bits in refl

    go : (a b : Bool) → lt (ceil_of y) two ≡ a → is_nan (ceil_of y) ≡ b → le (max_of (ceil_of y) two) most_steps ≡ false → 800 < to_unsigned 64 (max_of (ceil_of y) two)
    go true b p q = rw p (λ h. clash (sym h ∙ two-few))
    go false true p q = rw (p, q) (λ h. clash (sym h ∙ two-few))
    go false false p q = rw (p, q) (λ h. many_ceil y p q h)
