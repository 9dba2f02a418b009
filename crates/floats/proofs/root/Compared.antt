-- Comparisons of roots that the numbers below them decide: the root of a larger number is not below what the root of a smaller one reaches, and the root of a
-- smaller one is not above twice that of a larger one, since rounding keeps the order and gives back a number that the format holds. Assumes nothing.
use Rattle.std.proofs.Common.{◌≡◌, ℕ, ◌*◌, ◌^◌, ◌<◌, ◌≤◌, true, false, ◌&&◌, ◌||◌, T, eqb, ltb, ℤ, sym, refl, ◌∙◌, subst, ⊎_elim, add-mul, eq-or-lt_of_le, one-mul, two-mul, arith, ltb-false, lt-ltb, eq-eqb}
use lib.Ieee.{Float, nan, inf, fin, binary64, up, down, round, fits, is_nan, lt, le, eq, mul, of_bits}
use lib.Ieee.Bits.{is_true}
use lib.Ieee.Fits.{down_pos}
use lib.Ieee.Exact.{HasValue, round_exact}
use lib.Ieee.Order.{le_of_values, round_mono}
use Rattle.floats.specs.Ops.{◌⊗◌, ◌≺◌, +0, two}
use Rattle.floats.specs.Root.{root_of, in_units, plain}
use Rattle.floats.proofs.Order.{clash, lt_gap, le_below, le_right, le_under, lt_under, or_true}
use Rattle.floats.proofs.Unsigned.{Unsigned}
use Rattle.floats.proofs.root.Read.{units_of_value, in_range}
use Rattle.floats.proofs.root.Nearest.{digits, root_fits}
use Rattle.floats.proofs.root.Monotone.{root_plain, root_monotone}

-- a is at most the root of x, and x at most y
pub root_not_below : (a x y : Float) → T (fits binary64 x) → T (fits binary64 y) → le a (root_of x) ≡ true → le x y ≡ true → lt (root_of y) a ≡ false
root_not_below a x y f g h l =
    le_under a (root_of x) (root_of y) h (le_below (root_of x) (root_of y) (root_monotone x y f g (le_right a (root_of x) h) l))

-- ---- twice a number
-- what the format holds is rounded to itself
round_self : (m : ℕ) (e : ℤ) → T (fits binary64 (fin false m e)) → HasValue (round binary64 false (m * up e) (down e)) false (m * up e) (down e)
unfolding in_units
round_self m e f =
    let D = digits (fin false m e) f (unfold plain in tt) in
    let u : in_units (fin false m e) ≡ D.t * 2 ^ D.j = units_of_value (fin false m e) (D.t * 2 ^ D.j) D.value in
    round_exact binary64 false (m * up e) (down e) D.t D.j (down_pos e) D.few (subst (λ (n : ℕ). n < 2 ^ 2098) u (in_range m e f)) D.value.1

-- a / b is at most 2 * a / b
twice : (a b : ℕ) → a * (1 * b) ≤ 2 * a * b
twice a b = simp (one-mul, two-mul, add-mul) (omega arith)

finite_doubled : (m : ℕ) (e : ℤ) → T (fits binary64 (fin false m e)) → lt (two ⊗ fin false m e) (fin false m e) ≡ false
unfolding mul of_bits
finite_doubled m e f =
    let a = m * up e in
    let b = down e in
    let p = down_pos e in
    let r = round binary64 false a b in
    let l : le (fin false m e) r ≡ true = is_true _ (le_of_values (fin false m e) r a b a b p p (refl, refl) (round_self m e f) (omega arith)) in
    let h : le r (two ⊗ fin false m e) ≡ true = is_true _ (round_mono binary64 a b (2 * a) (1 * b) p (omega arith) (twice a b)) in
    le_under (fin false m e) r (two ⊗ fin false m e) l (le_below r (two ⊗ fin false m e) h)

doubled : (r : Float) → T (fits binary64 r) → T (plain r) → lt (two ⊗ r) r ≡ false
unfolding plain
doubled nan f p = absurd p
doubled (inf s) f p = absurd p
doubled (fin true m e) f p = absurd p
doubled (fin false m e) f p = finite_doubled m e f

-- ---- the root of a number above zero
root_doubled : (x : Float) → T (fits binary64 x) → lt +0 x ≡ true → lt (two ⊗ root_of x) (root_of x) ≡ false
unfolding root_of mul lt of_bits
root_doubled nan f p = clash p
root_doubled (inf true) f p = clash p
root_doubled (inf false) f p = refl
root_doubled (fin true m e) f p = clash p
root_doubled (fin false m e) f p = doubled (root_of (fin false m e)) (root_fits (fin false m e) f) (root_plain m e f)

plain-number : (r : Float) → T (plain r) → is_nan r ≡ false
unfolding plain is_nan
plain-number nan p = absurd p
plain-number (inf s) p = refl
plain-number (fin s m e) p = refl

root_number : (x : Float) → T (fits binary64 x) → lt +0 x ≡ true → is_nan (root_of x) ≡ false
unfolding root_of is_nan lt of_bits
root_number nan f p = clash p
root_number (inf true) f p = clash p
root_number (inf false) f p = refl
root_number (fin true m e) f p = clash p
root_number (fin false m e) f p = plain-number (root_of (fin false m e)) (root_plain m e f)

-- x is above zero, and at most y
pub root_under-twice : (x y : Float) → T (fits binary64 x) → T (fits binary64 y) → lt +0 x ≡ true → le x y ≡ true → lt (two ⊗ root_of y) (root_of x) ≡ false
root_under-twice x y f g p l =
    le_under (root_of x) (root_of y) (two ⊗ root_of y) (root_monotone x y f g (root_number x f p) l) (root_doubled y g (lt_under +0 x y p l))

-- ---- squared distances
-- a squared distance: without a minus sign, no NaN, and held by the format
pub record Square (x : Float) : Type 0 where
  pub plus : Unsigned x
  pub number : is_nan x ≡ false
  pub held : T (fits binary64 x)

level-up : (A B : ℕ) → A ≤ B → (ltb A B || (eqb A B && true)) ≡ true
level-up A B h = ⊎_elim (λ e. rw (eq-eqb A B e) (or_true (ltb A B))) (λ l. rw (lt-ltb A B l)) (eq-or-lt_of_le h)

-- of two such the one that is not above the other is at most it
not_above_le : (x y : Float) → Square x → Square y → (y ≺ x) ≡ false → le x y ≡ true
unfolding le lt eq is_nan
not_above_le nan y p q h = clash (sym p.number)
not_above_le (inf true) y p q h = clash (sym p.plus)
not_above_le (inf false) nan p q h = clash (sym q.number)
not_above_le (inf false) (inf true) p q h = clash (sym q.plus)
not_above_le (inf false) (inf false) p q h = refl
not_above_le (inf false) (fin t n d) p q h = clash (sym h)
not_above_le (fin true m e) y p q h = clash (sym p.plus)
not_above_le (fin false m e) nan p q h = clash (sym q.number)
not_above_le (fin false m e) (inf true) p q h = clash (sym q.plus)
not_above_le (fin false m e) (inf false) p q h = refl
not_above_le (fin false m e) (fin true n d) p q h = clash (sym q.plus)
not_above_le (fin false m e) (fin false n d) p q h = level-up (m * up e * down d) (n * up d * down e) (ltb-false (n * up d * down e) (m * up e * down d) h)

square_root_number : (x : Float) → Square x → is_nan (root_of x) ≡ false
unfolding is_nan
square_root_number nan p = clash (sym p.number)
square_root_number (inf true) p = clash (sym p.plus)
square_root_number (inf false) p = unfold root_of in refl
square_root_number (fin true m e) p = clash (sym p.plus)
square_root_number (fin false m e) p = plain-number (root_of (fin false m e)) (root_plain m e p.held)

-- x is not above w, whose root is below t; so the root of x is
pub root_below : (x w t : Float) → Square x → Square w → (w ≺ x) ≡ false → (root_of w ≺ t) ≡ true → (root_of x ≺ t) ≡ true
root_below x w t p q h l =
    let n = square_root_number x p in
    let r = root_monotone x w p.held q.held n (not_above_le x w p q h) in
    ⊎_elim (λ z. clash (sym (le_below (root_of x) (root_of w) r) ∙ z)) (λ z. z) (lt_gap (root_of w) (root_of x) t n l)
