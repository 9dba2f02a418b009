-- Where a root is compared with a number t, the number below it decides: above the square of t its root is not below t, since were the root nearer to a smaller number than t,
-- it would be at most the exact square, and so at most the rounded one; and the root of a zero is a zero. Assumes nothing.
use Rattle.std.proofs.Common.{◌≡◌, ℕ, zero, suc, ◌+◌, ◌*◌, ◌/◌, ◌^◌, ◌<◌, ◌≤◌, Bool, true, false, T, eqb, ◌⊎◌, ℤ, sym, refl, ap, ◌∙◌, subst, inl, inr, ⊎_elim, le_trans, le_of_eq, mul-le-mul_right, mul_assoc, add-mul, mul-le-mul, mul-pos, zero-mul, mul-add, mul-div_cancel, arith, pow_pos, ltb-true, lt-ltb, eqb-true}
use lib.Ieee.{Float, nan, inf, fin, binary64, up, down, round, fits, is_nan, lt, le, eq, mul, of_bits}
use lib.Ieee.Bits.{is_true}
use lib.Ieee.Fits.{up_pos, down_pos}
use lib.Ieee.Exact.{HasValue, round_exact}
use lib.Ieee.Order.{le_of_values, round_mono}
use lib.Ieee.Positive.{positive, mul_at, first_pos}
use Rattle.floats.specs.Ops.{◌⊗◌, ◌≺◌, +0}
use Rattle.floats.specs.Root.{root_of, in_units, plain}
use Rattle.floats.proofs.Order.{clash, lt_or_ge, lt_gap, and_left, le_below}
use Rattle.floats.proofs.Unsigned.{Unsigned, plus-number, square-unsigned, not_above, round_plus}
use Rattle.floats.proofs.root.Read.{units_of_value}
use Rattle.floats.proofs.root.Nearest.{digits, own-units, squared-is, in_units-most, root_of_zero, root_is_rounded, root_fits}

-- ---- whole numbers: R below Y, and the root of D * U no nearer to Y than to R; so D / U is at most (Y / U)²
doubled : (Y : ℕ) → (Y + Y) * (Y + Y) ≡ 4 * (Y * Y)
doubled Y = simp (add-mul, mul-add) (omega arith)

squared-down : (D U Y R : ℕ) → R < Y → 4 * (D * U) ≤ (R + Y) * (R + Y) → D * U ≤ Y * Y
squared-down D U Y R l h =
    let a : (R + Y) * (R + Y) ≤ (Y + Y) * (Y + Y) = mul-le-mul {n₁ = R + Y} {m₁ = R + Y} {n₂ = Y + Y} {m₂ = Y + Y} (omega arith) (omega arith) in
    let b = doubled Y in omega arith

crossed : (D U Y : ℕ) → D * U ≤ Y * Y → D * (U * U) ≤ Y * Y * U
crossed D U Y h = le_trans (le_of_eq (sym (mul_assoc D U U))) (mul-le-mul_right U h)

-- ---- a positive t and a plain x
positive-plain : (t : Float) → T (positive t) → T (plain t)
unfolding plain
positive-plain nan p = absurd p
positive-plain (inf s) p = absurd p
positive-plain (fin true m e) p = absurd p
positive-plain (fin false m e) p = tt

-- a plain float is rounded to itself, from its units
units_rounded : (x : Float) → T (fits binary64 x) → T (plain x) → HasValue (round binary64 false (in_units x) (2 ^ 1074)) false (in_units x) (2 ^ 1074)
units_rounded x f p =
    let D = digits x f p in
    let u : in_units x ≡ D.t * 2 ^ D.j = units_of_value x (D.t * 2 ^ D.j) D.value in
    round_exact binary64 false (in_units x) (2 ^ 1074) D.t D.j (pow_pos 1074) D.few (subst (λ (n : ℕ). n < 2 ^ 2098) u (in_units-most x f p))
    (ap (λ (n : ℕ). n * 2 ^ 1074) u)

module _ (t d : Float) (f : T (fits binary64 t)) (p : T (positive t)) (g : T (fits binary64 d)) (q : T (plain d)) where
  -- where the root is below t, d is at most the exact square of t
  exact_below : in_units (root_of d) < in_units t → in_units d * (2 ^ 1074 * 2 ^ 1074) ≤ in_units t * in_units t * 2 ^ 1074
  exact_below l =
      let r = ((root_is_rounded d g q).nearest t f (positive-plain t p)).above l in
      crossed (in_units d) (2 ^ 1074) (in_units t)
      (squared-down (in_units d) (2 ^ 1074) (in_units t) (in_units (root_of d)) l (subst (λ (n : ℕ). 4 * n ≤ (in_units (root_of d) + in_units t) * (in_units (root_of d) + in_units t)) (squared-is d) r))

  -- and so at most the rounded one
  square_not_below : in_units (root_of d) < in_units t → (t ⊗ t ≺ d) ≡ false
  square_not_below l =
      let U = 2 ^ 1074 in
      let D = in_units d in
      let Y = in_units t in
      let v = own-units t f (positive-plain t p) in
      let r = round binary64 false D U in
      let s : t ⊗ t ≡ round binary64 false (Y * Y) (U * U) = mul_at binary64 t t Y U Y U p p (pow_pos 1074) (pow_pos 1074) v v in
      let a : le d r ≡ true = is_true _ (le_of_values d r D U D U (pow_pos 1074) (pow_pos 1074) (own-units d g q) (units_rounded d g q) (le_of_eq refl)) in
      let b : le r (round binary64 false (Y * Y) (U * U)) ≡ true =
      is_true _ (round_mono binary64 D U (Y * Y) (U * U) (pow_pos 1074) (mul-pos (pow_pos 1074) (pow_pos 1074)) (exact_below l)) in
      subst (λ (x : Float). (x ≺ d) ≡ false) (sym s)
      (not_above (round binary64 false (Y * Y) (U * U)) r d (plus-number r (round_plus D U)) (le_below r (round binary64 false (Y * Y) (U * U)) b) (le_below d r a))

  -- a root whose units reach those of t is not below t
  units_reach : in_units t ≤ in_units (root_of d) → (root_of d ≺ t) ≡ false
  units_reach h =
      let U = 2 ^ 1074 in
      let r = (root_is_rounded d g q).finite in
      le_below t (root_of d)
      (is_true _ (le_of_values t (root_of d) (in_units t) U (in_units (root_of d)) U (pow_pos 1074) (pow_pos 1074)
      (own-units t f (positive-plain t p)) (own-units (root_of d) (root_fits d g) r) (mul-le-mul_right U h)))

  plain_reaches : (t ⊗ t ≺ d) ≡ true → (root_of d ≺ t) ≡ false
  plain_reaches h =
      ⊎_elim (λ l. clash (sym (square_not_below l) ∙ h)) units_reach (lt_or_ge (in_units (root_of d)) (in_units t))

-- ---- any x
-- what lies above a number without a minus sign is plain, or an infinity
above-unsigned : (s d : Float) → Unsigned s → (s ≺ d) ≡ true → T (plain d) ⊎ (d ≡ inf false)
unfolding lt plain
above-unsigned nan d u h = clash h
above-unsigned (inf true) d u h = clash (sym u)
above-unsigned (inf false) nan u h = clash h
above-unsigned (inf false) (inf t) u h = clash h
above-unsigned (inf false) (fin t n e) u h = clash h
above-unsigned (fin true m e) d u h = clash (sym u)
above-unsigned (fin false m e) nan u h = clash h
above-unsigned (fin false m e) (inf true) u h = clash h
above-unsigned (fin false m e) (inf false) u h = inr refl
above-unsigned (fin false m e) (fin true n k) u h = clash h
above-unsigned (fin false m e) (fin false n k) u h = inl tt

infinity_reaches : (t : Float) → (root_of (inf false) ≺ t) ≡ false
unfolding root_of lt
infinity_reaches nan = refl
infinity_reaches (inf s) = refl
infinity_reaches (fin s m e) = refl

nothing_above : (x : Float) → (inf false ≺ x) ≡ true → {A : Type 0} → A
unfolding lt
nothing_above nan h = clash h
nothing_above (inf s) h = clash h
nothing_above (fin s m e) h = clash h

-- Where x is above the rounded square of t, which is above 0, the root of x is not below t.
pub root_reaches : (t x : Float) → T (fits binary64 t) → (+0 ≺ t) ≡ true → T (fits binary64 x) → (t ⊗ t ≺ x) ≡ true → (root_of x ≺ t) ≡ false
unfolding lt of_bits mul
root_reaches nan x f p g h = clash p
root_reaches (inf true) x f p g h = clash p
root_reaches (inf false) x f p g h = nothing_above x h
root_reaches (fin true m e) x f p g h = clash p
root_reaches (fin false m e) x f p g h =
    let t = fin false m e in
    let q : T (positive t) = subst T (sym (lt-ltb 0 m (first_pos m (up e) (first_pos (m * up e) 1 (let z = ltb-true (0 * 1 * down e) (m * up e * 1) p in omega arith))))) tt in
    ⊎_elim (λ r. plain_reaches t x f q g r h) (λ r. subst (λ (y : Float). (root_of y ≺ t) ≡ false) (sym r) (infinity_reaches t)) (above-unsigned (t ⊗ t) x (square-unsigned t) h)

-- ---- zeros
zero_units : (e : ℤ) → 0 * up e * 2 ^ 1074 / down e ≡ 0
zero_units e = ap (λ (y : ℕ). y * 2 ^ 1074 / down e) (zero-mul (up e)) ∙ ap (λ (y : ℕ). y / down e) (sym (zero-mul (down e))) ∙ mul-div_cancel 0 (down_pos e)

-- the root of a zero is no NaN, and not above 0
zero_root : (s : Bool) (e : ℤ) → (is_nan (root_of (fin s 0 e)) ≡ false) × ((+0 ≺ root_of (fin s 0 e)) ≡ false)
unfolding is_nan lt of_bits
zero_root true e = unfold root_of in (refl, refl)
zero_root false e =
    let z = root_of_zero (fin false 0 e) (unfold plain in tt) (unfold in_units in zero_units e) in rw z (refl, refl)

-- what equals 0 has no digit
zero_digits : (s : Bool) (m : ℕ) (e : ℤ) → eq (fin s m e) +0 ≡ true → m ≡ 0
unfolding eq of_bits
zero_digits s zero e h = refl
zero_digits s (suc m) e h =
    let p : 0 < suc m * up e = mul-pos (omega arith) (up_pos e) in
    let q = eqb-true (suc m * up e * 1) (0 * 1 * down e) (and_left (eqb (suc m * up e * 1) (0 * 1 * down e)) _ h) in
    let z : 0 * 1 * down e ≡ 0 = zero-mul (down e) in absurd (omega arith)

-- The root of a zero is below every t above 0.
pub zero_below : (t x : Float) → (+0 ≺ t) ≡ true → eq x +0 ≡ true → (root_of x ≺ t) ≡ true
zero_below t nan p h = clash (unfold eq in h)
zero_below t (inf s) p h = clash (unfold eq of_bits in h)
zero_below t (fin s m e) p h =
    let r = subst (λ (n : ℕ). (is_nan (root_of (fin s n e)) ≡ false) × ((+0 ≺ root_of (fin s n e)) ≡ false)) (sym (zero_digits s m e h)) (zero_root s e) in
    ⊎_elim (λ l. clash (sym r.1 ∙ l)) (λ l. l) (lt_gap +0 (root_of (fin s m e)) t r.0 p)
