-- The root keeps the order: were the root of x larger than that of y, for x ≤ y, their middle would lie at or below the exact root of x and at or above that of y, so the two would be equal. Assumes nothing.
use Rattle.std.proofs.Common.{◌≡◌, ℕ, zero, suc, ◌+◌, ◌*◌, ◌/◌, ◌^◌, ◌<◌, ◌≤◌, Bool, true, false, ◌&&◌, ◌||◌, T, eqb, ltb, ℤ, pos, sym, refl, ap, ◌∙◌, subst, ⊎_elim, le_trans, le_of_eq, mul-le-mul_right, zero-lt-suc, eq-zero-or-pos, add_comm, mul-pos, zero-mul, mul_right_comm, arith, eqb→eq, ltb→lt, pow_pos, lt-ltb}
use native.Mathlib.Nat.{zero-div}
use lib.Ieee.{Float, nan, inf, fin, binary64, up, down, fits, is_nan, le}
use lib.Ieee.Bits.{is_true}
use lib.Ieee.Fits.{up_pos, down_pos}
use lib.Ieee.Nearest.{div_mono}
use lib.Ieee.Order.{le_of_values}
use Rattle.floats.specs.Root.{root_from, root_of, in_units, plain, squared, Rounded}
use Rattle.floats.proofs.Bounds.{or_le}
use Rattle.floats.proofs.Order.{clash, lt_or_ge}
use Rattle.floats.proofs.root.Nearest.{own-units, squared_le, root_of_squared, plus_zero, root_of_zero, root_is_rounded, root_fits}

-- ---- the order of plain floats is that of their units
le_of_units : (x y : Float) → T (fits binary64 x) → T (plain x) → T (fits binary64 y) → T (plain y) → in_units x ≤ in_units y → le x y ≡ true
le_of_units x y f p g q h =
    is_true (le x y)
    (le_of_values x y (in_units x) (2 ^ 1074) (in_units y) (2 ^ 1074) (pow_pos 1074) (pow_pos 1074) (own-units x f p) (own-units y g q) (mul-le-mul_right (2 ^ 1074) h))

units_of_le : (x y : Float) → T (plain x) → T (plain y) → le x y ≡ true → in_units x ≤ in_units y
unfolding plain le in_units
units_of_le nan y p q h = absurd p
units_of_le (inf s) y p q h = absurd p
units_of_le (fin true m e) y p q h = absurd p
units_of_le (fin false m e) nan p q h = absurd q
units_of_le (fin false m e) (inf t) p q h = absurd q
units_of_le (fin false m e) (fin true n d) p q h = absurd q
units_of_le (fin false m e) (fin false n d) p q h =
    let l : m * up e * down d ≤ n * up d * down e = or_le (m * up e * down d) (n * up d * down e) _ h in
    div_mono (m * up e * 2 ^ 1074) (down e) (n * up d * 2 ^ 1074) (down d) (down_pos e) (down_pos d)
    (le_trans (le_of_eq (mul_right_comm (m * up e) (2 ^ 1074) (down d)))
    (le_trans (mul-le-mul_right (2 ^ 1074) l) (le_of_eq (mul_right_comm (n * up d) (down e) (2 ^ 1074)))))

-- ---- two plain floats
-- the middle of the roots R and R' lies at or below the root of N and at or above that of N'
squeezed : (N N' R R' : ℕ) → N ≤ N' → (R + R') * (R + R') ≤ 4 * N → 4 * N' ≤ (R' + R) * (R' + R) → N ≡ N'
squeezed N N' R R' h a b = let c : (R' + R) * (R' + R) ≡ (R + R') * (R + R') = ap (λ (z : ℕ). z * z) (add_comm R' R) in omega arith

module _ (x y : Float) (f : T (fits binary64 x)) (p : T (plain x)) (g : T (fits binary64 y)) (q : T (plain y)) where
  same_root : squared x ≡ squared y → root_of x ≡ root_of y
  same_root e = root_of_squared x p ∙ ap root_from e ∙ sym (root_of_squared y q)

  units_monotone : in_units x ≤ in_units y → in_units (root_of x) ≤ in_units (root_of y)
  units_monotone h = ⊎_elim (λ l. absurd (wrong l)) (λ l. l) (lt_or_ge (in_units (root_of y)) (in_units (root_of x)))
    where
      a : Rounded x (root_of x)
      a = root_is_rounded x f p

      b : Rounded y (root_of y)
      b = root_is_rounded y g q

      same : in_units (root_of y) < in_units (root_of x) → squared x ≡ squared y
      same l =
          squeezed (squared x) (squared y) (in_units (root_of x)) (in_units (root_of y)) (squared_le x y h)
          ((a.nearest (root_of y) (root_fits y g) b.finite).below l) ((b.nearest (root_of x) (root_fits x f) a.finite).above l)

      wrong : in_units (root_of y) < in_units (root_of x) → ⊥
      wrong l = let e : in_units (root_of x) ≡ in_units (root_of y) = ap in_units (same_root (same l)) in omega arith

  plain_monotone : le x y ≡ true → le (root_of x) (root_of y) ≡ true
  plain_monotone h =
      le_of_units (root_of x) (root_of y) (root_fits x f) (root_is_rounded x f p).finite (root_fits y g) (root_is_rounded y g q).finite
      (units_monotone (units_of_le x y p q h))

-- ---- infinities and zeros
le_infinity : (r : Float) → T (plain r) → le r (inf false) ≡ true
unfolding plain le
le_infinity nan p = absurd p
le_infinity (inf s) p = absurd p
le_infinity (fin true m e) p = absurd p
le_infinity (fin false m e) p = refl

none : (u d : ℕ) → 0 * u * d ≡ 0
none u d = ap (λ (z : ℕ). z * d) (zero-mul u) ∙ zero-mul d

some : (k : ℕ) (e d : ℤ) → 0 < suc k * up d * down e
some k e d = mul-pos (mul-pos (zero-lt-suc k) (up_pos d)) (down_pos e)

-- -0 is at most any plain float
zero_under : (A B : ℕ) → A ≡ 0 → (ltb 0 (A + B) || (eqb A B && eqb A 0)) ≡ true
zero_under A B z = subst (λ (a : ℕ). (ltb 0 (a + B) || (eqb a B && eqb a 0)) ≡ true) (sym z) (go B)
  where
    go : (b : ℕ) → (ltb 0 (0 + b) || (eqb 0 b && eqb 0 0)) ≡ true
    go zero = refl
    go (suc b) = ap (λ (t : Bool). t || (eqb 0 (suc b) && true)) (lt-ltb 0 (0 + suc b) (omega arith))

minus_zero_le : (e : ℤ) (r : Float) → T (plain r) → le (fin true 0 e) r ≡ true
unfolding plain le
minus_zero_le e nan p = absurd p
minus_zero_le e (inf s) p = absurd p
minus_zero_le e (fin true n d) p = absurd p
minus_zero_le e (fin false n d) p = zero_under (0 * up e * down d) (n * up d * down e) (none (up e) (down d))

-- and at most no number below zero
not_under : (A B : ℕ) → A ≡ 0 → 0 < B → (ltb B A || (eqb A B && true)) ≡ true → ⊥
not_under A B z p h = go (ltb B A) (eqb A B) (ltb→lt B A) (eqb→eq A B) h
  where
    go : (s t : Bool) → (T s → B < A) → (T t → A ≡ B) → (s || (t && true)) ≡ true → ⊥
    go true t a b h = let l = a tt in omega arith
    go false true a b h = let l = b tt in omega arith
    go false false a b h = clash h

minus_zero_not_le : (k : ℕ) (e d : ℤ) → le (fin true 0 e) (fin true (suc k) d) ≡ true → ⊥
unfolding le
minus_zero_not_le k e d h = not_under (0 * up e * down d) (suc k * up d * down e) (none (up e) (down d)) (some k e d) h

-- where a number with no sign is at most one with a minus sign, both are zeros
both_zero : (A B : ℕ) → (eqb A B && eqb A 0) ≡ true → (A ≡ 0) × (B ≡ 0)
both_zero A B h = go (eqb A B) (eqb A 0) (eqb→eq A B) (eqb→eq A 0) h
  where
    go : (s t : Bool) → (T s → A ≡ B) → (T t → A ≡ 0) → (s && t) ≡ true → (A ≡ 0) × (B ≡ 0)
    go true true a b h = (b tt, sym (a tt) ∙ b tt)
    go true false a b h = clash h
    go false t a b h = clash h

plain_not_le : (m k : ℕ) (e d : ℤ) → le (fin false m e) (fin true (suc k) d) ≡ true → ⊥
unfolding le
plain_not_le m k e d h =
    let z = (both_zero (m * up e * down d) (suc k * up d * down e) h).1 in
    let p = some k e d in
    omega arith

no_units : (m : ℕ) (e d : ℤ) → m * up e * down d ≡ 0 → in_units (fin false m e) ≡ 0
unfolding in_units
no_units m e d z =
    ⊎_elim (λ i. ap (λ (n : ℕ). n * up e * 2 ^ 1074 / down e) i ∙ ap (λ (n : ℕ). n / down e) (none (up e) (2 ^ 1074)) ∙ zero-div (down e))
    (λ p. let l = mul-pos (mul-pos p (up_pos e)) (down_pos d) in absurd (omega arith)) (eq-zero-or-pos m)

zero_of_le : (m : ℕ) (e d : ℤ) → le (fin false m e) (fin true 0 d) ≡ true → in_units (fin false m e) ≡ 0
unfolding le
zero_of_le m e d h = no_units m e d (both_zero (m * up e * down d) (0 * up d * down e) h).0

-- and +0 is at most -0
zeros_level : (A B : ℕ) → A ≡ 0 → B ≡ 0 → (eqb A B && eqb A 0) ≡ true
zeros_level A B a b = ap (λ (n : ℕ). eqb n B && eqb n 0) a ∙ ap (λ (n : ℕ). eqb 0 n && true) b

plus_zero_le : (d : ℤ) → le plus_zero (fin true 0 d) ≡ true
unfolding le
plus_zero_le d = zeros_level (0 * up (pos 0) * down d) (0 * up d * down (pos 0)) (none (up (pos 0)) (down d)) (none (up d) (down (pos 0)))

-- ---- all floats
pub root_plain : (m : ℕ) (e : ℤ) → T (fits binary64 (fin false m e)) → T (plain (root_of (fin false m e)))
root_plain m e f = (root_is_rounded (fin false m e) f (unfold plain in tt)).finite

pub root_monotone : (x y : Float) → T (fits binary64 x) → T (fits binary64 y) → is_nan (root_of x) ≡ false → le x y ≡ true → le (root_of x) (root_of y) ≡ true
unfolding root_of is_nan le
root_monotone nan y f g n h = clash (sym n)
root_monotone (inf true) y f g n h = clash (sym n)
root_monotone (inf false) nan f g n h = clash h
root_monotone (inf false) (inf true) f g n h = clash h
root_monotone (inf false) (inf false) f g n h = refl
root_monotone (inf false) (fin t k d) f g n h = clash h
root_monotone (fin true (suc m) e) y f g n h = clash (sym n)
root_monotone (fin true zero e) nan f g n h = clash h
root_monotone (fin true zero e) (inf true) f g n h = clash h
root_monotone (fin true zero e) (inf false) f g n h = refl
root_monotone (fin true zero e) (fin true zero d) f g n h = h
root_monotone (fin true zero e) (fin true (suc k) d) f g n h = absurd (minus_zero_not_le k e d h)
root_monotone (fin true zero e) (fin false k d) f g n h = minus_zero_le e (root_of (fin false k d)) (root_plain k d g)
root_monotone (fin false m e) nan f g n h = clash h
root_monotone (fin false m e) (inf true) f g n h = clash h
root_monotone (fin false m e) (inf false) f g n h = le_infinity (root_of (fin false m e)) (root_plain m e f)
root_monotone (fin false m e) (fin true zero d) f g n h =
    subst (λ (r : Float). le r (fin true zero d) ≡ true) (sym (root_of_zero (fin false m e) (unfold plain in tt) (zero_of_le m e d h))) (plus_zero_le d)
root_monotone (fin false m e) (fin true (suc k) d) f g n h = absurd (plain_not_le m k e d h)
root_monotone (fin false m e) (fin false k d) f g n h = plain_monotone (fin false m e) (fin false k d) f (unfold plain in tt) g (unfold plain in tt) h
