-- A vector's numbers and its length, as it comes out: each number is at most twice the length, where one of them is large enough to be squared; and the length has a bound.
-- The length is a root of a rounded sum of rounded squares, so all this is said in the format's smallest values, in which the root's own law stands. Assumes nothing.
use Prim.Native.Nat.{ℕ, zero, suc, ◌+◌, ◌*◌, ◌/◌, ◌%◌, ◌^◌, ◌≤◌, ◌<◌, compare}
use mathlib.Core.Path.{◌≡◌, refl, sym, ap, ◌∙◌, subst}
use mathlib.Core.Logic.{⊎_elim}
use mathlib.Core.Bool.{Bool, true, false}
use native.Mathlib.Nat.{le_refl, le_trans, le_of_eq, eq-zero-or-pos, mul-pos, mul_comm, mul_assoc, mul_right_comm, mul-mul-mul_comm, mul-le-mul, mul-le-mul_right, le_of_mul-le-mul_right, add-mul, mul-add, mul-one, one-mul, le-div_iff_mul-le, div-add-mod', mod-lt}
use native.Mathlib.Omega.{arith}
use lib.Dec.{T}
use lib.IntN.{ℤ}
use lib.Pow.{pow-add, pow_pos, pow_mono, pow-lt}
use lib.Ieee.{Float, nan, inf, fin, binary64, up, down, round, sum, unlike, add, mul, le, lt, eq, fits}
use lib.Ieee.Bits.{is_true}
use lib.Ieee.Digits.{size_reaches}
use lib.Ieee.Fits.{down_pos, add-fits, mul-fits, round-fits}
use lib.Ieee.Exact.{HasValue, round_exact}
use lib.Ieee.Nearest.{closest, nearest-ge, div_mono}
use lib.Ieee.Order.{drop, kept, transfer, round_mono}
use lib.Ieee.Scale.{grid, finite, round_val, round_under}
use Rattle.floats.specs.Ops.{◌⊕◌, ◌⊗◌}
use Rattle.floats.specs.Root.{root_of, in_units, plain, squared}
use Rattle.floats.proofs.Order.{clash, lt_or_ge}
use Rattle.floats.proofs.Bounds.{Within, Below, AtLeast, or_le, add_below, mul_below, below_more, value-within}
use Rattle.floats.proofs.root.Read.{units_of_value, in_range}
use Rattle.floats.proofs.root.Plain.{square-plain, add_plain}
use Rattle.floats.proofs.root.Total.{plain_of_value}
use Rattle.floats.proofs.root.Nearest.{digits, own-units, root_is_rounded, root_fits}
use Rattle.geo.specs.Vector.{length_of}
use Rattle.arc_lines.proofs.Signs.{add_turned}
use Rattle.arc_lines.proofs.Sizes.{Small, least_or_small}

-- ---- a square keeps three quarters of its size when it is rounded, from four of the format's smallest values on
closest_least : (n d : ℕ) → 0 < d → 3 * d ≤ n → 3 * n ≤ 4 * (closest n d * d)
closest_least n d D h =
    let w = n / d in
    let a : 3 * d ≤ w * d = mul-le-mul_right d ((le-div_iff_mul-le D).1 h) in
    let p : w * d + n % d ≡ n = div-add-mod' n d in
    let m : n % d < d = mod-lt n D in
    let q : w * d ≤ closest n d * d = mul-le-mul_right d (nearest-ge w (compare (n % d * 2) d)) in
    omega arith

enough_kept : (n c : ℕ) → 0 < c → 4 * c ≤ n → 3 * (c * 2 ^ drop 53 n c) ≤ n
enough_kept n c C h =
    ⊎_elim
    (λ z. let e : c * 2 ^ drop 53 n c ≡ c = ap (λ (j : ℕ). c * 2 ^ j) z ∙ mul-one c in omega arith)
    (λ p.
    let j = drop 53 n c in
    let a : 2 ^ (52 + j) * c ≤ n = (le-div_iff_mul-le C).0 (size_reaches (n / c) (52 + j) (omega arith)) in
    let b : 2 ^ (52 + j) * c ≡ 2 ^ 52 * (c * 2 ^ j) = ap (λ (z : ℕ). z * c) (pow-add 2 52 j) ∙ mul_assoc (2 ^ 52) (2 ^ j) c ∙ ap (λ (z : ℕ). 2 ^ 52 * z) (mul_comm (2 ^ j) c) in
    omega arith)
    (eq-zero-or-pos (drop 53 n c))

grid_least : (a c : ℕ) → 0 < c → 4 * c ≤ a * 2 ^ 1074 → 3 * (a * 2 ^ 1074) ≤ 4 * (grid binary64 a c * c)
grid_least a c C h =
    let n = a * 2 ^ 1074 in
    let j = drop 53 n c in
    let e : closest n (c * 2 ^ j) * (c * 2 ^ j) ≡ grid binary64 a c * c = ap (λ (z : ℕ). kept 53 n c * z) (mul_comm c (2 ^ j)) ∙ sym (mul_assoc (kept 53 n c) (2 ^ j) c) in
    subst (λ (z : ℕ). 3 * n ≤ 4 * z) e (closest_least n (c * 2 ^ j) (mul-pos C (pow_pos j)) (enough_kept n c C h))

-- in the format's smallest values, of which there are U in 1: A of them are a / c, and E of them the rounded square
unit_square : (A a c U E : ℕ) → 0 < c → a * U ≡ A * c → 3 * (a * a * U) ≤ 4 * (E * (c * c)) → 3 * (A * A) ≤ 4 * (E * U)
unit_square A a c U E C e h =
    let p : 3 * (A * A) * (c * c) ≡ 3 * (a * a * U) * U =
    mul_assoc 3 (A * A) (c * c) ∙ ap (λ (z : ℕ). 3 * z) (sym (mul-mul-mul_comm A c A c) ∙ ap (λ (z : ℕ). z * z) (sym e) ∙ mul-mul-mul_comm a U a U ∙ sym (mul_assoc (a * a) U U)) ∙ sym (mul_assoc 3 (a * a * U) U) in
    let q : 4 * (E * (c * c)) * U ≡ 4 * (E * U) * (c * c) = mul_assoc 4 (E * (c * c)) U ∙ ap (λ (z : ℕ). 4 * z) (mul_right_comm E (c * c) U) ∙ sym (mul_assoc 4 (E * U) (c * c)) in
    le_of_mul-le-mul_right (le_trans (le_of_eq p) (le_trans (mul-le-mul_right U h) (le_of_eq q))) (mul-pos C C)

-- what is 2 ^ -l or more has a square of four such values or more
large_square : (l a c : ℕ) → l + l ≤ 1072 → c ≤ a * 2 ^ l → 4 * (c * c) ≤ a * a * 2 ^ 1074
large_square l a c o h =
    let p : c * c ≤ a * a * 2 ^ (l + l) = le_trans (mul-le-mul h h) (le_of_eq (mul-mul-mul_comm a (2 ^ l) a (2 ^ l) ∙ ap (λ (z : ℕ). a * a * z) (sym (pow-add 2 l l)))) in
    let q : a * a * 2 ^ (l + l) ≤ a * a * 2 ^ 1072 = le_trans (le_of_eq (mul_comm (a * a) (2 ^ (l + l)))) (le_trans (mul-le-mul_right (a * a) (pow_mono o)) (le_of_eq (mul_comm (2 ^ 1072) (a * a)))) in
    let e : a * a * 2 ^ 1074 ≡ a * a * 2 ^ 1072 * 4 = ap (λ (z : ℕ). a * a * z) (pow-add 2 1072 2) ∙ sym (mul_assoc (a * a) (2 ^ 1072) 4) in
    le_trans (le_of_eq (mul_comm 4 (c * c))) (le_trans (mul-le-mul_right 4 (le_trans p q)) (le_of_eq (sym e)))

fits-plus : (s : Bool) (m : ℕ) (e : ℤ) → T (fits binary64 (fin s m e)) → T (fits binary64 (fin false m e))
unfolding fits
fits-plus s zero e f = f
fits-plus s (suc m) e f = f

finite_of : (b : ℕ) (x : Float) → Within b x → T (finite x)
finite_of b nan w = w
finite_of b (inf s) w = w
finite_of b (fin s m e) w = tt

rounded_value : (b a c : ℕ) → Within b (round binary64 false a c) → HasValue (round binary64 false a c) false (grid binary64 a c) (2 ^ 1074)
rounded_value b a c w = round_val binary64 a c (round_under binary64 a c (finite_of b (round binary64 false a c) w))

-- ---- a sum of two numbers without a minus sign is not smaller than the first
le_units : (x y : Float) (a b c : ℕ) → 0 < c → HasValue x false a c → HasValue y false b c → le x y ≡ true → a ≤ b
unfolding le lt eq
le_units nan y a b c C p q h = absurd p
le_units (inf s) y a b c C p q h = absurd p
le_units (fin s m e) nan a b c C p q h = absurd q
le_units (fin s m e) (inf t) a b c C p q h = absurd q
le_units (fin true m e) (fin t n d) a b c C p q h = clash (sym p.0)
le_units (fin false m e) (fin true n d) a b c C p q h = clash (sym q.0)
le_units (fin false m e) (fin false n d) a b c C p q h =
    le_of_mul-le-mul_right
    (transfer a b c c (m * up e) (n * up d) (down e) (down d) (down_pos e) (down_pos d) (sym p.1) (sym q.1) (or_le (m * up e * down d) (n * up d * down e) _ h)) C

sum_units : (b : ℕ) (x y : Float) → T (fits binary64 x) → T (plain x) → T (plain y) → Within b (x ⊕ y) → in_units x ≤ in_units (x ⊕ y)
unfolding plain add sum
sum_units b nan y f p q w = absurd p
sum_units b (inf s) y f p q w = absurd p
sum_units b (fin true m e) y f p q w = absurd p
sum_units b (fin false m e) nan f p q w = absurd q
sum_units b (fin false m e) (inf t) f p q w = absurd q
sum_units b (fin false m e) (fin true n d) f p q w = absurd q
sum_units b (fin false m e) (fin false n d) f p q w =
    let U = 2 ^ 1074 in
    let D = digits (fin false m e) f (unfold plain in tt) in
    let E = D.t * 2 ^ D.j in
    let k = m * up e * down d + n * up d * down e in
    let c = down e * down d in
    let i : in_units (fin false m e) ≡ E = units_of_value (fin false m e) E D.value in
    let o : E < 2 ^ 2098 = subst (λ (z : ℕ). z < 2 ^ 2098) i (unfold in_units in in_range m e f) in
    let v : HasValue (round binary64 false E U) false E U = round_exact binary64 false E U D.t D.j (pow_pos 1074) D.few o refl in
    let g : E * c ≤ k * U =
    le_trans (le_of_eq (sym (mul_assoc E (down e) (down d)) ∙ ap (λ (z : ℕ). z * down d) (sym D.value.1) ∙ mul_right_comm (m * up e) U (down d))) (mul-le-mul_right U (omega arith)) in
    let r = rounded_value b k c w in
    le_trans (le_of_eq i)
    (le_trans (le_units (round binary64 false E U) (round binary64 false k c) E (grid binary64 k c) U (pow_pos 1074) v r (is_true _ (round_mono binary64 E U k c (pow_pos 1074) (mul-pos (down_pos e) (down_pos d)) g)))
    (le_of_eq (sym (units_of_value (round binary64 false k c) (grid binary64 k c) r))))

-- ---- roots
-- where N is three quarters of the square of A or more, and R is as near to the root of N as A is
root_reaches : (A R N : ℕ) → 3 * (A * A) ≤ 4 * N → (R < A → 4 * N ≤ (R + A) * (R + A)) → A ≤ 2 * R
root_reaches A R N h near =
    ⊎_elim
    (λ l.
    let B = R + A in
    let n = near (omega arith) in
    let s : 2 * B * (2 * B) ≤ 3 * A * (3 * A) = mul-le-mul {n₁ = 2 * B} {m₁ = 2 * B} {n₂ = 3 * A} {m₂ = 3 * A} (omega arith) (omega arith) in
    let p : 2 * B * (2 * B) ≡ 4 * (B * B) = mul-mul-mul_comm 2 B 2 B in
    let q : 3 * A * (3 * A) ≡ 9 * (A * A) = mul-mul-mul_comm 3 A 3 A in
    let z : 0 < A = omega arith in
    let y : 0 < A * A = mul-pos z z in
    absurd (omega arith))
    (λ l. l)
    (lt_or_ge (2 * R) A)

square-units : (b l : ℕ) (x : Float) → l + l ≤ 1072 → T (fits binary64 x) → AtLeast l x → Within b (x ⊗ x) → 3 * (in_units x * in_units x) ≤ 4 * (in_units (x ⊗ x) * 2 ^ 1074)
unfolding mul
square-units b l nan o f h w = absurd h
square-units b l (inf s) o f h w = absurd h
square-units b l (fin s m e) o f h w = go s w
  where
    a : ℕ
    a = m * up e

    q : Float
    q = round binary64 false (a * a) (down e * down e)

    there : Within b q → 3 * (in_units (fin false m e) * in_units (fin false m e)) ≤ 4 * (in_units q * 2 ^ 1074)
    there v =
        let E = grid binary64 (a * a) (down e * down e) in
        let i : in_units q ≡ E = units_of_value q E (rounded_value b (a * a) (down e * down e) v) in
        subst (λ (z : ℕ). 3 * (in_units (fin false m e) * in_units (fin false m e)) ≤ 4 * (z * 2 ^ 1074)) (sym i)
        (unit_square (in_units (fin false m e)) a (down e) (2 ^ 1074) E (down_pos e) (own-units (fin false m e) (fits-plus s m e f) (unfold plain in tt)).1
        (grid_least (a * a) (down e * down e) (mul-pos (down_pos e) (down_pos e)) (large_square l a (down e) o h)))

    go : (t : Bool) → Within b (round binary64 (unlike t t) (a * a) (down e * down e))
        → 3 * (in_units (fin s m e) * in_units (fin s m e)) ≤ 4 * (in_units (round binary64 (unlike t t) (a * a) (down e * down e)) * 2 ^ 1074)
    go true v = unfold in_units in there v
    go false v = unfold in_units in there v

-- no finite x lies nearer to the exact root of s than `root_of s` does
root_near : (b : ℕ) (x s : Float) → T (fits binary64 x) → Within b x → T (fits binary64 s) → T (plain s) → in_units (root_of s) < in_units x
    → 4 * (in_units s * 2 ^ 1074) ≤ (in_units (root_of s) + in_units x) * (in_units (root_of s) + in_units x)
unfolding squared
root_near b nan s f w g p l = absurd w
root_near b (inf t) s f w g p l = absurd w
root_near b (fin t m e) s f w g p l = unfold in_units in ((root_is_rounded s g p).nearest (fin false m e) (fits-plus t m e f) (unfold plain in tt)).above l

-- ---- the root of at most 4 ^ j is at most 2 ^ j
root_under : (R Y N : ℕ) → N ≤ Y * Y → (Y < R → (R + Y) * (R + Y) ≤ 4 * N) → R ≤ Y
root_under R Y N h near =
    ⊎_elim
    (λ l.
    let n = near l in
    let s : (Y + Y + 1) * (Y + Y + 1) ≤ (R + Y) * (R + Y) = mul-le-mul {n₁ = Y + Y + 1} {m₁ = Y + Y + 1} {n₂ = R + Y} {m₂ = R + Y} (omega arith) (omega arith) in
    let e : (Y + Y + 1) * (Y + Y + 1) ≡ 4 * (Y * Y) + 4 * Y + 1 = simp (add-mul, mul-add, one-mul) (omega arith) in
    absurd (omega arith))
    (λ l. l)
    (lt_or_ge Y R)

within-units : (b : ℕ) (x : Float) → T (fits binary64 x) → T (plain x) → Within b x → in_units x ≤ b * 2 ^ 1074
unfolding plain
within-units b nan f p w = absurd p
within-units b (inf s) f p w = absurd p
within-units b (fin true m e) f p w = absurd p
within-units b (fin false m e) f p w =
    le_of_mul-le-mul_right (le_trans (le_of_eq (sym (own-units (fin false m e) f (unfold plain in tt)).1)) (le_trans (mul-le-mul_right (2 ^ 1074) w) (le_of_eq (mul_right_comm b (down e) (2 ^ 1074))))) (down_pos e)

root_at_most : (j : ℕ) (x : Float) → j ≤ 1000 → T (fits binary64 x) → T (plain x) → Below (j + j) x → Below j (root_of x)
unfolding squared
root_at_most j x o f p h =
    let U = 2 ^ 1074 in
    let Y = 2 ^ j * U in
    let y = round binary64 false Y U in
    let k : j + 1074 < 2098 = omega arith in
    let e : 1 * 2 ^ (j + 1074) ≡ Y = one-mul (2 ^ (j + 1074)) ∙ pow-add 2 j 1074 in
    let v : HasValue y false Y U =
    round_exact binary64 false Y U 1 (j + 1074) (pow_pos 1074) (omega arith) (subst (λ (z : ℕ). z < 2 ^ 2098) (sym (one-mul (2 ^ (j + 1074)))) (pow-lt k)) (ap (λ (z : ℕ). z * U) (sym e)) in
    let i : in_units y ≡ Y = units_of_value y Y v in
    let r = root_is_rounded x f p in
    let near = subst (λ (z : ℕ). z < in_units (root_of x) → (in_units (root_of x) + z) * (in_units (root_of x) + z) ≤ 4 * (in_units x * U)) i
    (r.nearest y (round-fits binary64 false Y U) (plain_of_value y Y U v)).below in
    let n : in_units x * U ≤ Y * Y =
    le_trans (mul-le-mul_right U (within-units (2 ^ (j + j)) x f p h.within))
    (le_of_eq (mul_assoc (2 ^ (j + j)) U U ∙ ap (λ (z : ℕ). z * (U * U)) (pow-add 2 j j) ∙ mul-mul-mul_comm (2 ^ j) (2 ^ j) U U)) in
    record { within = value-within (root_of x) false (in_units (root_of x)) U (2 ^ j) (pow_pos 1074) (own-units (root_of x) (root_fits x f) r.finite) (root_under (in_units (root_of x)) Y (in_units x * U) n near) }

-- ---- a vector's numbers and its length
small_units : (l : ℕ) (x y : Float) → AtLeast l x → Small l y → in_units y ≤ in_units x
unfolding in_units
small_units l nan y a h = absurd a
small_units l (inf s) y a h = absurd a
small_units l (fin s m e) nan a h = absurd h
small_units l (fin s m e) (inf t) a h = absurd h
small_units l (fin s m e) (fin t n d) a h =
    let x = m * up e in
    let y = n * up d in
    let p : y * down e ≤ x * down d =
    le_trans (le_of_eq (mul_comm y (down e)))
    (le_trans (mul-le-mul_right y a)
    (le_trans (le_of_eq (mul_assoc x (2 ^ l) y ∙ ap (λ (z : ℕ). x * z) (mul_comm (2 ^ l) y) ∙ mul_comm x (y * 2 ^ l))) (le_trans (mul-le-mul_right x h) (le_of_eq (mul_comm (down d) x))))) in
    div_mono (y * 2 ^ 1074) (down d) (x * 2 ^ 1074) (down e) (down_pos d) (down_pos e)
    (le_trans (le_of_eq (mul_right_comm y (2 ^ 1074) (down e))) (le_trans (mul-le-mul_right (2 ^ 1074) p) (le_of_eq (mul_right_comm x (down d) (2 ^ 1074)))))

pub length_turned : (x y : Float) → length_of y x ≡ length_of x y
unfolding length_of
length_turned x y = ap root_of (add_turned (y ⊗ y) (x ⊗ x))

module _ (k : ℕ) (o : k ≤ 400) (x y : Float) (X : Below k x) (Y : Below k y) where
  first-square : Below (k + k) (x ⊗ x)
  first-square = mul_below (omega arith) X X

  second-square : Below (k + k) (y ⊗ y)
  second-square = mul_below (omega arith) Y Y

  squares_below : Below (k + k + 1) (x ⊗ x ⊕ y ⊗ y)
  squares_below = add_below (omega arith) first-square second-square

  squares_plain : T (plain (x ⊗ x ⊕ y ⊗ y))
  squares_plain =
      add_plain (2 ^ (k + k + 1)) (x ⊗ x) (y ⊗ y) (square-plain (2 ^ (k + k)) x first-square.within) (square-plain (2 ^ (k + k)) y second-square.within) squares_below.within

  pub vector_length_plain : T (plain (length_of x y))
  unfolding length_of
  vector_length_plain = (root_is_rounded (x ⊗ x ⊕ y ⊗ y) (add-fits binary64 (x ⊗ x) (y ⊗ y)) squares_plain).finite

  pub vector_length_fits : T (fits binary64 (length_of x y))
  unfolding length_of
  vector_length_fits = root_fits (x ⊗ x ⊕ y ⊗ y) (add-fits binary64 (x ⊗ x) (y ⊗ y))

  pub vector_length_below : Below (k + 1) (length_of x y)
  unfolding length_of
  vector_length_below = root_at_most (k + 1) (x ⊗ x ⊕ y ⊗ y) (omega arith) (add-fits binary64 (x ⊗ x) (y ⊗ y)) squares_plain (below_more (k + 1 + (k + 1)) (omega arith) squares_below)

  -- the first number, where it is large
  large_under : (l : ℕ) → l + l ≤ 1072 → T (fits binary64 x) → AtLeast l x → in_units x ≤ 2 * in_units (length_of x y)
  unfolding length_of
  large_under l h f a =
      let S = x ⊗ x ⊕ y ⊗ y in
      let q = square-units (2 ^ (k + k)) l x h f a first-square.within in
      let p =
      sum_units (2 ^ (k + k + 1)) (x ⊗ x) (y ⊗ y) (mul-fits binary64 x x) (square-plain (2 ^ (k + k)) x first-square.within) (square-plain (2 ^ (k + k)) y second-square.within)
      squares_below.within in
      root_reaches (in_units x) (in_units (root_of S)) (in_units S * 2 ^ 1074) (le_trans q (mul-le-mul (le_refl 4) (mul-le-mul_right (2 ^ 1074) p)))
      (root_near (2 ^ k) x S f X.within (add-fits binary64 (x ⊗ x) (y ⊗ y)) squares_plain)

-- both numbers, where the first is large
both_under : (k l : ℕ) → k ≤ 400 → l + l ≤ 1072 → (x y : Float) → Below k x → Below k y → T (fits binary64 x) → T (fits binary64 y) → AtLeast l x
    → (in_units x ≤ 2 * in_units (length_of x y)) × (in_units y ≤ 2 * in_units (length_of x y))
both_under k l o h x y X Y f g a =
    let p = large_under k o x y X Y l h f a in (
      p,
      ⊎_elim (λ b. subst (λ (z : Float). in_units y ≤ 2 * in_units z) (length_turned x y) (large_under k o y x Y X l h g b)) (λ b. le_trans (small_units l x y a b) p)
          (least_or_small l (2 ^ k) y Y.within),
    )

-- ---- as fractions
-- x is at most twice y in size
abbrev pub Twice : Float → Float → Type 0
Twice nan y = ⊥
Twice (inf s) y = ⊥
Twice (fin s m e) nan = ⊥
Twice (fin s m e) (inf t) = ⊥
Twice (fin s m e) (fin t n d) = m * up e * down d ≤ 2 * (n * up d * down e)

twice_sizes : (A R a b c d U : ℕ) → 0 < U → a * U ≡ A * c → b * U ≡ R * d → A ≤ 2 * R → a * d ≤ 2 * (b * c)
twice_sizes A R a b c d U p e f h =
    let l : a * d * U ≡ A * (c * d) = mul_right_comm a d U ∙ ap (λ (z : ℕ). z * d) e ∙ mul_assoc A c d in
    let r : 2 * R * (c * d) ≡ 2 * (b * c) * U =
    mul_assoc 2 R (c * d) ∙ ap (λ (z : ℕ). 2 * z) (ap (λ (z : ℕ). R * z) (mul_comm c d) ∙ sym (mul_assoc R d c) ∙ ap (λ (z : ℕ). z * c) (sym f) ∙ mul_right_comm b U c) ∙ sym (mul_assoc 2 (b * c) U) in
    le_of_mul-le-mul_right (le_trans (le_of_eq l) (le_trans (mul-le-mul_right (c * d) h) (le_of_eq r))) p

twice_of_units : (b : ℕ) (x y : Float) → T (fits binary64 x) → Within b x → T (fits binary64 y) → T (plain y) → in_units x ≤ 2 * in_units y → Twice x y
unfolding plain
twice_of_units b nan y f w g p h = absurd w
twice_of_units b (inf s) y f w g p h = absurd w
twice_of_units b (fin s m e) nan f w g p h = absurd p
twice_of_units b (fin s m e) (inf t) f w g p h = absurd p
twice_of_units b (fin s m e) (fin true n d) f w g p h = absurd p
twice_of_units b (fin s m e) (fin false n d) f w g p h =
    twice_sizes (in_units (fin false m e)) (in_units (fin false n d)) (m * up e) (n * up d) (down e) (down d) (2 ^ 1074) (pow_pos 1074)
    (own-units (fin false m e) (fits-plus s m e f) (unfold plain in tt)).1 (own-units (fin false n d) g (unfold plain in tt)).1 (unfold in_units in h)

-- Each number of a vector is at most twice its length, where the first is 2 ^ -l or more.
pub twice_length : (k l : ℕ) → k ≤ 400 → l + l ≤ 1072 → (x y : Float) → Below k x → Below k y → T (fits binary64 x) → T (fits binary64 y) → AtLeast l x
    → Twice x (length_of x y) × Twice y (length_of x y)
twice_length k l o h x y X Y f g a =
    let u = both_under k l o h x y X Y f g a in
    let L = vector_length_fits k o x y X Y in
    let P = vector_length_plain k o x y X Y in
    (twice_of_units (2 ^ k) x (length_of x y) f X.within L P u.0, twice_of_units (2 ^ k) y (length_of x y) g Y.within L P u.1)
