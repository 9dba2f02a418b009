-- `root_of x` is the binary64 nearest to the exact root of x, a tie to the even one: it is q or q + 1 times 2 ^ k units, by the middle of the two, and no binary64 lies strictly between them. Assumes nothing.
use Rattle.std.proofs.Common.{◌≡◌, ℕ, zero, suc, ◌+◌, ◌-◌, ◌*◌, ◌/◌, ◌%◌, ◌^◌, ◌<◌, ◌≤◌, true, false, T, eqb, ◌⊎◌, pos, sym, refl, ap, ◌∙◌, subst, inl, inr, ⊎_elim, zero-le, le_trans, le_of_eq, lt_of_lt_of_le, lt_of_le_of_lt, le_of_lt, mul-le-mul_right, mul_assoc, suc-mul, div-lt_iff_lt-mul, add-mul, eq-zero-or-pos, mul-le-mul, le_antisymm, mul-pos, one-mul, le-div_iff_mul-le, zero-mul, mul-add, arith, pow_pos, pow_mono, pow-add, shl_lt}
use Prim.Native.Nat.{compare, Ordering}
use native.Mathlib.Nat.{mul-mul-mul_comm}
use native.Mathlib.Decide.{dec_le}
use lib.Dec.{compare_is_eq, eqb_refl}
use lib.Ieee.{Float, nan, inf, fin, binary64, size, nearest, units, to_bits, of_bits, fits}
use lib.Ieee.Bits.{of_bits-to_bits}
use lib.Ieee.Digits.{size-lt, size-le, size_reaches}
use lib.Ieee.Exact.{HasValue, units_val}
use lib.Ieee.Fits.{odd-fits, nan-fits, inf-fits, nearest-le}
use lib.Ieee.Nearest.{nearest-ge}
use Rattle.floats.specs.Root.{whole_root, root_from, root_of, in_units, plain, squared, NoNearer, Rounded}
use Rattle.floats.proofs.Order.{lt_or_ge}
use Rattle.floats.proofs.root.Floor.{Floor, whole_root-is, compare_lt, compare_gt}
use Rattle.floats.proofs.root.Rooted.{size_gt, form_is, units-is, bits_of_value, pattern_at}
use Rattle.floats.proofs.root.Read.{value_small, value-normal, units_of_value, in_range, plain_bits, root_of-is}
use Rattle.floats.proofs.root.Total.{plain_of_value}

-- ---- squares
abbrev square : ℕ → ℕ
square a = a * a

square_le : (a b : ℕ) → a ≤ b → square a ≤ square b
square_le a b h = mul-le-mul h h

square_lt : (a b : ℕ) → a < b → square a < square b
square_lt a b h =
    let l : square (a + 1) ≤ square b = square_le (a + 1) b (omega arith) in
    let e : square (a + 1) ≡ a * a + a + (a + 1) = simp (mul-add, add-mul) (omega arith) in
    omega arith

four_times : (a : ℕ) → 4 * square a ≡ square (a + a)
four_times a = simp (mul-add, add-mul) (omega arith)

-- ---- The root of N lies from A up and below A + D, and R is the one of the two on its side of their middle.
-- Twice the middle of A and A + D is A + (A + D), and the root of N is compared with it as 4 * N with its square.
record Between (N A D : ℕ) : Type 0 where
  from : square A ≤ N
  to : N < square (A + D)

data Chosen (N A D R : ℕ) : Type 0 where
  kept : R ≡ A → 4 * N ≤ square (A + (A + D)) → Chosen N A D R
  moved : R ≡ A + D → square (A + (A + D)) ≤ 4 * N → Chosen N A D R

-- Y does not lie strictly between the two
abbrev Clear : ℕ → ℕ → ℕ → Type 0
Clear A D Y = (Y ≤ A) ⊎ (A + D ≤ Y)

module _ (N A D Y : ℕ) (b : Between N A D) where
  -- of a Y below A the middle with A lies below the root, and of a Y above A + D that with A + D lies above it
  under : Y < A → square (A + Y) < 4 * N
  under h =
      let s : square (A + Y) < square (A + A) = square_lt (A + Y) (A + A) (omega arith) in
      let f = b.from in
      let e = four_times A in
      omega arith

  over : A + D < Y → 4 * N < square (A + D + Y)
  over h =
      let s : square (A + D + (A + D)) < square (A + D + Y) = square_lt (A + D + (A + D)) (A + D + Y) (omega arith) in
      let t = b.to in
      let e = four_times (A + D) in
      omega arith

  -- from A + D on the middle with A is no lower than that of the two, and up to A the middle with A + D is no higher
  from-middle : A + D ≤ Y → square (A + (A + D)) ≤ square (A + Y)
  from-middle h = square_le (A + (A + D)) (A + Y) (omega arith)

  to-middle : Y ≤ A → square (A + D + Y) ≤ square (A + (A + D))
  to-middle h = square_le (A + D + Y) (A + (A + D)) (omega arith)

  module _ (g : Clear A D Y) where
    beyond : A < Y → A + D ≤ Y
    beyond h = ⊎_elim (λ l. absurd (omega arith)) (λ l. l) g

    before : Y < A + D → Y ≤ A
    before h = ⊎_elim (λ l. l) (λ l. absurd (omega arith)) g

    no_nearer : (R : ℕ) → Chosen N A D R → NoNearer N R Y
    no_nearer R (kept e m) = subst (λ (z : ℕ). NoNearer N z Y) (sym e) (record { above = λ h. le_trans m (from-middle (beyond h)); below = λ h. le_of_lt (under h) })
    no_nearer R (moved e m) = subst (λ (z : ℕ). NoNearer N z Y) (sym e) (record { above = λ h. le_of_lt (over h); below = λ h. le_trans (to-middle (before h)) m })

    -- as near as R is only the other of the two, and only where the root is their middle
    tie_low : 4 * N ≤ square (A + (A + D)) → (Y ≡ A → ⊥) → square (A + Y) ≡ 4 * N → 4 * N ≡ square (A + (A + D))
    tie_low m f e =
        ⊎_elim (λ l. let u = under l in absurd (omega arith))
        (λ l. ⊎_elim (λ h. let v = from-middle (beyond h) in omega arith) (λ h. absurd (f (le_antisymm h l))) (lt_or_ge A Y))
        (lt_or_ge Y A)

    tie_high : square (A + (A + D)) ≤ 4 * N → (Y ≡ A + D → ⊥) → square (A + D + Y) ≡ 4 * N → 4 * N ≡ square (A + (A + D))
    tie_high m f e =
        ⊎_elim (λ l. let v = to-middle (before l) in omega arith)
        (λ l. ⊎_elim (λ h. let u = over h in absurd (omega arith)) (λ h. absurd (f (le_antisymm h l))) (lt_or_ge (A + D) Y))
        (lt_or_ge Y (A + D))

    tie : (R : ℕ) → Chosen N A D R → (Y ≡ R → ⊥) → square (R + Y) ≡ 4 * N → 4 * N ≡ square (A + (A + D))
    tie R (kept e m) = subst (λ (z : ℕ). (Y ≡ z → ⊥) → square (z + Y) ≡ 4 * N → 4 * N ≡ square (A + (A + D))) (sym e) (tie_low m)
    tie R (moved e m) = subst (λ (z : ℕ). (Y ≡ z → ⊥) → square (z + Y) ≡ 4 * N → 4 * N ≡ square (A + (A + D))) (sym e) (tie_high m)

-- ---- what `nearest` takes, q or q + 1: in units of d = 2 ^ k, with A = q * d and D = d
compare_eq : (a b : ℕ) → a ≡ b → compare a b ≡ Ordering.eq
compare_eq a b e = go (compare a b) (subst (λ (z : ℕ). T (eqb a z)) e (eqb_refl a))
  where
    go : (o : Ordering) → T (compare_is_eq o) → o ≡ Ordering.eq
    go Ordering.lt t = absurd t
    go Ordering.eq t = refl
    go Ordering.gt t = absurd t

module _ (N q d : ℕ) where
  abbrev middle : ℕ
  middle = (2 * q + 1) * (2 * q + 1) * (d * d)

  abbrev taken : ℕ
  taken = nearest q (compare (4 * N) middle)

  middle-is : middle ≡ square (q * d + (q * d + d))
  middle-is =
      let e : (2 * q + 1) * d ≡ q * d + (q * d + d) = simp (add-mul, mul_assoc, one-mul) (omega arith) in
      sym (mul-mul-mul_comm (2 * q + 1) d (2 * q + 1) d) ∙ ap (λ (z : ℕ). z * z) e

  taken_least : q ≤ taken
  taken_least = nearest-ge q (compare (4 * N) middle)

  taken_most : taken ≤ suc q
  taken_most = nearest-le q (compare (4 * N) middle)

  chosen_low : taken ≡ q → 4 * N ≤ middle → Chosen N (q * d) d (taken * d)
  chosen_low e m = kept (ap (λ (z : ℕ). z * d) e) (le_trans m (le_of_eq middle-is))

  chosen_high : taken ≡ suc q → middle ≤ 4 * N → Chosen N (q * d) d (taken * d)
  chosen_high e m = moved (ap (λ (z : ℕ). z * d) e ∙ suc-mul q d) (le_trans (le_of_eq (sym middle-is)) m)

  taken_below : 4 * N < middle → taken ≡ q
  taken_below h = ap (λ (o : Ordering). nearest q o) (compare_lt (4 * N) middle h)

  taken_above : middle < 4 * N → taken ≡ suc q
  taken_above h = ap (λ (o : Ordering). nearest q o) (compare_gt (4 * N) middle h)

  taken_at_tie : 4 * N ≡ middle → taken ≡ q + q % 2
  taken_at_tie e = ap (λ (o : Ordering). nearest q o) (compare_eq (4 * N) middle e)

  -- at a tie q is kept where it is even
  chosen_at_tie : 4 * N ≡ middle → Chosen N (q * d) d (taken * d)
  chosen_at_tie e =
      ⊎_elim (λ z. chosen_low (taken_at_tie e ∙ omega arith) (le_of_eq e)) (λ z. chosen_high (taken_at_tie e ∙ omega arith) (le_of_eq (sym e))) (lt_or_ge (q % 2) 1)

  chosen : Chosen N (q * d) d (taken * d)
  chosen =
      ⊎_elim (λ l. chosen_low (taken_below l) (le_of_lt l))
      (λ l. ⊎_elim (λ h. chosen_high (taken_above h) (le_of_lt h)) (λ h. chosen_at_tie (le_antisymm h l)) (lt_or_ge middle (4 * N)))
      (lt_or_ge (4 * N) middle)

  taken_even : 4 * N ≡ square (q * d + (q * d + d)) → taken % 2 ≡ 0
  taken_even e = ap (λ (z : ℕ). z % 2) (taken_at_tie (e ∙ sym middle-is)) ∙ omega arith

-- ---- a binary64 is t * 2 ^ j units, with t of at most 53 digits: so none lies strictly between q * 2 ^ k and (q + 1) * 2 ^ k where q has as many
pub record Digits (y : Float) : Type 0 where
  pub t : ℕ
  pub j : ℕ
  pub few : t < 2 ^ 53
  pub value : HasValue y false (t * 2 ^ j) (2 ^ 1074)

pub digits : (y : Float) → T (fits binary64 y) → T (plain y) → Digits y
digits y f p = subst Digits (of_bits-to_bits binary64 y f) (either (dec_le (b / 0x10_0000_0000_0000) 0))
  where
    b : ℕ
    b = to_bits binary64 y

    either : Dec (b / 0x10_0000_0000_0000 ≤ 0) → Digits (of_bits binary64 b)
    either (yes l) = record { t = b % 0x10_0000_0000_0000; j = 0; few = omega arith; value = value_small b (omega arith) }
    either (no g) =
        record {
          t = 0x10_0000_0000_0000 + b % 0x10_0000_0000_0000;
          j = b / 0x10_0000_0000_0000 - 1;
          few = omega arith;
          value = value-normal b (λ e. g (omega arith)) (plain_bits y f p);
        }

-- its units are its exact value
pub own-units : (y : Float) → T (fits binary64 y) → T (plain y) → HasValue y false (in_units y) (2 ^ 1074)
own-units y f p =
    let D = digits y f p in
    subst (λ (n : ℕ). HasValue y false n (2 ^ 1074)) (sym (units_of_value y (D.t * 2 ^ D.j) D.value)) D.value

-- where j is below k it lies below 2 ^ 52 * 2 ^ k
finer : (t j q k : ℕ) → t < 2 ^ 53 → 2 ^ 52 ≤ q → j < k → t * 2 ^ j ≤ q * 2 ^ k
finer t j q k h l g =
    le_of_lt
    (lt_of_lt_of_le (shl_lt 53 j h)
    (le_trans (pow_mono {i = 53 + j} {j = 52 + k} (omega arith)) (le_trans (le_of_eq (pow-add 2 52 k)) (mul-le-mul_right (2 ^ k) l))))

-- otherwise it is a multiple of 2 ^ k
multiple : (t j k : ℕ) → k ≤ j → t * 2 ^ j ≡ t * 2 ^ (j - k) * 2 ^ k
multiple t j k h =
    let e : j ≡ j - k + k = omega arith in
    ap (λ (z : ℕ). t * 2 ^ z) e ∙ ap (λ (z : ℕ). t * z) (pow-add 2 (j - k) k) ∙ sym (mul_assoc t (2 ^ (j - k)) (2 ^ k))

clear_multiple : (c q d : ℕ) → Clear (q * d) d (c * d)
clear_multiple c q d =
    ⊎_elim (λ l. inr (le_trans (le_of_eq (sym (suc-mul q d))) (mul-le-mul_right d l))) (λ l. inl (mul-le-mul_right d l)) (lt_or_ge q c)

clear : (y : Float) (q k : ℕ) → T (fits binary64 y) → T (plain y) → 2 ^ 52 ≤ q → Clear (q * 2 ^ k) (2 ^ k) (in_units y)
clear y q k f p l =
    let D = digits y f p in
    let e : in_units y ≡ D.t * 2 ^ D.j = units_of_value y (D.t * 2 ^ D.j) D.value in
    ⊎_elim (λ h. inl (le_trans (le_of_eq e) (finer D.t D.j q k D.few l h)))
    (λ h. subst (λ (z : ℕ). Clear (q * 2 ^ k) (2 ^ k) z) (sym (e ∙ multiple D.t D.j k h)) (clear_multiple (D.t * 2 ^ (D.j - k)) q (2 ^ k)))
    (lt_or_ge D.j k)

-- ---- the whole part q of the root of N / 4 ^ k: it has 53 digits, and the root of N lies from q * 2 ^ k up and below (q + 1) * 2 ^ k
whole-least : (q w : ℕ) → w < (q + 1) * (q + 1) → 2 ^ 104 ≤ w → 2 ^ 52 ≤ q
whole-least q w h l = ⊎_elim (λ g. let s = square_le (q + 1) (2 ^ 52) (omega arith) in absurd (omega arith)) (λ g. g) (lt_or_ge q (2 ^ 52))

whole-most : (q w : ℕ) → q * q ≤ w → w < 2 ^ 106 → q < 2 ^ 53
whole-most q w h l = ⊎_elim (λ g. g) (λ g. let s = square_le (2 ^ 53) q g in absurd (omega arith)) (lt_or_ge q (2 ^ 53))

whole-between : (N q d : ℕ) → 0 < d → Floor (N / (d * d)) q → Between N (q * d) d
whole-between N q d p f =
    let pp : 0 < d * d = mul-pos p p in
    let i : (q + 1) * d ≡ q * d + d = add-mul q 1 d ∙ ap (λ (z : ℕ). q * d + z) (one-mul d) in
    record {
      from = le_trans (le_of_eq (mul-mul-mul_comm q d q d)) ((le-div_iff_mul-le pp).0 f.0);
      to = lt_of_lt_of_le ((div-lt_iff_lt-mul pp).0 f.1) (le_of_eq (sym (mul-mul-mul_comm (q + 1) d (q + 1) d) ∙ ap square i));
    }

-- N / 4 ^ k has 105 or 106 digits, where N has 105 at least
abbrev dropped : ℕ → ℕ
dropped N = (size N + 1) / 2 - 53

abbrev part : ℕ → ℕ
part N = N / (2 ^ dropped N * 2 ^ dropped N)

module _ (N : ℕ) (s : 105 ≤ size N) where
  unit_pos : 0 < 2 ^ dropped N * 2 ^ dropped N
  unit_pos = mul-pos (pow_pos (dropped N)) (pow_pos (dropped N))

  shifted : (i : ℕ) → 2 ^ (i + (dropped N + dropped N)) ≡ 2 ^ i * (2 ^ dropped N * 2 ^ dropped N)
  shifted i = pow-add 2 i (dropped N + dropped N) ∙ ap (λ (z : ℕ). 2 ^ i * z) (pow-add 2 (dropped N) (dropped N))

  part_least : 2 ^ 104 ≤ part N
  part_least = (le-div_iff_mul-le unit_pos).1 (le_trans (le_of_eq (sym (shifted 104))) (size_reaches N (104 + (dropped N + dropped N)) (omega arith)))

  part_most : part N < 2 ^ 106
  part_most =
      (div-lt_iff_lt-mul unit_pos).1
      (lt_of_lt_of_le (size-lt N) (le_trans (pow_mono {i = size N} {j = 106 + (dropped N + dropped N)} (omega arith)) (le_of_eq (shifted 106))))

-- ---- a root r of N that is made from such a q
record Cut (N : ℕ) (r : Float) : Type 0 where
  q : ℕ
  k : ℕ
  least : 2 ^ 52 ≤ q
  most : q < 2 ^ 53
  low : k ≤ 2000
  around : Between N (q * 2 ^ k) (2 ^ k)
  is : r ≡ units binary64 false (taken N q (2 ^ k)) k

cut : (N : ℕ) → 105 ≤ size N → size N ≤ 3172 → Cut N (root_from N)
cut N s l =
    let w = whole_root-is (part N) in
    record {
      q = whole_root (part N);
      k = dropped N;
      least = whole-least (whole_root (part N)) (part N) w.1 (part_least N s);
      most = whole-most (whole_root (part N)) (part N) w.0 (part_most N s);
      low = omega arith;
      around = whole-between N (whole_root (part N)) (2 ^ dropped N) (pow_pos (dropped N)) w;
      is = form_is N;
    }

last_bit : (k n : ℕ) → n % 2 ≡ 0 → (k * 2 ^ 52 + n) % 2 ≡ 0
last_bit k n e = omega arith

module _ (N : ℕ) (r : Float) (c : Cut N r) where
  -- r is `count` times 2 ^ k units
  abbrev count : ℕ
  count = taken N c.q (2 ^ c.k)

  count-least : 2 ^ 52 ≤ count
  count-least = le_trans c.least (taken_least N c.q (2 ^ c.k))

  count_most : count ≤ 2 ^ 53
  count_most = le_trans (taken_most N c.q (2 ^ c.k)) c.most

  count-few : count < 2 ^ 54
  count-few = lt_of_le_of_lt count_most (omega arith)

  -- below an infinity
  in_format : count * 2 ^ c.k < 2 ^ 2098
  in_format =
      let h = c.low in
      lt_of_lt_of_le (shl_lt 54 c.k count-few) (pow_mono {i = 54 + c.k} {j = 2098} (omega arith))

  cut-value : HasValue r false (count * 2 ^ c.k) (2 ^ 1074)
  cut-value = subst (λ (z : Float). HasValue z false (count * 2 ^ c.k) (2 ^ 1074)) (sym c.is) (units_val binary64 false count c.k in_format)

  cut-plain : T (plain r)
  cut-plain = plain_of_value r (count * 2 ^ c.k) (2 ^ 1074) cut-value

  cut_fits : T (fits binary64 r)
  cut_fits = subst (λ (z : Float). T (fits binary64 z)) (sym (c.is ∙ units-is count c.k in_format)) (odd-fits binary64 54 false count c.k count-few count_most in_format)

  cut_bits : to_bits binary64 r ≡ c.k * 2 ^ 52 + count
  cut_bits = bits_of_value r (count * 2 ^ c.k) cut-value ∙ pattern_at count c.k count-least count_most

  cut_chosen : Chosen N (c.q * 2 ^ c.k) (2 ^ c.k) (in_units r)
  cut_chosen = subst (λ (z : ℕ). Chosen N (c.q * 2 ^ c.k) (2 ^ c.k) z) (sym (units_of_value r (count * 2 ^ c.k) cut-value)) (chosen N c.q (2 ^ c.k))

  module _ (y : Float) (f : T (fits binary64 y)) (p : T (plain y)) where
    cut-nearest : NoNearer N (in_units r) (in_units y)
    cut-nearest = no_nearer N (c.q * 2 ^ c.k) (2 ^ c.k) (in_units y) c.around (clear y c.q c.k f p c.least) (in_units r) cut_chosen

    cut_tie : (in_units y ≡ in_units r → ⊥) → square (in_units r + in_units y) ≡ 4 * N → 4 * N ≡ square (c.q * 2 ^ c.k + (c.q * 2 ^ c.k + 2 ^ c.k))
    cut_tie = tie N (c.q * 2 ^ c.k) (2 ^ c.k) (in_units y) c.around (clear y c.q c.k f p c.least) (in_units r) cut_chosen

    cut-even : (in_units y ≡ in_units r → ⊥) → square (in_units r + in_units y) ≡ 4 * N → to_bits binary64 r % 2 ≡ 0
    cut-even a e = ap (λ (z : ℕ). z % 2) cut_bits ∙ last_bit c.k count (taken_even N c.q (2 ^ c.k) (cut_tie a e))

-- ---- the root of a plain x: +0 of a zero, and such a cut of any other
pub squared-is : (x : Float) → squared x ≡ in_units x * 2 ^ 1074
unfolding squared
squared-is x = refl

pub squared_le : (x y : Float) → in_units x ≤ in_units y → squared x ≤ squared y
squared_le x y h = le_trans (le_of_eq (squared-is x)) (le_trans (mul-le-mul_right (2 ^ 1074) h) (le_of_eq (sym (squared-is y))))

pub root_of_squared : (x : Float) → T (plain x) → root_of x ≡ root_from (squared x)
root_of_squared x p = root_of-is x p ∙ ap root_from (sym (squared-is x))

pub in_units-most : (x : Float) → T (fits binary64 x) → T (plain x) → in_units x < 2 ^ 2098
unfolding plain in_units
in_units-most nan f p = absurd p
in_units-most (inf s) f p = absurd p
in_units-most (fin true m e) f p = absurd p
in_units-most (fin false m e) f p = in_range m e f

root_cut : (x : Float) → T (fits binary64 x) → T (plain x) → 0 < in_units x → Cut (squared x) (root_of x)
root_cut x f p h =
    let N = in_units x * 2 ^ 1074 in
    let l : 2 ^ 1074 ≤ N = le_trans (le_of_eq (sym (one-mul (2 ^ 1074)))) (mul-le-mul_right (2 ^ 1074) h) in
    let a : 1074 < size N = size_gt N 1074 l in
    let b : size N ≤ 3172 = size-le N 3172 (shl_lt 2098 1074 (in_units-most x f p)) in
    subst (λ (z : ℕ). Cut z (root_of x)) (sym (squared-is x)) (subst (λ (z : Float). Cut N z) (sym (root_of-is x p)) (cut N (omega arith) b))

abbrev pub plus_zero : Float
plus_zero = fin false 0 (pos 0)

pub root_of_zero : (x : Float) → T (plain x) → in_units x ≡ 0 → root_of x ≡ plus_zero
root_of_zero x p z = root_of-is x p ∙ ap (λ (n : ℕ). root_from (n * 2 ^ 1074)) z ∙ there
  where
    there : root_from 0 ≡ plus_zero
    there = unfold root_from in refl

plus_zero_units : in_units plus_zero ≡ 0
unfolding in_units
plus_zero_units = refl

plus_zero_bits : to_bits binary64 plus_zero ≡ 0
unfolding to_bits
plus_zero_bits = refl

zero_rounded : (x : Float) → in_units x ≡ 0 → Rounded x plus_zero
zero_rounded x z =
    let s : squared x ≡ 0 = squared-is x ∙ ap (λ (n : ℕ). n * 2 ^ 1074) z ∙ zero-mul (2 ^ 1074) in
    let r : in_units plus_zero ≡ 0 = plus_zero_units in
    record {
      finite = unfold plain in tt;
      nearest = λ y f p. record { above = λ h. le_trans (omega arith) zero-le; below = λ h. absurd (omega arith) };
      even = λ y f p a e. ap (λ (n : ℕ). n % 2) plus_zero_bits;
    }

pub root_is_rounded : (x : Float) → T (fits binary64 x) → T (plain x) → Rounded x (root_of x)
root_is_rounded x f p =
    ⊎_elim (λ z. subst (λ (r : Float). Rounded x r) (sym (root_of_zero x p z)) (zero_rounded x z))
    (λ h. let c = root_cut x f p h in
    record {
      finite = cut-plain (squared x) (root_of x) c;
      nearest = cut-nearest (squared x) (root_of x) c;
      even = cut-even (squared x) (root_of x) c;
    }) (eq-zero-or-pos (in_units x))

-- ---- a root of any kind is a binary64
plain_root_fits : (x : Float) → T (fits binary64 x) → T (plain x) → T (fits binary64 (root_of x))
plain_root_fits x f p =
    ⊎_elim (λ z. subst (λ (r : Float). T (fits binary64 r)) (sym (root_of_zero x p z)) (unfold fits in tt))
    (λ h. cut_fits (squared x) (root_of x) (root_cut x f p h)) (eq-zero-or-pos (in_units x))

pub root_fits : (x : Float) → T (fits binary64 x) → T (fits binary64 (root_of x))
unfolding root_of
root_fits nan f = nan-fits binary64
root_fits (inf false) f = inf-fits binary64 false
root_fits (inf true) f = nan-fits binary64
root_fits (fin true zero e) f = f
root_fits (fin true (suc m) e) f = nan-fits binary64
root_fits (fin false m e) f = plain_root_fits (fin false m e) f (unfold plain in tt)
