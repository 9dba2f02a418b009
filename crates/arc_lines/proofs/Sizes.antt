-- How small a sum or a product can come out: what rounding to nearest keeps of bounds from below. Assumes nothing.
use Prim.Native.Nat.{ℕ, ◌+◌, ◌-◌, ◌*◌, ◌^◌, ◌≤◌, ◌<◌}
use mathlib.Core.Path.{◌≡◌, refl, sym, ap, ◌∙◌, subst}
use mathlib.Core.Logic.{◌⊎◌, inl, inr, ⊎_elim}
use mathlib.Core.Bool.{Bool, true, false, not, ◌||◌, cond}
use native.Mathlib.Nat.{le_trans, le_of_eq, le_of_lt, mul-pos, mul_comm, mul_assoc, mul_right_comm, mul-le-mul, mul-le-mul_right, mul-mul-mul_comm, le_of_mul-le-mul_right, one-mul, add-mul, zero-mul, mul-sub}
use native.Mathlib.Omega.{arith}
use borrow.Author.Tests.{lt-ltb, le-ltb}
use lib.Dec.{ltb, lit<}
use lib.IntN.{ℤ, pos}
use lib.Pow.{pow-add, pow_pos, pow-lt, pow_mono}
use lib.Ieee.{Float, nan, inf, fin, binary64, up, down, round, sum, unlike, add, mul, neg, lt, le, eq, of_bits, of_int}
use lib.Ieee.Bits.{is_true}
use lib.Ieee.Fits.{down_pos}
use lib.Ieee.Exact.{HasValue, round_exact}
use lib.Ieee.Order.{round_mono}
use Rattle.floats.specs.Ops.{◌⊕◌, ◌⊗◌, ◌≺◌, +0}
use Rattle.floats.specs.Float.{is_minus}
use Rattle.floats.proofs.Order.{clash, lt_or_ge}
use Rattle.floats.proofs.Bounds.{Within, AtLeast, or_le, neg_within, round_within}
use Rattle.floats.proofs.Unsigned.{Plus, round_plus}
use Rattle.floats.proofs.float.Large.{neg_neg}
use Rattle.arc_lines.proofs.Signs.{round_neg, add_turned}

-- at most 2 ^ -l in size
abbrev pub Small : ℕ → Float → Type 0
Small l nan = ⊥
Small l (inf s) = ⊥
Small l (fin s m e) = m * up e * 2 ^ l ≤ down e

pub least_or_small : (l b : ℕ) (x : Float) → Within b x → AtLeast l x ⊎ Small l x
least_or_small l b nan w = absurd w
least_or_small l b (inf s) w = absurd w
least_or_small l b (fin s m e) w = ⊎_elim (λ h. inr (le_of_lt h)) inl (lt_or_ge (m * up e * 2 ^ l) (down e))

-- ---- rounding
unit_value : (l : ℕ) → l ≤ 1074 → HasValue (round binary64 false 1 (2 ^ l)) false 1 (2 ^ l)
unit_value l h =
    let z : 1074 - l + l ≡ 1074 = omega arith in
    let e : 1 * 2 ^ 1074 ≡ 1 * 2 ^ (1074 - l) * 2 ^ l =
    ap (λ (n : ℕ). 1 * 2 ^ n) (sym z) ∙ ap (λ (n : ℕ). 1 * n) (pow-add 2 (1074 - l) l) ∙ sym (mul_assoc 1 (2 ^ (1074 - l)) (2 ^ l)) in
    let g : 1074 - l < 2098 = omega arith in
    let o : 1 * 2 ^ (1074 - l) < 2 ^ 2098 = subst (λ (n : ℕ). n < 2 ^ 2098) (sym (one-mul (2 ^ (1074 - l)))) (pow-lt g) in
    round_exact binary64 false 1 (2 ^ l) 1 (1074 - l) (pow_pos l) (lit< tt) o e

-- what is at least 1 / 2 ^ l, as a value of the format, is at least 2 ^ -l
least_of_le : (l b : ℕ) (x y : Float) → HasValue x false 1 (2 ^ l) → Within b y → Plus y → le x y ≡ true → AtLeast l y
unfolding le lt eq
least_of_le l b nan y v w p h = absurd v
least_of_le l b (inf s) y v w p h = absurd v
least_of_le l b (fin s m e) nan v w p h = absurd w
least_of_le l b (fin s m e) (inf t) v w p h = absurd w
least_of_le l b (fin true m e) (fin t n d) v w p h = clash (sym v.0)
least_of_le l b (fin false m e) (fin true n d) v w p h = clash (sym p)
least_of_le l b (fin false m e) (fin false n d) v w p h =
    let k : m * up e * down d ≤ n * up d * down e = or_le (m * up e * down d) (n * up d * down e) _ h in
    let q : m * up e * 2 ^ l ≡ down e = v.1 ∙ one-mul (down e) in
    let a : m * up e * down d * 2 ^ l ≡ down d * down e = mul_right_comm (m * up e) (down d) (2 ^ l) ∙ ap (λ (z : ℕ). z * down d) q ∙ mul_comm (down e) (down d) in
    le_of_mul-le-mul_right (le_trans (le_of_eq (sym a)) (le_trans (mul-le-mul_right (2 ^ l) k) (le_of_eq (mul_right_comm (n * up d) (down e) (2 ^ l))))) (down_pos e)

pub neg_least : (l : ℕ) (x : Float) → AtLeast l x → AtLeast l (neg x)
unfolding neg
neg_least l nan h = h
neg_least l (inf s) h = h
neg_least l (fin s m e) h = h

plus-least : (n den l b : ℕ) → 0 < den → l ≤ 1074 → den ≤ n * 2 ^ l → Within b (round binary64 false n den) → AtLeast l (round binary64 false n den)
plus-least n den l b D o h w =
    least_of_le l b (round binary64 false 1 (2 ^ l)) (round binary64 false n den) (unit_value l o) w (round_plus n den)
    (is_true _ (round_mono binary64 1 (2 ^ l) n den (pow_pos l) D (le_trans (le_of_eq (one-mul den)) h)))

pub round_least : (s : Bool) (n den l b : ℕ) → 0 < den → l ≤ 1074 → den ≤ n * 2 ^ l → Within b (round binary64 s n den) → AtLeast l (round binary64 s n den)
round_least false n den l b D o h w = plus-least n den l b D o h w
round_least true n den l b D o h w =
    let e : round binary64 true n den ≡ neg (round binary64 false n den) = round_neg false n den in
    let f : neg (round binary64 true n den) ≡ round binary64 false n den = ap neg e ∙ neg_neg (round binary64 false n den) in
    let v : Within b (round binary64 false n den) = subst (λ (z : Float). Within b z) f (neg_within b (round binary64 true n den) w) in
    subst (λ (z : Float). AtLeast l z) (sym e) (neg_least l (round binary64 false n den) (plus-least n den l b D o h v))

-- ---- products
pub mul_least : (j k b : ℕ) (x y : Float) → j + k ≤ 1074 → AtLeast j x → AtLeast k y → Within b (x ⊗ y) → AtLeast (j + k) (x ⊗ y)
unfolding mul
mul_least j k b nan y o h g w = absurd h
mul_least j k b (inf s) y o h g w = absurd h
mul_least j k b (fin s m e) nan o h g w = absurd g
mul_least j k b (fin s m e) (inf t) o h g w = absurd g
mul_least j k b (fin s m e) (fin t n d) o h g w =
    let q : m * up e * 2 ^ j * (n * up d * 2 ^ k) ≡ m * up e * (n * up d) * 2 ^ (j + k) =
    mul-mul-mul_comm (m * up e) (2 ^ j) (n * up d) (2 ^ k) ∙ ap (λ (z : ℕ). m * up e * (n * up d) * z) (sym (pow-add 2 j k)) in
    round_least (unlike s t) (m * up e * (n * up d)) (down e * down d) (j + k) b (mul-pos (down_pos e) (down_pos d)) o (le_trans (mul-le-mul h g) (le_of_eq q)) w

-- ---- sums
-- what is 2 ^ -l or more in size keeps half of it whatever is added that is a quarter of it or less
apart_sizes : (x y de dd L : ℕ) → 0 < L → de ≤ x * L → y * (L * 4) ≤ dd → (y * de ≤ x * dd) × (de * dd ≤ (x * dd - y * de) * (L * 2))
apart_sizes x y de dd L p h g =
    let A = x * dd in
    let B = y * de in
    let a : de * dd ≤ A * L = le_trans (mul-le-mul_right dd h) (le_of_eq (mul_right_comm x L dd)) in
    let b : B * L * 4 ≤ de * dd =
    le_trans (le_of_eq (mul_assoc B L 4 ∙ mul_right_comm y de (L * 4))) (le_trans (mul-le-mul_right de g) (le_of_eq (mul_comm dd de))) in
    let c : (A - B) * (L * 2) ≡ A * L * 2 - B * L * 2 =
    mul_comm (A - B) (L * 2) ∙ mul-sub (L * 2) A B ∙ ap (λ (z : ℕ). z - L * 2 * B) (mul_comm (L * 2) A ∙ sym (mul_assoc A L 2))
    ∙ ap (λ (z : ℕ). A * L * 2 - z) (mul_comm (L * 2) B ∙ sym (mul_assoc B L 2)) in
    let k : B * L ≤ A * L = omega arith in
    (le_of_mul-le-mul_right k p, le_trans (omega arith) (le_of_eq (sym c)))

-- ±a / c + ±b / c of two signs, where b is at most a
minus_plus : (a b c : ℕ) → b ≤ a → sum binary64 true a false b c ≡ round binary64 (ltb b a) (a - b) c
unfolding sum
minus_plus a b c h = ap (λ (z : Bool). cond z (round binary64 false (b - a) c) (round binary64 (ltb b a) (a - b) c)) (le-ltb a b h)

plus-minus : (a b c : ℕ) → b ≤ a → sum binary64 false a true b c ≡ round binary64 false (a - b) c
unfolding sum
plus-minus a b c h = ap (λ (z : Bool). cond z (round binary64 true (b - a) c) (round binary64 false (a - b) c)) (le-ltb a b h)

sum_larger : (s t : Bool) (a b c l w : ℕ) → 0 < c → l ≤ 1074 → b ≤ a → c ≤ (a - b) * 2 ^ l → Within w (sum binary64 s a t b c) → AtLeast l (sum binary64 s a t b c)
sum_larger true true a b c l w C o h g v = unfold sum in round_least true (a + b) c l w C o (le_trans g (mul-le-mul_right (2 ^ l) (omega arith))) v
sum_larger false false a b c l w C o h g v = unfold sum in round_least false (a + b) c l w C o (le_trans g (mul-le-mul_right (2 ^ l) (omega arith))) v
sum_larger true false a b c l w C o h g v =
    let e = minus_plus a b c h in
    subst (λ (z : Float). AtLeast l z) (sym e) (round_least (ltb b a) (a - b) c l w C o g (subst (λ (z : Float). Within w z) e v))
sum_larger false true a b c l w C o h g v =
    let e = plus-minus a b c h in
    subst (λ (z : Float). AtLeast l z) (sym e) (round_least false (a - b) c l w C o g (subst (λ (z : Float). Within w z) e v))

two-more : (l : ℕ) → 2 ^ (l + 2) ≡ 2 ^ l * 4
two-more l = pow-add 2 l 2

one_more : (l : ℕ) → 2 ^ (l + 1) ≡ 2 ^ l * 2
one_more l = pow-add 2 l 1

pub add_apart : (l b : ℕ) (x y : Float) → l + 1 ≤ 1074 → AtLeast l x → Small (l + 2) y → Within b (x ⊕ y) → AtLeast (l + 1) (x ⊕ y)
unfolding add
add_apart l b nan y o h g w = absurd h
add_apart l b (inf s) y o h g w = absurd h
add_apart l b (fin s m e) nan o h g w = absurd g
add_apart l b (fin s m e) (inf t) o h g w = absurd g
add_apart l b (fin s m e) (fin t n d) o h g w =
    let q = apart_sizes (m * up e) (n * up d) (down e) (down d) (2 ^ l) (pow_pos l) h (subst (λ (z : ℕ). n * up d * z ≤ down d) (two-more l) g) in
    sum_larger s t (m * up e * down d) (n * up d * down e) (down e * down d) (l + 1) b (mul-pos (down_pos e) (down_pos d)) o q.0
    (subst (λ (z : ℕ). down e * down d ≤ (m * up e * down d - n * up d * down e) * z) (sym (one_more l)) q.1) w

-- numbers of one sign: the sum is not smaller than the first
pub add_alike : (l b : ℕ) (s : Bool) (m n : ℕ) (e d : ℤ) → l ≤ 1074 → AtLeast l (fin s m e) → Within b (fin s m e ⊕ fin s n d) → AtLeast l (fin s m e ⊕ fin s n d)
unfolding add sum
add_alike l b true m n e d o h w =
    round_least true (m * up e * down d + n * up d * down e) (down e * down d) l b (mul-pos (down_pos e) (down_pos d)) o
    (le_trans (mul-le-mul_right (down d) h) (le_trans (le_of_eq (mul_right_comm (m * up e) (2 ^ l) (down d))) (mul-le-mul_right (2 ^ l) (omega arith)))) w
add_alike l b false m n e d o h w =
    round_least false (m * up e * down d + n * up d * down e) (down e * down d) l b (mul-pos (down_pos e) (down_pos d)) o
    (le_trans (mul-le-mul_right (down d) h) (le_trans (le_of_eq (mul_right_comm (m * up e) (2 ^ l) (down d))) (mul-le-mul_right (2 ^ l) (omega arith)))) w

-- ---- what is not zero lies beside it
pub size_pos : (l x c : ℕ) → 0 < c → c ≤ x * 2 ^ l → 0 < x
size_pos l x c C h =
    ⊎_elim (λ p. p) (λ z. let e : x ≡ 0 = omega arith in let k : x * 2 ^ l ≡ 0 = ap (λ (n : ℕ). n * 2 ^ l) e ∙ zero-mul (2 ^ l) in absurd (omega arith)) (lt_or_ge 0 x)

or_first : (p q : Bool) → p ≡ true → (p || q) ≡ true
or_first p q h = rw h

pub beside : (l : ℕ) (x : Float) → AtLeast l x → ((+0 ≺ x) || (x ≺ +0)) ≡ true
unfolding lt of_bits
beside l nan h = absurd h
beside l (inf s) h = absurd h
beside l (fin true m e) h = let p = size_pos l (m * up e) (down e) (down_pos e) h in lt-ltb 0 (m * up e * 1 + 0 * 1 * down e) (omega arith)
beside l (fin false m e) h =
    let p = size_pos l (m * up e) (down e) (down_pos e) h in
    let z : 0 * 1 * down e ≡ 0 = ap (λ (n : ℕ). n * down e) (zero-mul 1) ∙ zero-mul (down e) in
    or_first (ltb (0 * 1 * down e) (m * up e * 1)) (ltb (m * up e * 1) (0 * 1 * down e)) (lt-ltb (0 * 1 * down e) (m * up e * 1) (rw z (omega arith)))

-- ---- a vector with a length has a large number
-- what is small, as a value of the format, is at most 2 ^ -l
small_le : (l b n den : ℕ) → 0 < den → n * 2 ^ l ≤ den → l ≤ 1074 → le (round binary64 false n den) (round binary64 false 1 (2 ^ l)) ≡ true
small_le l b n den D h o = is_true _ (round_mono binary64 n den 1 (2 ^ l) D (pow_pos l) (le_trans h (le_of_eq (sym (one-mul den)))))

small_of_le : (l b : ℕ) (x y : Float) → HasValue x false 1 (2 ^ l) → Within b y → Plus y → le y x ≡ true → Small l y
unfolding le lt eq
small_of_le l b nan y v w p h = absurd v
small_of_le l b (inf s) y v w p h = absurd v
small_of_le l b (fin s m e) nan v w p h = absurd w
small_of_le l b (fin s m e) (inf t) v w p h = absurd w
small_of_le l b (fin true m e) (fin t n d) v w p h = clash (sym v.0)
small_of_le l b (fin false m e) (fin true n d) v w p h = clash (sym p)
small_of_le l b (fin false m e) (fin false n d) v w p h =
    let k : n * up d * down e ≤ m * up e * down d = or_le (n * up d * down e) (m * up e * down d) _ h in
    let q : m * up e * 2 ^ l ≡ down e = v.1 ∙ one-mul (down e) in
    let a : m * up e * down d * 2 ^ l ≡ down d * down e = mul_right_comm (m * up e) (down d) (2 ^ l) ∙ ap (λ (z : ℕ). z * down d) q ∙ mul_comm (down e) (down d) in
    le_of_mul-le-mul_right (le_trans (le_of_eq (mul_right_comm (n * up d) (2 ^ l) (down e))) (le_trans (mul-le-mul_right (2 ^ l) k) (le_of_eq a))) (down_pos e)

pub neg_small : (l : ℕ) (x : Float) → Small l x → Small l (neg x)
unfolding neg
neg_small l nan h = h
neg_small l (inf s) h = h
neg_small l (fin s m e) h = h

plus_small : (n den l b : ℕ) → 0 < den → l ≤ 1074 → n * 2 ^ l ≤ den → Within b (round binary64 false n den) → Small l (round binary64 false n den)
plus_small n den l b D o h w = small_of_le l b (round binary64 false 1 (2 ^ l)) (round binary64 false n den) (unit_value l o) w (round_plus n den) (small_le l b n den D h o)

round_small : (s : Bool) (n den l b : ℕ) → 0 < den → l ≤ 1074 → n * 2 ^ l ≤ den → Within b (round binary64 s n den) → Small l (round binary64 s n den)
round_small false n den l b D o h w = plus_small n den l b D o h w
round_small true n den l b D o h w =
    let e : round binary64 true n den ≡ neg (round binary64 false n den) = round_neg false n den in
    let f : neg (round binary64 true n den) ≡ round binary64 false n den = ap neg e ∙ neg_neg (round binary64 false n den) in
    let v : Within b (round binary64 false n den) = subst (λ (z : Float). Within b z) f (neg_within b (round binary64 true n den) w) in
    subst (λ (z : Float). Small l z) (sym e) (neg_small l (round binary64 false n den) (plus_small n den l b D o h v))

pub mul_small : (j k b : ℕ) (x y : Float) → j + k ≤ 1074 → Small j x → Small k y → Within b (x ⊗ y) → Small (j + k) (x ⊗ y)
unfolding mul
mul_small j k b nan y o h g w = absurd h
mul_small j k b (inf s) y o h g w = absurd h
mul_small j k b (fin s m e) nan o h g w = absurd g
mul_small j k b (fin s m e) (inf t) o h g w = absurd g
mul_small j k b (fin s m e) (fin t n d) o h g w =
    let q : m * up e * (n * up d) * 2 ^ (j + k) ≡ m * up e * 2 ^ j * (n * up d * 2 ^ k) =
    ap (λ (z : ℕ). m * up e * (n * up d) * z) (pow-add 2 j k) ∙ mul-mul-mul_comm (m * up e) (n * up d) (2 ^ j) (2 ^ k) in
    round_small (unlike s t) (m * up e * (n * up d)) (down e * down d) (j + k) b (mul-pos (down_pos e) (down_pos d)) o (le_trans (le_of_eq q) (mul-le-mul h g)) w

-- signs
abbrev pub SignIs : Bool → Float → Type 0
SignIs s nan = ⊥
SignIs s (inf t) = ⊥
SignIs s (fin t m e) = t ≡ s

plus-sign : (b : ℕ) (x : Float) → Within b x → Plus x → SignIs false x
plus-sign b nan w p = absurd w
plus-sign b (inf s) w p = absurd w
plus-sign b (fin s m e) w p = p

pub neg_sign : (s : Bool) (x : Float) → SignIs s x → SignIs (not s) (neg x)
unfolding neg
neg_sign s nan h = h
neg_sign s (inf t) h = h
neg_sign s (fin t m e) h = ap not h

pub round_sign : (s : Bool) (n den b : ℕ) → Within b (round binary64 s n den) → SignIs s (round binary64 s n den)
round_sign false n den b w = plus-sign b (round binary64 false n den) w (round_plus n den)
round_sign true n den b w =
    let e : round binary64 true n den ≡ neg (round binary64 false n den) = round_neg false n den in
    let f : neg (round binary64 true n den) ≡ round binary64 false n den = ap neg e ∙ neg_neg (round binary64 false n den) in
    let v : Within b (round binary64 false n den) = subst (λ (z : Float). Within b z) f (neg_within b (round binary64 true n den) w) in
    subst (λ (z : Float). SignIs true z) (sym e) (neg_sign false (round binary64 false n den) (plus-sign b (round binary64 false n den) v (round_plus n den)))

pub mul_sign : (b : ℕ) (s t : Bool) (x y : Float) → SignIs s x → SignIs t y → Within b (x ⊗ y) → SignIs (unlike s t) (x ⊗ y)
unfolding mul
mul_sign b s t nan y h g w = absurd h
mul_sign b s t (inf u) y h g w = absurd h
mul_sign b s t (fin u m e) nan h g w = absurd g
mul_sign b s t (fin u m e) (inf v) h g w = absurd g
mul_sign b s t (fin u m e) (fin v n d) h g w =
    let q : unlike u v ≡ unlike s t = ap (λ (z : Bool). unlike z v) h ∙ ap (λ (z : Bool). unlike s z) g in
    subst (λ (z : Bool). SignIs z (round binary64 (unlike u v) (m * up e * (n * up d)) (down e * down d))) q (round_sign (unlike u v) (m * up e * (n * up d)) (down e * down d) b w)

pub sum_alike : (l b : ℕ) (s : Bool) (x y : Float) → l ≤ 1074 → SignIs s x → SignIs s y → AtLeast l x → Within b (x ⊕ y) → AtLeast l (x ⊕ y)
sum_alike l b s nan y o h g a w = absurd h
sum_alike l b s (inf t) y o h g a w = absurd h
sum_alike l b s (fin t m e) nan o h g a w = absurd g
sum_alike l b s (fin t m e) (inf u) o h g a w = absurd g
sum_alike l b s (fin t m e) (fin u n d) o h g a w =
    let q : u ≡ t = g ∙ sym h in
    let f : fin u n d ≡ fin t n d = ap (λ (z : Bool). fin z n d) q in
    subst (λ (z : Float). AtLeast l (fin t m e ⊕ z)) (sym f) (add_alike l b t m n e d o a (subst (λ (z : Float). Within b (fin t m e ⊕ z)) f w))

pub turned-least : (l : ℕ) (x y : Float) → AtLeast l (y ⊕ x) → AtLeast l (x ⊕ y)
turned-least l x y h = subst (λ (z : Float). AtLeast l z) (add_turned y x) h

-- the sum's sign: that of both, or that of the larger
pub sum_sign : (b : ℕ) (s : Bool) (x y : Float) → SignIs s x → SignIs s y → Within b (x ⊕ y) → SignIs s (x ⊕ y)
unfolding add sum
sum_sign b s nan y h g w = absurd h
sum_sign b s (inf t) y h g w = absurd h
sum_sign b s (fin t m e) nan h g w = absurd g
sum_sign b s (fin t m e) (inf u) h g w = absurd g
sum_sign b true (fin true m e) (fin true n d) h g w = round_sign true (m * up e * down d + n * up d * down e) (down e * down d) b w
sum_sign b true (fin true m e) (fin false n d) h g w = clash (g)
sum_sign b true (fin false m e) (fin u n d) h g w = clash (h)
sum_sign b false (fin true m e) (fin u n d) h g w = clash (sym h)
sum_sign b false (fin false m e) (fin true n d) h g w = clash (sym g)
sum_sign b false (fin false m e) (fin false n d) h g w = round_sign false (m * up e * down d + n * up d * down e) (down e * down d) b w

larger_sign : (s t : Bool) (a b c w : ℕ) → b < a → Within w (sum binary64 s a t b c) → SignIs s (sum binary64 s a t b c)
larger_sign true true a b c w h v = unfold sum in round_sign true (a + b) c w v
larger_sign false false a b c w h v = unfold sum in round_sign false (a + b) c w v
larger_sign true false a b c w h v =
    let e : sum binary64 true a false b c ≡ round binary64 true (a - b) c = minus_plus a b c (le_of_lt h) ∙ ap (λ (z : Bool). round binary64 z (a - b) c) (lt-ltb b a h) in
    subst (λ (z : Float). SignIs true z) (sym e) (round_sign true (a - b) c w (subst (λ (z : Float). Within w z) e v))
larger_sign false true a b c w h v =
    let e = plus-minus a b c (le_of_lt h) in
    subst (λ (z : Float). SignIs false z) (sym e) (round_sign false (a - b) c w (subst (λ (z : Float). Within w z) e v))

more_than : (a b c L : ℕ) → 0 < c → b ≤ a → c ≤ (a - b) * L → b < a
more_than a b c L C h g =
    ⊎_elim (λ l. l) (λ l. let z : a - b ≡ 0 = omega arith in let y : (a - b) * L ≡ 0 = ap (λ (n : ℕ). n * L) z ∙ zero-mul L in absurd (omega arith)) (lt_or_ge b a)

pub apart_sign : (l b : ℕ) (s : Bool) (x y : Float) → SignIs s x → AtLeast l x → Small (l + 2) y → Within b (x ⊕ y) → SignIs s (x ⊕ y)
unfolding add
apart_sign l b s nan y i h g w = absurd h
apart_sign l b s (inf t) y i h g w = absurd h
apart_sign l b s (fin t m e) nan i h g w = absurd g
apart_sign l b s (fin t m e) (inf u) i h g w = absurd g
apart_sign l b s (fin t m e) (fin u n d) i h g w =
    let x = m * up e * down d in
    let y = n * up d * down e in
    let c = down e * down d in
    let q = apart_sizes (m * up e) (n * up d) (down e) (down d) (2 ^ l) (pow_pos l) h (subst (λ (z : ℕ). n * up d * z ≤ down d) (two-more l) g) in
    subst (λ (z : Bool). SignIs z (sum binary64 t x u y c)) i (larger_sign t u x y c b (more_than x y c (2 ^ l * 2) (mul-pos (down_pos e) (down_pos d)) q.0 q.1) w)

-- what has a minus sign, and a size, lies below zero
pub under_zero : (l : ℕ) (x : Float) → AtLeast l x → SignIs true x → (x ≺ +0) ≡ true
unfolding lt of_bits
under_zero l nan h s = absurd h
under_zero l (inf t) h s = absurd h
under_zero l (fin true m e) h s = let p = size_pos l (m * up e) (down e) (down_pos e) h in lt-ltb 0 (m * up e * 1 + 0 * 1 * down e) (omega arith)
under_zero l (fin false m e) h s = clash s

pub sign-is : (b : ℕ) (x : Float) → Within b x → SignIs (is_minus x) x
unfolding is_minus
sign-is b nan w = absurd w
sign-is b (inf s) w = absurd w
sign-is b (fin s m e) w = refl

pub sign_of : (b : ℕ) (x : Float) → Within b x → SignIs true x ⊎ SignIs false x
sign_of b nan w = absurd w
sign_of b (inf s) w = absurd w
sign_of b (fin true m e) w = inl refl
sign_of b (fin false m e) w = inr refl

pub least_more : (j k : ℕ) (x : Float) → j ≤ k → AtLeast j x → AtLeast k x
least_more j k nan l h = h
least_more j k (inf s) l h = h
least_more j k (fin s m e) l h = le_trans h (le_trans (le_of_eq (mul_comm (m * up e) (2 ^ j))) (le_trans (mul-le-mul_right (m * up e) (pow_mono l)) (le_of_eq (mul_comm (2 ^ k) (m * up e)))))

pub small_less : (j k : ℕ) (x : Float) → j ≤ k → Small k x → Small j x
small_less j k nan l h = h
small_less j k (inf s) l h = h
small_less j k (fin s m e) l h = le_trans (le_of_eq (mul_comm (m * up e) (2 ^ j))) (le_trans (mul-le-mul_right (m * up e) (pow_mono l)) (le_trans (le_of_eq (mul_comm (2 ^ k) (m * up e))) h))

-- ---- the sum of two squares
-- 2 ^ -l as the format has it
abbrev pub unit : ℕ → Float
unit l = round binary64 false 1 (2 ^ l)

half_sizes : (x y de dd L : ℕ) → x * (L * 2) ≤ de → y * (L * 2) ≤ dd → (x * dd + y * de) * L ≤ de * dd
half_sizes x y de dd L h g =
    let a : x * dd * L * 2 ≤ de * dd = le_trans (le_of_eq (mul_assoc (x * dd) L 2 ∙ mul_right_comm x dd (L * 2))) (mul-le-mul_right dd h) in
    let b : y * de * L * 2 ≤ de * dd = le_trans (le_of_eq (mul_assoc (y * de) L 2 ∙ mul_right_comm y de (L * 2))) (le_trans (mul-le-mul_right de g) (le_of_eq (mul_comm dd de))) in
    let c : (x * dd + y * de) * L ≡ x * dd * L + y * de * L = add-mul (x * dd) (y * de) L in
    le_trans (le_of_eq c) (omega arith)

-- two numbers without a minus sign, each at most half of 2 ^ -l
pub small_sum : (l : ℕ) (x y : Float) → l ≤ 1074 → SignIs false x → SignIs false y → Small (l + 1) x → Small (l + 1) y → le (x ⊕ y) (unit l) ≡ true
unfolding add sum
small_sum l nan y o h g a b = absurd h
small_sum l (inf t) y o h g a b = absurd h
small_sum l (fin t m e) nan o h g a b = absurd g
small_sum l (fin t m e) (inf u) o h g a b = absurd g
small_sum l (fin true m e) (fin u n d) o h g a b = clash (sym h)
small_sum l (fin false m e) (fin true n d) o h g a b = clash (sym g)
small_sum l (fin false m e) (fin false n d) o h g a b =
    small_le l 0 (m * up e * down d + n * up d * down e) (down e * down d) (mul-pos (down_pos e) (down_pos d))
    (half_sizes (m * up e) (n * up d) (down e) (down d) (2 ^ l) (subst (λ (z : ℕ). m * up e * z ≤ down e) (one_more l) a) (subst (λ (z : ℕ). n * up d * z ≤ down d) (one_more l) b)) o

-- a count is not below 1
pub whole-least : (n : ℕ) → 1 ≤ n → n ≤ 4096 → AtLeast 0 (of_int binary64 (pos n))
unfolding of_int
whole-least n h f = plus-least n 1 0 (1 * 2 ^ 12) (omega arith) (omega arith) (omega arith) (round_within false n 1 1 12 (omega arith) (omega arith) (lit< tt) (omega arith))
