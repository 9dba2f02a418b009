-- Two thousandths of at most ten digits have different floats: between v/1000 and (v + 1)/1000 lie two multiples of 1/2048, which are floats, and rounding keeps
-- the order. Assumes nothing.
use Prim.Native.Nat.{ℕ, zero, suc, ◌+◌, ◌-◌, ◌*◌, ◌/◌, ◌%◌, ◌^◌, ◌≤◌, ◌<◌, compare}
use mathlib.Core.Path.{◌≡◌, refl, sym, ap, ◌∙◌, subst}
use mathlib.Core.Logic.{◌⊎◌, inl, inr}
use mathlib.Core.Bool.{Bool, true, false, cond, true≢false}
use native.Mathlib.Nat.{mul_assoc, lt_of_lt_of_le}
use native.Mathlib.Omega.{arith}
use lib.Dec.{T, ltb, lit<, lit≤}
use lib.Pow.{shl_lt, pow_mono}
use lib.IntN.{pos, negsuc}
use lib.Ieee.{Float, nan, inf, fin, binary64, prec, emax, low, size, nearest, odd, units, round, le}
use lib.Ieee.Exact.{HasValue, round_exact}
use lib.Ieee.Order.{round_mono}
use lib.Ieee.Positive.{positive, positive_of_value, between, le_trans_positive, values_of_le}
use Rattle.floats.specs.Float.{abs_of}
use Rattle.floats.proofs.Order.{lt_or_ge}
use Rattle.svg_text.specs.Thousandths.{float_of, OneNumber}

-- ---- the sign is what `round` is given, and the rest does not depend on it
abbrev minus : Float → Bool
minus nan = false
minus (inf s) = s
minus (fin s m e) = s

odd_sign : (d : ℕ) (s : Bool) (q k l : ℕ) → (minus (odd d s q k l) ≡ s) × (abs_of (odd d s q k l) ≡ odd d false q k l)
unfolding odd abs_of
odd_sign d s zero k l = (refl, refl)
odd_sign d s (suc q) k l = (refl, refl)

units-sign : (s : Bool) (q k : ℕ) → (minus (units binary64 s q k) ≡ s) × (abs_of (units binary64 s q k) ≡ units binary64 false q k)
unfolding units abs_of
units-sign s q k = go (ltb (q * 2 ^ k) (2 ^ (low binary64 + suc (emax binary64))))
  where
    go : (b : Bool)
        → (minus (cond b (odd 54 s q k 1074) (inf s)) ≡ s) × (abs_of (cond b (odd 54 s q k 1074) (inf s)) ≡ cond b (odd 54 false q k 1074) (inf false))
    go true = odd_sign 54 s q k 1074
    go false = (refl, refl)

round_sign : (s : Bool) (a b : ℕ) → (minus (round binary64 s a b) ≡ s) × (abs_of (round binary64 s a b) ≡ round binary64 false a b)
unfolding round
round_sign s a b =
    let n = a * 2 ^ low binary64 in
    let k = size (n / b) - prec binary64 in
    let u = b * 2 ^ k in
    units-sign s (nearest (n / u) (compare (n % u * 2) u)) k

-- ---- multiples of 1/2048 are floats
grid : (k : ℕ) → k < 2 ^ 53 → HasValue (round binary64 false k 2048) false k 2048
grid k h =
    round_exact binary64 false k 2048 k 1063 (lit< tt) h (lt_of_lt_of_le (shl_lt 53 1063 h) (pow_mono {i = 1116} {j = 2098} (lit≤ tt)))
    (sym (mul_assoc k (2 ^ 1063) 2048))

-- ---- without signs
no_less : (k : ℕ) → (k + 1) * 2048 ≤ k * 2048 → ⊥
no_less k h = omega arith

between-two : (v w k : ℕ) → v < w → v * 2048 ≤ k * 1000 → (k + 1) * 1000 ≤ w * 2048 → 0 < k → k + 1 < 2 ^ 53 → round binary64 false v 1000 ≡ round binary64 false w 1000 → ⊥
between-two v w k h a b p q e =
    let x = round binary64 false v 1000 in
    let below = round binary64 false k 2048 in
    let above = round binary64 false (k + 1) 2048 in
    let is_below : HasValue below false k 2048 = grid k (omega arith) in
    let is-above : HasValue above false (k + 1) 2048 = grid (k + 1) q in
    let pb : T (positive below) = positive_of_value below k 2048 is_below p in
    let pa : T (positive above) = positive_of_value above (k + 1) 2048 is-above (omega arith) in
    let lo : T (le x below) = round_mono binary64 v 1000 k 2048 (lit< tt) (lit< tt) a in
    let hi : T (le above x) = subst (λ (z : Float). T (le above z)) (sym e) (round_mono binary64 (k + 1) 2048 w 1000 (lit< tt) (lit< tt) b) in
    let px : T (positive x) = between above x below pa pb hi lo in
    no_less k (values_of_le above below (k + 1) 2048 k 2048 pa pb is-above is_below (le_trans_positive above x below pa px pb hi lo))

apart : (v w : ℕ) → v < w → v ≤ 9999999999 → round binary64 false v 1000 ≡ round binary64 false w 1000 → ⊥
apart v w h m e =
    let k = v * 2048 / 1000 + 1 in
    between-two v w k h (omega arith) (omega arith) (omega arith) (omega arith) e

pub same_size : (v w : ℕ) → v ≤ 9999999999 → w ≤ 9999999999 → round binary64 false v 1000 ≡ round binary64 false w 1000 → v ≡ w
same_size v w a b e = go (lt_or_ge v w) (lt_or_ge w v)
  where
    go : (v < w) ⊎ (w ≤ v) → (w < v) ⊎ (v ≤ w) → v ≡ w
    go (inl h) q = absurd (apart v w h a e)
    go (inr h) (inl g) = absurd (apart w v g b (sym e))
    go (inr h) (inr g) = omega arith

-- ---- with signs
signs : (s t : Bool) (v w : ℕ) → round binary64 s v 1000 ≡ round binary64 t w 1000 → (s ≡ t) × (round binary64 false v 1000 ≡ round binary64 false w 1000)
signs s t v w e = (
  sym (round_sign s v 1000).0 ∙ ap minus e ∙ (round_sign t w 1000).0,
  sym (round_sign s v 1000).1 ∙ ap abs_of e ∙ (round_sign t w 1000).1,
)

-- Two numbers of ten digits that have the same float are the same.
pub one_number : OneNumber
unfolding float_of
one_number (pos v) (pos w) a b e = ap pos (same_size v w a b e)
one_number (pos v) (negsuc w) a b e = absurd (true≢false (sym (signs false true v (suc w) e).0))
one_number (negsuc v) (pos w) a b e = absurd (true≢false (signs true false (suc v) w e).0)
one_number (negsuc v) (negsuc w) a b e = let h : suc v ≡ suc w = same_size (suc v) (suc w) a b (signs true true (suc v) (suc w) e).1 in let g : v ≡ w = omega arith in ap negsuc g
