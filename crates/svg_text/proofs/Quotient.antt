-- The code's one division gives the float of a thousandth: the whole number and 1000 are exact, and `div` rounds their quotient once. Assumes nothing.
use Prim.Native.Nat.{ℕ, suc, ◌*◌, ◌<◌}
use mathlib.Core.Path.{◌≡◌, refl, sym, ◌∙◌, subst}
use mathlib.Core.Bool.{Bool, true, false}
use native.Mathlib.Nat.{mul-one, mul_comm, mul_assoc, mul_left_comm, mul-pos}
use native.Mathlib.Omega.{arith}
use borrow.Author.Tests.{ne_eqb}
use lib.Dec.{eqb, lit<, lit≤}
use lib.IntN.{pos, negsuc}
use lib.Ieee.{Float, nan, inf, fin, binary64, up, down, unlike, size, span, climb, odd, units, round, div, of_int, of_bits, of_fields}
use lib.Count.{count_trailing_zeros}
use lib.Ieee.Fits.{down_pos}
use lib.Ieee.Exact.{HasValue}
use lib.Ieee.Scale.{round_same}
use lib.Ieee.Back.{round_whole}
use lib.Ieee.Positive.{first_pos}
use Rattle.floats.specs.Limits.{thousand}
use Rattle.svg_text.specs.Thousandths.{float_of, OneDivision}

-- m·up e = a·down e and n·up d = c·down d, so the quotient's fraction is a/c
cross : (X de Y dd a c : ℕ) → X * 1 ≡ a * de → Y * 1 ≡ c * dd → X * dd * c ≡ a * (Y * de)
cross X de Y dd a c p q =
    let x : X ≡ a * de = sym (mul-one X) ∙ p in
    let y : Y ≡ c * dd = sym (mul-one Y) ∙ q in
    rw (x, y) (simp (mul_assoc, mul_comm, mul_left_comm))

plus : (s : Bool) → unlike s false ≡ s
plus true = refl
plus false = refl

-- the quotient of two whole numbers that are exact
pub div_whole : (x y : Float) (s : Bool) (a c : ℕ) → 0 < c → HasValue x s a 1 → HasValue y false c 1 → div binary64 x y ≡ round binary64 s a c
unfolding div
div_whole nan y s a c C p q = absurd p
div_whole (inf t) y s a c C p q = absurd p
div_whole (fin t m e) nan s a c C p q = absurd q
div_whole (fin t m e) (inf u) s a c C p q = absurd q
div_whole (fin t m e) (fin u n d) s a c C p q =
    let N : 0 < n * up d * 1 = subst (λ (z : ℕ). 0 < z) (sym q.1) (mul-pos C (down_pos d)) in
    let M : 0 < n * up d = first_pos (n * up d) 1 N in
    let z : eqb n 0 ≡ false = ne_eqb n 0 (λ h. let g : 0 < n = first_pos n (up d) M in omega arith) in
    let same : round binary64 s (m * up e * down d) (n * up d * down e) ≡ round binary64 s a c =
    round_same binary64 s (m * up e * down d) (n * up d * down e) a c (mul-pos M (down_pos e)) C (cross (m * up e) (down e) (n * up d) (down d) a c p.1 q.1) in
    rw (z, p.0, q.0, plus s) same

thousand-is : round binary64 false 1000 1 ≡ thousand
unfolding of_bits of_fields odd round units size span climb count_trailing_zeros
thousand-is = refl

thousand-value : HasValue thousand false 1000 1
thousand-value = subst (λ (x : Float). HasValue x false 1000 1) thousand-is (round_whole binary64 false 1000 (lit≤ tt))

-- The code's division.
pub one_division : OneDivision
unfolding float_of of_int
one_division (pos v) h = div_whole (round binary64 false v 1) thousand false v 1000 (lit< tt) (round_whole binary64 false v (omega arith)) thousand-value
one_division (negsuc v) h = div_whole (round binary64 true (suc v) 1) thousand true (suc v) 1000 (lit< tt) (round_whole binary64 true (suc v) (omega arith)) thousand-value
