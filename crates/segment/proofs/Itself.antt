-- What the format holds is rounded to itself, and is known by its sign and its value. Assumes nothing.
use mathlib.Core.Path.{◌≡◌, refl, sym, ap, ◌∙◌, subst}
use mathlib.Core.Bool.{Bool, false, cond}
use Prim.Native.Nat.{ℕ, zero, suc, ◌+◌, ◌-◌, ◌*◌, ◌/◌, ◌^◌, ◌<◌}
use native.Mathlib.Nat.{mul_right_comm, eq_of_mul-eq-mul_right}
use lib.Dec.{T}
use lib.IntN.{ℤ}
use lib.Ieee.{Float, nan, inf, fin, binary64, up, down, size, round, fits, to_bits, of_bits}
use lib.Ieee.Bits.{of_bits-to_bits}
use lib.Ieee.Fits.{down_pos, round-fits}
use lib.Ieee.Exact.{HasValue, round_exact}
use lib.Ieee.Nearest.{div_same}
use Rattle.floats.specs.Root.{in_units, plain}
use Rattle.floats.proofs.root.Read.{units_of_value, in_range}
use Rattle.floats.proofs.root.Nearest.{digits}

-- the sign does not matter to the format
unsigned-fits : (s : Bool) (m : ℕ) (e : ℤ) → T (fits binary64 (fin s m e)) → T (fits binary64 (fin false m e))
unfolding fits
unsigned-fits s zero e f = f
unsigned-fits s (suc m) e f = f

round_value : (s : Bool) (m : ℕ) (e : ℤ) → T (fits binary64 (fin s m e)) → HasValue (round binary64 s (m * up e) (down e)) s (m * up e) (down e)
unfolding in_units
round_value s m e f =
    let g = unsigned-fits s m e f in
    let D = digits (fin false m e) g (unfold plain in tt) in
    let u : in_units (fin false m e) ≡ D.t * 2 ^ D.j = units_of_value (fin false m e) (D.t * 2 ^ D.j) D.value in
    round_exact binary64 s (m * up e) (down e) D.t D.j (down_pos e) D.few (subst (λ (n : ℕ). n < 2 ^ 2098) u (in_range m e g)) D.value.1

-- two fractions that equal a / c
level_fractions : (x y dx dy a c : ℕ) → 0 < c → x * c ≡ a * dx → y * c ≡ a * dy → x * dy ≡ y * dx
level_fractions x y dx dy a c p h k =
    eq_of_mul-eq-mul_right c p (x * dy) (y * dx)
    (mul_right_comm x dy c ∙ ap (λ (z : ℕ). z * dy) h ∙ mul_right_comm a dx dy ∙ ap (λ (z : ℕ). z * dx) (sym k) ∙ mul_right_comm y c dx)

bits_same : (s : Bool) (m n : ℕ) (e d : ℤ) → m * up e * down d ≡ n * up d * down e → to_bits binary64 (fin s m e) ≡ to_bits binary64 (fin s n d)
unfolding to_bits
bits_same s m n e d h =
    let U = 2 ^ 1074 in
    let z : m * up e * U / down e ≡ n * up d * U / down d =
    div_same (m * up e * U) (down e) (n * up d * U) (down d) (down_pos e) (down_pos d)
    (mul_right_comm (m * up e) U (down d) ∙ ap (λ (k : ℕ). k * U) h ∙ mul_right_comm (n * up d) (down e) U) in
    ap (λ (k : ℕ). cond s 0x8000_0000_0000_0000 0 + (size k - 53) * 0x10_0000_0000_0000 + k / 2 ^ (size k - 53)) z

pub one_float : (x y : Float) (s : Bool) (a c : ℕ) → 0 < c → T (fits binary64 x) → T (fits binary64 y) → HasValue x s a c → HasValue y s a c → x ≡ y
one_float nan y s a c p f g h k = absurd h
one_float (inf t) y s a c p f g h k = absurd h
one_float (fin t m e) nan s a c p f g h k = absurd k
one_float (fin t m e) (inf u) s a c p f g h k = absurd k
one_float (fin t m e) (fin u n d) s a c p f g h k =
    let q : t ≡ u = h.0 ∙ sym k.0 in
    sym (of_bits-to_bits binary64 (fin t m e) f)
    ∙ ap (of_bits binary64) (bits_same t m n e d (level_fractions (m * up e) (n * up d) (down e) (down d) a c p h.1 k.1) ∙ ap (λ (v : Bool). to_bits binary64 (fin v n d)) q)
    ∙ of_bits-to_bits binary64 (fin u n d) g

-- A number that the format holds is rounded to itself.
pub round_itself : (s : Bool) (m : ℕ) (e : ℤ) → T (fits binary64 (fin s m e)) → round binary64 s (m * up e) (down e) ≡ fin s m e
round_itself s m e f =
    one_float (round binary64 s (m * up e) (down e)) (fin s m e) s (m * up e) (down e) (down_pos e) (round-fits binary64 s (m * up e) (down e)) f (round_value s m e f) (refl, refl)
