-- W as the machine keeps it: one more and one less fit a signed number of 64 bits, and what the tests of its bits against 0 and −1 say of it. Assumes nothing.
use Prim.Native.Nat.{ℕ, zero, suc, ◌+◌, ◌-◌, ◌≤◌, ◌<◌}
use mathlib.Core.Path.{◌≡◌, refl, sym, ap, ◌∙◌}
use mathlib.Core.Bool.{Bool, true, false, cond}
use native.Mathlib.Omega.{arith}
use lib.Dec.{ltb}
use lib.IntN.{ℤ, pos, negsuc, ◌+ℤ◌, ◌-ℤ◌}
use lib.Signed.{mag}
use mir.Syntax.{w64}
use mir.Val.{SFits, to_z, of_z}
use mir.Facts.{to_z-of_z}
use Rattle.geo.specs.declared.types.Point.{Point}
use Rattle.trial.specs.Traversal.{passes_by}

-- ---- one more and one less

either_sign : (b : Bool) (m n k : ℕ) → m ≤ k → n ≤ k → mag (cond b (negsuc m) (pos n)) ≤ k
either_sign true m n k p q = p
either_sign false m n k p q = q

pub more : (w : ℤ) (i : ℕ) → mag w ≤ i → mag (w +ℤ pos 1) ≤ i + 1
more (pos n) i a = omega arith
more (negsuc n) i a = either_sign (ltb 1 (suc n)) (suc n - 2) (1 - suc n) (i + 1) (omega arith) (omega arith)

pub less : (w : ℤ) (i : ℕ) → mag w ≤ i → mag (w -ℤ pos 1) ≤ i + 1
less (pos n) i a = either_sign (ltb n 1) (1 - suc n) (n - 1) (i + 1) (omega arith) (omega arith)
less (negsuc n) i a = omega arith

pub more-fits : (w : ℤ) → mag w < 2048 → SFits w64 (w +ℤ pos 1)
more-fits w a = let m = more w 2047 (omega arith) in record { sfits = omega arith }

pub less_fits : (w : ℤ) → mag w < 2048 → SFits w64 (w -ℤ pos 1)
less_fits w a = let m = less w 2047 (omega arith) in record { sfits = omega arith }

-- ---- the tests

pub is_zero : (w : ℤ) → SFits w64 w → of_z w64 w ≡ 0 → w ≡ pos 0
is_zero w f e = sym (to_z-of_z f) ∙ ap (to_z w64) e

pub is-minus-one : (w : ℤ) → SFits w64 w → of_z w64 w ≡ of_z w64 (negsuc 0) → w ≡ negsuc 0
is-minus-one w f e = sym (to_z-of_z f) ∙ ap (to_z w64) e

pub is_neither : (w : ℤ) (q0 q : Point) → (of_z w64 w ≡ 0 → ⊥) → (of_z w64 w ≡ of_z w64 (negsuc 0) → ⊥) → false ≡ passes_by w q0 q
unfolding passes_by
is_neither (pos zero) q0 q z m = absurd (z refl)
is_neither (pos (suc n)) q0 q z m = refl
is_neither (negsuc zero) q0 q z m = absurd (m refl)
is_neither (negsuc (suc n)) q0 q z m = refl
