-- At most c from zero is from -c to c. Assumes nothing.
use Prim.Native.Nat.{ℕ, suc, ◌+◌, ◌*◌, ◌<◌}
use mathlib.Core.Path.{◌≡◌, refl, sym, ap, ◌∙◌}
use mathlib.Core.Logic.{⊎_elim}
use mathlib.Core.Bool.{true, false, ◌&&◌, and-true}
use native.Mathlib.Omega.{arith}
use native.Mathlib.Nat.{zero-lt-suc, mul-pos}
use borrow.Author.Tests.{lt-ltb, eqb-true}
use lib.Dec.{eqb}
use lib.IntN.{ℤ}
use lib.Ieee.{Float, nan, inf, fin, up, down, neg, lt, le, eq, of_bits}
use lib.Ieee.Fits.{up_pos, down_pos}
use Rattle.floats.specs.Float.{abs_of}
use Rattle.floats.proofs.Order.{either}
use Rattle.floats.specs.Limits.{million}
use Rattle.geo.specs.Domain.{coordinate, within}

eqb_turned : (a b : ℕ) → eqb a b ≡ eqb b a
eqb_turned a b = ⊎_elim (λ e. same (eqb-true a b e)) (λ e. ⊎_elim (λ f. same (sym (eqb-true b a f))) (λ f. e ∙ sym f) (either (eqb b a))) (either (eqb a b))
  where
    same : a ≡ b → eqb a b ≡ eqb b a
    same e = ap (λ (c : ℕ). eqb c b) e ∙ sym (ap (λ (c : ℕ). eqb b c) e)

-- c is a finite number above zero
module _ (n : ℕ) (d : ℤ) where
  far : (m : ℕ) (e : ℤ) → 0 < suc n * up d * down e
  far m e = mul-pos (mul-pos (zero-lt-suc n) (up_pos d)) (down_pos e)

  pub between : (x : Float) → le (abs_of x) (fin false (suc n) d) ≡ (le (fin true (suc n) d) x && le x (fin false (suc n) d))
  unfolding le lt eq abs_of
  between nan = refl
  between (inf true) = refl
  between (inf false) = refl
  between (fin false m e) = let p = far m e in let o = lt-ltb 0 (suc n * up d * down e + m * up e * down d) (omega arith) in rw o
  between (fin true m e) =
      let p = far m e in
      let o = lt-ltb 0 (m * up e * down d + suc n * up d * down e) (omega arith) in
      rw (o, eqb_turned (m * up e * down d) (suc n * up d * down e)) (sym (and-true _))

pub coordinate-between : (x : Float) → within (neg million) million x ≡ coordinate x
unfolding coordinate within neg of_bits
coordinate-between x = sym (between _ _ x)
