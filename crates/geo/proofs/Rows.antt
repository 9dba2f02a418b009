-- Laws of refusals: the first row that fails decides, and a call that passes gives its value. Assumes nothing.
use Prim.Native.Nat.{ℕ, zero, suc, ◌%◌, ◌≤◌, ◌<◌}
use mathlib.Core.Path.{◌≡◌, refl, sym, ap, ◌∙◌}
use mathlib.Core.Bool.{Bool, true, false, not}
use mathlib.Core.List.{List, [], ◌∷◌, ◌++◌}
use native.Mathlib.Omega.{arith}
use borrow.Author.Tests.{eq-eqb, ne_eqb}
use Rattle.geo.specs.Outcome.{Row, row, refusal, refused, gives, unless}
use Rattle.geo.specs.Domain.{whole}

pub row_fails : (n : ℕ) (b : Bool) (rs : List Row) → b ≡ true → refusal (row n b ∷ rs) ≡ n
unfolding refusal
row_fails n b rs h = rw h

pub row-passes : (n : ℕ) (b : Bool) (rs : List Row) → b ≡ false → refusal (row n b ∷ rs) ≡ refusal rs
unfolding refusal
row-passes n b rs h = rw h

-- where none fails, the first does not, and none of the rest
pub row_passed : (n : ℕ) (b : Bool) (rs : List Row) → 0 ≡ refusal (row (suc n) b ∷ rs) → (b ≡ false) × (0 ≡ refusal rs)
unfolding refusal
row_passed n true rs h = absurd (omega arith)
row_passed n false rs h = (refl, h)

-- a row that fails decides whatever rows come later
pub refusal-front : (rs ts : List Row) → 0 < refusal rs → refusal rs ≡ refusal (rs ++ ts)
unfolding refusal
refusal-front [] ts h = absurd (omega arith)
refusal-front (row n true ∷ rs) ts h = refl
refusal-front (row n false ∷ rs) ts h = refusal-front rs ts h

-- a check that answered a number, or none
pub not_zero : (n : ℕ) → 0 < n → n ≡ 0 → ⊥
not_zero n h e = omega arith

pub accepted : (n r : ℕ) → n ≡ r → n ≤ 0 → 0 ≡ r
accepted n r e h = omega arith

pub done : refusal [] ≡ 0
unfolding refusal
done = refl

-- a row `not B`, where the code found b of B and tested `!b`
pub not_fails : (b B : Bool) → b ≡ B → not b ≡ true → not B ≡ true
not_fails b B e h = ap not (sym e) ∙ h

pub not_passes : (b B : Bool) → b ≡ B → not b ≡ false → not B ≡ false
not_passes b B e h = ap not (sym e) ∙ h

-- a length that is, or is not, whole items
pub whole_fails : (width n : ℕ) → (n % width ≡ 0 → ⊥) → not (whole width n) ≡ true
unfolding whole
whole_fails width n h = rw (ne_eqb (n % width) 0 h)

pub whole-passes : (width n : ℕ) → n % width ≡ 0 → not (whole width n) ≡ false
unfolding whole
whole-passes width n h = rw (eq-eqb (n % width) 0 h)

pub unless-refused : {A : Type 0} (n : ℕ) (a : A) → 0 < n → unless n a ≡ refused n
unfolding unless
unless-refused zero a h = absurd (omega arith)
unless-refused (suc n) a h = refl

pub unless-gives : {A : Type 0} (n : ℕ) (a : A) → n ≡ 0 → unless n a ≡ gives a
unfolding unless
unless-gives n a h = rw h

-- a call that gives x was not refused, and x is what it worked out
pub unless-given : {A : Type 0} (n : ℕ) (a x : A) → unless n a ≡ gives x → (0 ≡ n) × (a ≡ x)
unfolding unless
unless-given zero a x e = (refl, cc)
unless-given (suc n) a x e = let z : ◌≡◌ {A = ℕ} 0 1 = cc in absurd (omega arith)
