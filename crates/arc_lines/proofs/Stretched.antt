-- A vector that is made r long: its numbers have a bound, and the one that was large keeps a size and its sign. Assumes nothing.
-- The bounds: the vectors of an accepted arc are at most 2 ^ 22 in x and in y, so r is at most 2 ^ 23; it is 2 ^ -30 or more, being 1e-9 or more. A middle is at most twice
-- r, so 2 ^ 24; a sum of two vectors 2 ^ 25, and its length 2 ^ 26. So of a number of the sum at least the 2 ^ (26 + 30)-th part is left in the middle.
use Prim.Native.Nat.{ℕ, ◌+◌, ◌*◌, ◌^◌, ◌≤◌, ◌<◌}
use mathlib.Core.Path.{◌≡◌, refl, sym, ap, ◌∙◌, subst}
use mathlib.Core.Logic.{⊎_elim}
use mathlib.Core.Bool.{Bool, true, false}
use native.Mathlib.Nat.{le_trans, le_of_eq, mul-pos, mul_comm, mul_assoc, mul_left_comm, mul-le-mul, zero-mul}
use native.Mathlib.Omega.{arith}
use borrow.Author.Tests.{ne_eqb}
use lib.Dec.{T, lit<}
use lib.IntN.{ℤ}
use lib.Pow.{pow-add}
use lib.Ieee.{Float, nan, inf, fin, binary64, up, down, round, unlike, div, fits}
use lib.Ieee.Fits.{down_pos}
use lib.Ieee.Positive.{first_pos}
use Rattle.floats.specs.Ops.{◌⊗◌, ◌⊘◌}
use Rattle.floats.specs.Root.{plain}
use Rattle.floats.proofs.Order.{lt_or_ge}
use Rattle.floats.proofs.Bounds.{Within, Below, AtLeast, mul_below, round_within}
use Rattle.geo.specs.Vector.{length_of}
use Rattle.arc_lines.proofs.Sizes.{SignIs, round_least, round_sign, size_pos, mul_least, mul_sign}
use Rattle.arc_lines.proofs.Lengths.{Twice, twice_length, vector_length_below, vector_length_plain}

-- ---- quotients
-- a number that is not zero
abbrev Some : Float → Type 0
Some nan = ⊥
Some (inf s) = ⊥
Some (fin s m e) = 0 < m * up e

some_of : (l : ℕ) (x y : Float) → AtLeast l x → Twice x y → Some y
some_of l nan y h g = absurd g
some_of l (inf s) y h g = absurd g
some_of l (fin s m e) nan h g = absurd g
some_of l (fin s m e) (inf t) h g = absurd g
some_of l (fin s m e) (fin t n d) h g =
    let p = mul-pos (size_pos l (m * up e) (down e) (down_pos e) h) (down_pos d) in
    ⊎_elim (λ q. q) (λ q. let z : n * up d ≡ 0 = omega arith in let y : n * up d * down e ≡ 0 = ap (λ (i : ℕ). i * down e) z ∙ zero-mul (down e) in absurd (omega arith))
    (lt_or_ge 0 (n * up d))

div_at : (s t : Bool) (m n : ℕ) (e d : ℤ) → 0 < n * up d → fin s m e ⊘ fin t n d ≡ round binary64 (unlike s t) (m * up e * down d) (n * up d * down e)
unfolding div
div_at s t m n e d h = let p = first_pos n (up d) h in rw (ne_eqb n 0 (λ q. omega (arith, q)))

div_below-two : (x y : Float) → Some y → Twice x y → Below 1 (x ⊘ y)
div_below-two nan y p h = absurd h
div_below-two (inf s) y p h = absurd h
div_below-two (fin s m e) nan p h = absurd h
div_below-two (fin s m e) (inf t) p h = absurd h
div_below-two (fin s m e) (fin t n d) p h =
    subst (λ (v : Float). Below 1 v) (sym (div_at s t m n e d p))
    (record { within = round_within (unlike s t) (m * up e * down d) (n * up d * down e) 1 1 (mul-pos p (down_pos e)) (lit< tt) (lit< tt) h })

div_sizes : (x n de dd L B : ℕ) → de ≤ x * L → n ≤ B * dd → n * de ≤ x * dd * (L * B)
div_sizes x n de dd L B h g = le_trans (mul-le-mul g h) (le_of_eq (simp (mul_assoc, mul_comm, mul_left_comm)))

-- what is 2 ^ -l or more, divided by what is at most 2 ^ k
div_least : (l k b : ℕ) (x y : Float) → l + k ≤ 1074 → AtLeast l x → Within (2 ^ k) y → Some y → Within b (x ⊘ y) → AtLeast (l + k) (x ⊘ y)
div_least l k b nan y o h g p w = absurd h
div_least l k b (inf s) y o h g p w = absurd h
div_least l k b (fin s m e) nan o h g p w = absurd g
div_least l k b (fin s m e) (inf t) o h g p w = absurd g
div_least l k b (fin s m e) (fin t n d) o h g p w =
    let q = div_at s t m n e d p in
    subst (λ (v : Float). AtLeast (l + k) v) (sym q)
    (round_least (unlike s t) (m * up e * down d) (n * up d * down e) (l + k) b (mul-pos p (down_pos e)) o
    (subst (λ (v : ℕ). n * up d * down e ≤ m * up e * down d * v) (sym (pow-add 2 l k)) (div_sizes (m * up e) (n * up d) (down e) (down d) (2 ^ l) (2 ^ k) h g))
    (subst (λ (v : Float). Within b v) q w))

div_sign : (b : ℕ) (s t : Bool) (x y : Float) → SignIs s x → SignIs t y → Some y → Within b (x ⊘ y) → SignIs (unlike s t) (x ⊘ y)
div_sign b s t nan y h g p w = absurd h
div_sign b s t (inf u) y h g p w = absurd h
div_sign b s t (fin u m e) nan h g p w = absurd g
div_sign b s t (fin u m e) (inf v) h g p w = absurd g
div_sign b s t (fin u m e) (fin v n d) h g p w =
    let q = div_at u v m n e d p in
    let z : unlike u v ≡ unlike s t = ap (λ (a : Bool). unlike a v) h ∙ ap (λ (a : Bool). unlike s a) g in
    subst (λ (a : Float). SignIs (unlike s t) a) (sym q)
    (subst (λ (a : Bool). SignIs a (round binary64 (unlike u v) (m * up e * down d) (n * up d * down e))) z
    (round_sign (unlike u v) (m * up e * down d) (n * up d * down e) b (subst (λ (a : Float). Within b a) q w)))

-- ---- a number of a vector divided by the length, and multiplied by r
pub plain-sign : (x : Float) → T (plain x) → SignIs false x
unfolding plain
plain-sign nan p = absurd p
plain-sign (inf s) p = absurd p
plain-sign (fin true m e) p = absurd p
plain-sign (fin false m e) p = refl

unlike_plus : (s : Bool) → unlike (unlike s false) false ≡ s
unlike_plus true = refl
unlike_plus false = refl

-- the radius of an accepted arc
pub record Radius (r : Float) : Type 0 where
  pub below : Below 23 r
  pub least : AtLeast 30 r
  pub plus : SignIs false r

-- what comes out of a number that is 2 ^ -l or more with the sign s, and of the other one
pub record Stretched (l : ℕ) (s : Bool) (p q : Float) : Type 0 where
  pub first_below : Below 24 p
  pub second_below : Below 24 q
  pub large : AtLeast (l + 56) p
  pub sign : SignIs s p

pub stretch : (r : Float) → Radius r → (l : ℕ) → l + l ≤ 1072 → (s : Bool) (p q : Float) → Below 25 p → Below 25 q → T (fits binary64 p) → T (fits binary64 q) → AtLeast l p → SignIs s p
    → Stretched l s (p ⊘ length_of p q ⊗ r) (q ⊘ length_of p q ⊗ r)
stretch r R l o s p q P Q f g a i =
    let L = length_of p q in
    let t = twice_length 25 l (omega arith) o p q P Q f g a in
    let n = some_of l p L a t.0 in
    let x : Below 1 (p ⊘ L) = div_below-two p L n t.0 in
    let y : Below 1 (q ⊘ L) = div_below-two q L n t.1 in
    let b : Below 24 (p ⊘ L ⊗ r) = mul_below (omega arith) x R.below in
    let k = vector_length_below 25 (omega arith) p q P Q in
    let d = div_least l 26 (2 ^ 1) p L (omega arith) a k.within n x.within in
    let e : l + 26 + 30 ≡ l + 56 = omega arith in
    record {
      first_below = b;
      second_below = mul_below (omega arith) y R.below;
      large = subst (λ (z : ℕ). AtLeast z (p ⊘ L ⊗ r)) e (mul_least (l + 26) 30 (2 ^ 24) (p ⊘ L) r (omega arith) d R.least b.within);
      sign =
          subst (λ (z : Bool). SignIs z (p ⊘ L ⊗ r)) (unlike_plus s)
          (mul_sign (2 ^ 24) (unlike s false) false (p ⊘ L) r (div_sign (2 ^ 1) s false p L i (plain-sign L (vector_length_plain 25 (omega arith) p q P Q)) n x.within) R.plus b.within);
    }
