-- The numbers that a command does not use: the word 0 is +0's, and no other is. Assumes nothing.
use Prim.Native.Nat.{ℕ, zero, suc, ◌+◌, ◌*◌, ◌<◌}
use mathlib.Core.Path.{◌≡◌, refl, sym, ap, ◌∙◌}
use mathlib.Core.Bool.{Bool, true, false}
use mathlib.Core.List.{List}
use native.Mathlib.Omega.{arith}
use lib.ListN.{get_or}
use borrow.Author.Tests.{ne_eqb}
use lib.Dec.{eqb}
use lib.Ieee.{binary64, eq, of_bits}
use lib.Ieee.Bits.{of_bits-fits, to_bits-of_bits}
use Rattle.floats.proofs.Order.{clash}
use Rattle.geo.specs.declared.types.Point3D.{Point3D}
use Rattle.geo.specs.declared.types.Command.TheVariants.{Move, Line}
use Rattle.geo.specs.Domain.{is_plus_zero, point3_in, command_in}
use Rattle.geo.specs.Lent.{command_of}
use Rattle.geo.proofs.Zero.{eq_no_nan, plus_zero_is, not_plus_zero}
use Rattle.file.specs.Bytes.{half_at, word_at, number_at}
use Rattle.file.specs.Command.{point_from, decoded}

-- ---- words
by_equal : (w : ℕ) → w < 0x1_0000_0000_0000_0000 → (b : Bool) → eq (of_bits binary64 w) (of_bits binary64 0) ≡ b → eqb w 0 ≡ is_plus_zero (of_bits binary64 w)
by_equal w h true e = ap (λ (n : ℕ). eqb n 0) (sym (to_bits-of_bits binary64 w h (eq_no_nan _ _ e))) ∙ plus_zero_is _ (of_bits-fits binary64 w) e
by_equal zero h false e = clash (sym (unfold eq of_bits in e))
by_equal (suc w) h false e = ne_eqb (suc w) 0 (λ z. omega arith) ∙ not_plus_zero _ e

zero_word : (w : ℕ) → w < 0x1_0000_0000_0000_0000 → eqb w 0 ≡ is_plus_zero (of_bits binary64 w)
zero_word w h = by_equal w h _ refl

-- by halves, the low one first
module _ (s : List ℕ) (at a b : ℕ) (e : a ≡ half_at s at) (f : b ≡ half_at s (at + 4)) (h : a < 0x1_0000_0000) (k : b < 0x1_0000_0000) where
  word : a + b * 0x1_0000_0000 ≡ word_at s at
  unfolding word_at
  word = rw (← e, ← f)

  by_word : eqb (a + b * 0x1_0000_0000) 0 ≡ is_plus_zero (number_at s at)
  unfolding number_at
  by_word = zero_word (a + b * 0x1_0000_0000) (omega arith) ∙ ap (λ (w : ℕ). is_plus_zero (of_bits binary64 w)) word

  pub high_half : a ≡ 0 → eqb b 0 ≡ is_plus_zero (number_at s at)
  high_half z = same b ∙ rw z at by_word
    where
      same : (n : ℕ) → eqb n 0 ≡ eqb (0 + n * 0x1_0000_0000) 0
      same zero = refl
      same (suc n) = ne_eqb (suc n) 0 (λ z. omega arith) ∙ sym (ne_eqb (0 + suc n * 0x1_0000_0000) 0 (λ w. omega arith))

  pub low_half : (a ≡ 0 → ⊥) → eqb a 0 ≡ is_plus_zero (number_at s at)
  low_half z = ne_eqb a 0 z ∙ sym (ne_eqb (a + b * 0x1_0000_0000) 0 (λ w. z (omega arith))) ∙ by_word

-- ---- commands
-- a Move and a Line have no number but their end's
pub end-alone : (k : ℕ) (p q r q' r' : Point3D) → k < 2 → command_of k p q r ≡ command_of k p q' r'
unfolding command_of
end-alone zero p q r q' r' h = refl
end-alone (suc zero) p q r q' r' h = refl
end-alone (suc (suc k)) p q r q' r' h = absurd (omega arith)

pub end_in : (c : List ℕ) → get_or c 0 0 < 2 → point3_in (point_from c 1) ≡ command_in (decoded c)
unfolding decoded command_of command_in
end_in c h = by_kind (get_or c 0 0) _ _ _ h
  where
    by_kind : (k : ℕ) (p q r : Point3D) → k < 2 → point3_in p ≡ command_in (command_of k p q r)
    by_kind zero p q r h = refl
    by_kind (suc zero) p q r h = refl
    by_kind (suc (suc k)) p q r h = absurd (omega arith)

-- the command of the bytes c, whose end is p
pub a_move : (c : List ℕ) (p : Point3D) → get_or c 0 0 ≡ 0 → p ≡ point_from c 1 → Move p ≡ decoded c
unfolding decoded command_of
a_move c p k e = rw (k, e)

pub a_line : (c : List ℕ) (p : Point3D) → get_or c 0 0 ≡ 1 → p ≡ point_from c 1 → Line p ≡ decoded c
unfolding decoded command_of
a_line c p k e = rw (k, e)
