-- A count of steps as a float: at least 2, and at most 800 where it is turned into a whole number. Assumes nothing.
use Rattle.std.proofs.Common.{◌≡◌, ℕ, ◌+◌, ◌*◌, ◌^◌, ◌≤◌, Bool, true, false, T, ℤ, pos, sym, refl, ◌∙◌, subst, ⊎_elim, le_trans, mul_comm, mul-one, arith, lt→ltb}
use native.Mathlib.Nat.{div-le_of_le-mul, min-le_left}
use lib.Ieee.{Float, nan, inf, fin, up, down, lt, le, eq, is_nan, of_bits, to_unsigned}
use lib.Ieee.Fits.{down_pos}
use Rattle.floats.specs.Ops.{two}
use Rattle.floats.specs.Float.{max_of}
use Rattle.floats.proofs.Order.{clash, lt_gap}
use Rattle.floats.proofs.Bounds.{or_le}
use Rattle.bezier.specs.Calls.{most_steps}

-- the greater of a number and 2 is above -1
above : (a : Float) → is_nan a ≡ false → lt a two ≡ false → lt (fin true 1 (pos 0)) a ≡ true
above a n h = ⊎_elim (λ e. e) (λ e. clash (sym h ∙ e)) (lt_gap (fin true 1 (pos 0)) a two n (unfold lt of_bits in refl))

pub max_above : (a : Float) → lt (fin true 1 (pos 0)) (max_of a two) ≡ true
unfolding max_of
max_above a = go (lt a two) (is_nan a) refl refl
  where
    go : (x y : Bool) → lt a two ≡ x → is_nan a ≡ y → lt (fin true 1 (pos 0)) (max_of a two) ≡ true
    go true y p q = rw p (unfold lt of_bits in refl)
    go false true p q = rw (p, q) (unfold lt of_bits in refl)
    go false false p q = rw (p, q) (above a q p)

-- at most 800
cross : (m : ℕ) (e : ℤ) → le (fin false m e) most_steps ≡ true → m * up e ≤ 800 * down e
unfolding le lt eq of_bits
cross m e h = let l : m * up e * 1 ≤ 25 * 2 ^ 5 * down e = or_le (m * up e * 1) (25 * 2 ^ 5 * down e) _ h in omega (arith, mul-one (m * up e))

pub steps_small : (x : Float) → lt (fin true 1 (pos 0)) x ≡ true → le x most_steps ≡ true → T (lt x (fin false 1 (pos 64))) × (to_unsigned 64 x ≤ 800)
unfolding to_unsigned
steps_small nan g h = clash (unfold lt in g)
steps_small (inf true) g h = clash (unfold lt in g)
steps_small (inf false) g h = clash (unfold le lt eq of_bits in h)
steps_small (fin true m e) g h = (unfold lt in lt→ltb 0 (m * up e * 1 + 1 * 2 ^ 64 * down e) (let d = down_pos e in omega arith), omega arith)
steps_small (fin false m e) g h =
    let c = cross m e h in
    let d = down_pos e in (
      unfold lt in lt→ltb (m * up e * 1) (1 * 2 ^ 64 * down e) (omega (arith, mul-one (m * up e))),
      le_trans (min-le_left _ _) (div-le_of_le-mul (down e) (subst (λ (n : ℕ). m * up e ≤ n) (mul_comm 800 (down e)) c)),
    )
