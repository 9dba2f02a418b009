-- Counts of which all above 800 are told as 801. Assumes nothing.
use Prim.Native.Nat.{ℕ, ◌+◌, ◌≤◌, ◌<◌}
use mathlib.Core.Path.{◌≡◌, ◌∙◌}
use mathlib.Core.Logic.{⊎_elim}
use native.Mathlib.Omega.{arith}
use Rattle.floats.proofs.Order.{lt_or_ge}
use Rattle.chain.specs.Chains.{cap}
use Rattle.chain.proofs.Count.{cap-few, cap_many, cap-most, cap-next, cap_passed, cap-over}

pub cap_small : (r n : ℕ) → r ≡ cap n → r ≤ 801
cap_small r n e = omega (arith, cap-most n)

-- what is told of a count tells of the count
pub told-above : (r n : ℕ) → r ≡ cap n → 800 < r → 800 < n
told-above r n e h = cap-over n (omega arith)

pub told_below : (r n : ℕ) → r ≡ cap n → r ≤ 800 → r ≡ n
told_below r n e h = e ∙ cap_passed n (omega arith)

pub told_more : (r n : ℕ) → r ≡ cap n → r ≤ n
told_more r n e = ⊎_elim (λ l. omega (arith, cap_many n l)) (λ l. omega (arith, cap-few n l)) (lt_or_ge 800 n)

-- counts added one by one
pub cap_step : (a m r b k g : ℕ) → k ≡ cap m → b ≡ cap (a + k) → cap (a + (m + r)) ≡ g → cap (b + r) ≡ g
cap_step a m r b k g p q e = cap-next a m k b r p q ∙ e

pub cap-done : (a r g : ℕ) → r ≡ 0 → a ≤ 801 → cap (a + r) ≡ g → a ≡ g
cap-done a r g z h e =
    ⊎_elim (λ l. omega (arith, cap_many (a + r) (omega arith))) (λ l. omega (arith, cap-few (a + r) (omega arith))) (lt_or_ge 800 a)
