-- The decimal digits of a number: one, two or three of them, and how many there are. Assumes nothing.
use Prim.Native.Nat.{ℕ, suc, ◌+◌, ◌-◌, ◌/◌, ◌%◌, ◌≤◌, ◌<◌}
use mathlib.Core.Path.{◌≡◌, ap, ◌∙◌}
use mathlib.Core.Logic.{⊎_elim}
use mathlib.Core.List.{List, [], ◌∷◌, ◌++◌}
use native.Mathlib.Omega.{arith}
use borrow.Author.Tests.{lt-ltb, le-ltb}
use lib.ListN.{length}
use Rattle.floats.proofs.Order.{lt_or_ge}
use Rattle.lap_text.specs.Text.{digits_by, decimal}

-- a digit alone, and one behind others
pub last_digit : (more n : ℕ) → n < 10 → digits_by (suc more) n ≡ (48 + n) ∷ []
unfolding digits_by
last_digit more n h = rw (lt-ltb n 10 h)

pub next_digit : (more n : ℕ) → 10 ≤ n → digits_by (suc more) n ≡ digits_by more (n / 10) ++ ((48 + n % 10) ∷ [])
unfolding digits_by
next_digit more n h = rw (le-ltb n 10 h)

pub one_digit : (n : ℕ) → n < 10 → decimal n ≡ (48 + n) ∷ []
unfolding decimal
one_digit n h = last_digit n n h

pub two_digits : (n : ℕ) → 10 ≤ n → n < 100 → decimal n ≡ (48 + n / 10) ∷ (48 + n % 10) ∷ []
unfolding decimal
two_digits n h k =
    let e : n ≡ suc (n - 1) = omega arith in
    next_digit n n h ∙ ap (λ (l : List ℕ). l ++ ((48 + n % 10) ∷ [])) (ap (λ (m : ℕ). digits_by m (n / 10)) e ∙ last_digit (n - 1) (n / 10) (omega arith))

pub three_digits : (n : ℕ) → 100 ≤ n → n < 1000 → decimal n ≡ (48 + n / 100) ∷ (48 + n / 10 % 10) ∷ (48 + n % 10) ∷ []
unfolding decimal
three_digits n h k =
    let e : n ≡ suc (suc (n - 2)) = omega arith in
    let d : n / 10 / 10 ≡ n / 100 = omega arith in
    next_digit n n (omega arith)
    ∙ ap (λ (l : List ℕ). l ++ ((48 + n % 10) ∷ []))
    (ap (λ (m : ℕ). digits_by m (n / 10)) e ∙ next_digit (suc (n - 2)) (n / 10) (omega arith)
    ∙ ap (λ (l : List ℕ). l ++ ((48 + n / 10 % 10) ∷ [])) (last_digit (n - 2) (n / 10 / 10) (omega arith) ∙ ap (λ (m : ℕ). (48 + m) ∷ []) d))

-- how many there are
pub below_100 : (n : ℕ) → n < 100 → length (decimal n) ≤ 2
below_100 n h = ⊎_elim (λ k. let e = ap length (one_digit n k) in omega arith) (λ k. let e = ap length (two_digits n k h) in omega arith) (lt_or_ge n 10)

pub below_1000 : (n : ℕ) → n < 1000 → length (decimal n) ≤ 3
below_1000 n h = ⊎_elim (λ k. let e = below_100 n k in omega arith) (λ k. let e = ap length (three_digits n k h) in omega arith) (lt_or_ge n 100)
