-- What a program asks of the function that prints: it may be called at an output of so many bytes, and what it writes lies in it. Definitions only.
use Rattle.std.specs.Prelude.{ℕ, ◌≤◌, ◌≡◌, List, length}
use Rattle.std.specs.Borrow.{Bor, MutBor}

abbrev pub MayPrint : ℕ → (Bor (List ℕ) → MutBor (List ℕ) → Type 0) → Type 0
MayPrint size pre = (input : Bor (List ℕ)) (out : MutBor (List ℕ)) → length out.now ≡ size → pre input out

abbrev pub PrintsWithin : ℕ → (Bor (List ℕ) → MutBor (List ℕ) → ℕ → MutBor (List ℕ) → Type 0) → Type 0
PrintsWithin size post = (input : Bor (List ℕ)) (out : MutBor (List ℕ)) (n : ℕ) (out' : MutBor (List ℕ)) → length out.now ≡ size → post input out n out' → n ≤ length out'.now
