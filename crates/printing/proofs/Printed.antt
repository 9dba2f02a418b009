-- What a buffer holds behind a call that wrote to it, o being what the call comes to, and behind the line of a refusal. Assumes nothing.
use Prim.Native.Nat.{ℕ, ◌≤◌}
use mathlib.Core.Path.{◌≡◌, ◌∙◌}
use mathlib.Core.List.{List, ◌++◌}
use native.Mathlib.Omega.{arith}
use lib.ListN.{length, drop}
use Rattle.std.specs.Prelude.{Result, Ok, Err, IfOk, IfErr}
use Rattle.geo.specs.declared.refusal.Refusal.{Refusal}
use Rattle.geo.specs.declared.refusal.Refusal.TheVariants.{NotWhole, TooMany, BadFile, BadCommand, BadNumber, BadTolerance, NoSuch, TooMuch, NoRoom, Closed, NotDrawable, OldTicket, FullSession, BadText}
use Rattle.geo.specs.Outcome.{Outcome, refused, gives, left}
use Rattle.geo.specs.Refusal.{number}
use Rattle.geo.specs.Wrote.{answer, Wrote}
use Rattle.geo.proofs.Stores.{sets_front}
use Rattle.lap_text.specs.Text.{refusal_text}
use Rattle.lap_text.specs.Left.{TextPut}
use Rattle.lap_text.proofs.Written.{refused_length}
use Rattle.printing.specs.Printed.{printed}

-- the first n bytes are what is printed, and then what stood there
abbrev pub Prints : Outcome (List ℕ) → List ℕ → ℕ → List ℕ → Type 0
Prints o out n out' = (n ≡ length (printed o)) × (out' ≡ printed o ++ drop (length (printed o)) out)

-- no cause has a number above 14
pub number_few : (cause : Refusal) → number cause ≤ 14
number_few NotWhole = omega arith
number_few TooMany = omega arith
number_few BadFile = omega arith
number_few BadCommand = omega arith
number_few BadNumber = omega arith
number_few BadTolerance = omega arith
number_few NoSuch = omega arith
number_few TooMuch = omega arith
number_few NoRoom = omega arith
number_few Closed = omega arith
number_few NotDrawable = omega arith
number_few OldTicket = omega arith
number_few FullSession = omega arith
number_few BadText = omega arith

-- what a call wrote is printed as it is, and a refusal, which leaves the buffer as it was, as its line
pub answer_printed : (o : Outcome (List ℕ)) (out out₁ out₂ : List ℕ) (r : Result ℕ Refusal) (n : ℕ) → 12 ≤ length out → Wrote (λ (bytes : List ℕ). bytes) o out out₁ r
    → IfOk r (λ m. (n ≡ m) × (out₂ ≡ out₁)) → IfErr r (λ cause. TextPut (refusal_text (number cause)) out₁ out₂ 0 n) → Prints o out n out₂
unfolding answer left printed
answer_printed (refused k) out out₁ out₂ (Ok m) n h w g t = let d : gives m ≡ refused k = w.says in let z : ◌≡◌ {A = ℕ} 0 1 = cc in absurd (omega arith)
answer_printed (gives xs) out out₁ out₂ (Err cause) n h w g t = let d : refused (number cause) ≡ gives (length xs) = w.says in let z : ◌≡◌ {A = ℕ} 0 1 = cc in absurd (omega arith)
answer_printed (gives xs) out out₁ out₂ (Ok m) n h w g t = let d : gives m ≡ gives (length xs) = w.says in let z : m ≡ length xs = cc in (g.0 ∙ z, g.1 ∙ w.leaves)
answer_printed (refused k) out out₁ out₂ (Err cause) n h w g t =
    let d : refused (number cause) ≡ refused k = w.says in
    let z : number cause ≡ k = cc in
    let f = number_few cause in
    let m = refused_length (number cause) (omega arith) in
    let a = t.ends in
    rw (← z) (omega arith, t.bytes ∙ rw w.leaves (sets_front (refusal_text (number cause)) out (omega arith)))
