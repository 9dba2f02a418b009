-- What a public call answers and leaves, by what its check found. Assumes nothing.
use Prim.Native.Nat.{ℕ, ◌≤◌, ◌<◌}
use mathlib.Core.Path.{◌≡◌, refl, sym, ap, ◌∙◌, subst}
use mathlib.Core.List.{List, map}
use native.Mathlib.Omega.{arith}
use lib.ListN.{length, length-map}
use lib.Seq.{sets}
use lib.Ieee.{Float}
use Rattle.std.specs.Prelude.{Result, Ok, Err}
use Rattle.geo.specs.declared.types.Command.{Command}
use Rattle.geo.specs.declared.types.Command.TheVariants.{Move, Line, Arc, Bezier}
use Rattle.geo.specs.declared.refusal.Refusal.{Refusal}
use Rattle.geo.specs.declared.refusal.Refusal.TheVariants.{NotWhole, TooMany, BadFile, BadCommand, BadNumber, BadTolerance, NoSuch, TooMuch, NoRoom, Closed, NotDrawable, OldTicket, FullSession, BadText}
use Rattle.geo.specs.Outcome.{Outcome, refused, unless, left}
use Rattle.geo.specs.Refusal.{number, outcome}
use Rattle.geo.specs.Wrote.{answer, Wrote, WroteCommands}
use Rattle.geo.specs.Lent.{flat, kind_of, numbers_of}
use Rattle.geo.proofs.Rows.{unless-refused, unless-gives}
use Rattle.geo.proofs.Stores.{sets_front}

-- no cause has the number 0
pub number-positive : (cause : Refusal) → 0 < number cause
number-positive NotWhole = omega arith
number-positive TooMany = omega arith
number-positive BadFile = omega arith
number-positive BadCommand = omega arith
number-positive BadNumber = omega arith
number-positive BadTolerance = omega arith
number-positive NoSuch = omega arith
number-positive TooMuch = omega arith
number-positive NoRoom = omega arith
number-positive Closed = omega arith
number-positive NotDrawable = omega arith
number-positive OldTicket = omega arith
number-positive FullSession = omega arith
number-positive BadText = omega arith

-- ---- n is the number that the table gives. A check that found a cause: the call is refused by its number, and r is what it answers
module _ (n : ℕ) (cause : Refusal) (e : number cause ≡ n) where
  pub refused-is : {A : Type 0} (a : A) → refused (number cause) ≡ unless n a
  refused-is a = sym (unless-refused n a (subst (λ (k : ℕ). 0 < k) e (number-positive cause)) ∙ ap refused (sym e))

  pub outcome-refused : {A : Type 0} (a : A) (r : Result A Refusal) → r ≡ Err cause → outcome r ≡ unless n a
  outcome-refused a r h = rw h (refused-is a)

  pub wrote-refused : {A B : Type 0} (f : List A → List B) (xs : List A) (out : List B) (r : Result ℕ Refusal) → r ≡ Err cause → Wrote f (unless n xs) out out r
  unfolding answer left
  wrote-refused f xs out r h = rw (h, sym (refused-is xs)) record { says = refl; leaves = refl }

  -- the same of commands, written to two outputs
  pub commands-refused : (xs : List Command) (ks : List ℕ) (ns : List Float) (r : Result ℕ Refusal) → r ≡ Err cause → WroteCommands (unless n xs) ks ks ns ns r
  unfolding answer left
  commands-refused xs ks ns r h = rw (h, sym (refused-is xs)) record { says = refl; kinds = refl; numbers = refl }

-- ---- a check that found none
module _ (n : ℕ) (z : 0 ≡ n) where
  pub outcome-gives : {A : Type 0} (a b : A) → a ≡ b → outcome (Ok a) ≡ unless n b
  outcome-gives a b h = rw h (sym (unless-gives n b (sym z)))

  -- the count k of the items xs is answered, and they stand at the output's front
  pub wrote-given : {A B : Type 0} (f : List A → List B) (xs : List A) (out out' : List B) (k : ℕ) → k ≡ length xs → length (f xs) ≤ length out
      → out' ≡ sets out 0 (f xs) → Wrote f (unless n xs) out out' (Ok k)
  unfolding answer left
  wrote-given f xs out out' k c l o = rw (unless-gives n xs (sym z)) record { says = rw c; leaves = o ∙ sets_front (f xs) out l }

  -- the same of commands
  pub commands-given : (xs : List Command) (ks ks' : List ℕ) (ns ns' : List Float) (k : ℕ) → k ≡ length xs → length xs ≤ length ks
      → length (flat numbers_of xs) ≤ length ns → ks' ≡ sets ks 0 (map kind_of xs) → ns' ≡ sets ns 0 (flat numbers_of xs)
      → WroteCommands (unless n xs) ks ks' ns ns' (Ok k)
  unfolding answer left
  commands-given xs ks ks' ns ns' k c lk ln ok on =
      rw (unless-gives n xs (sym z)) record {
        says = rw c;
        kinds = ok ∙ sets_front (map kind_of xs) ks (rw length-map lk);
        numbers = on ∙ sets_front (flat numbers_of xs) ns ln;
      }

-- an outcome worked out another way
pub wrote-same : {A B : Type 0} (lay : List A → List B) (o o' : Outcome (List A)) (out out' : List B) (r : Result ℕ Refusal) → o ≡ o' → Wrote lay o out out' r → Wrote lay o' out out' r
wrote-same {A} lay o o' out out' r e w = subst (λ (x : Outcome (List A)). Wrote lay x out out' r) e w

-- the nine numbers of a command
pub nine : (c : Command) → length (numbers_of c) ≡ 9
unfolding numbers_of
nine (Move p) = refl
nine (Line p) = refl
nine (Arc p o n) = refl
nine (Bezier p c d) = refl
