-- What a call answers and leaves that writes to a lent output: `lay` lays the items out as numbers. Definitions only.
use Rattle.std.specs.Prelude.{ℕ, List, map, ◌≡◌, Float, length, Result}
use Rattle.geo.specs.declared.types.Command.{Command}
use Rattle.geo.specs.declared.refusal.Refusal.{Refusal}
use Rattle.geo.specs.Outcome.{Outcome, refused, gives, left}
use Rattle.geo.specs.Refusal.{outcome}
use Rattle.geo.specs.Lent.{flat, kind_of, numbers_of}

-- its answer: how many items it wrote, or the number of the refusal
unfoldable pub answer : {A : Type 0} → Outcome (List A) → Outcome ℕ
answer (refused n) = refused n
answer (gives xs) = gives (length xs)

-- the answer and the output afterwards
pub record Wrote {A B : Type 0} (lay : List A → List B) (o : Outcome (List A)) (out out' : List B) (r : Result ℕ Refusal) : Type 0 where
  pub says : outcome r ≡ answer o
  pub leaves : out' ≡ left lay out o

-- the answer and both outputs afterwards: the commands, and then what stood there; all as it was where the call is refused
pub record WroteCommands (o : Outcome (List Command)) (ks ks' : List ℕ) (ns ns' : List Float) (r : Result ℕ Refusal) : Type 0 where
  pub says : outcome r ≡ answer o
  pub kinds : ks' ≡ left (map kind_of) ks o
  pub numbers : ns' ≡ left (flat numbers_of) ns o
