-- The live thinner's state as a caller lends it, and what a call hands out in plain numbers. Definitions only.
use Rattle.std.specs.Prelude.{ℕ, ◌≡◌, Bool, true, false, not, List, length, eqb, Float}
use Rattle.geo.specs.declared.types.Point3D.{Point3D}
use Rattle.geo.specs.Lent.{flat, triple, point_at}
use Rattle.geo.specs.Outcome.{refusal, Outcome, unless, left}
use Rattle.live.specs.declared.live.Live.{Live}
use Rattle.live.specs.Thinner.{Next, started}
use Rattle.live.specs.Calls.{start_rows, ends_given}
use Rattle.exports.specs.Plain.{number_of, laid_plain, told}

-- a point lent as three numbers
abbrev pub point_of : List Float → Point3D
point_of s = point_at s 0

-- a tolerance, the numbers of the slots, a count, and a flag, which is an integer: any but 0 says that the thinner is closed
abbrev pub lent_state : Float → List Float → ℕ → ℕ → Live
lent_state t ps n flag = record { tolerance = t; points = ps; count = n; closed = not (eqb flag 0) }

unfoldable pub flag_of : Bool → ℕ
flag_of true = 1
flag_of false = 0

-- a start
unfoldable pub start_call : Float → Outcome Live
start_call t = unless (refusal (start_rows t)) (started t)

-- the ends as numbers, and how many there are
unfoldable pub end_numbers : Next → List Float
end_numbers n = flat triple n.ends

unfoldable pub end_count : Next → ℕ
end_count n = length n.ends

-- ---- the promises, each of an outcome o and of the lent memory before and after: as it was where the call is refused
-- a start writes the whole state
pub record Began (o : Outcome Live) (t t' : Float) (ps ps' : List Float) (n n' flag flag' r : ℕ) : Type 0 where
  pub says : r ≡ number_of o
  pub tolerance : t' ≡ told (λ s. s.tolerance) t o
  pub points : ps' ≡ told (λ s. s.points) ps o
  pub count : n' ≡ told (λ s. s.count) n o
  pub flag_is : flag' ≡ told (λ s. flag_of s.closed) flag o

-- a point fed writes the slots and the count; the tolerance and the flag are those of the state before
pub record Kept (o : Outcome Next) (ps ps' : List Float) (n n' r : ℕ) : Type 0 where
  pub says : r ≡ number_of o
  pub points : ps' ≡ told (λ a. a.state.points) ps o
  pub count : n' ≡ told (λ a. a.state.count) n o

-- a new tolerance is written beside them, and the ends at the front of the output
pub record Retold (o : Outcome Next) (t t' : Float) (out out' : List Float) (h h' r : ℕ) : Type 0 where
  pub says : r ≡ number_of o
  pub tolerance : t' ≡ told (λ a. a.state.tolerance) t o
  pub numbers : out' ≡ left (flat triple) out (ends_given o)
  pub count : h' ≡ told end_count h o

-- a close writes the flag; the slots and the count are those of the state before
pub record Shut (o : Outcome Next) (ps : List Float) (n flag flag' r : ℕ) : Type 0 where
  pub says : r ≡ number_of o
  pub points : ps ≡ told (λ a. a.state.points) ps o
  pub count : n ≡ told (λ a. a.state.count) n o
  pub flag_is : flag' ≡ told (λ a. flag_of a.state.closed) flag o

-- the end that is handed out, at the front of the memory for it, and how many there are
pub record Ended (o : Outcome Next) (out out' : List Float) (h h' r : ℕ) : Type 0 where
  pub says : r ≡ number_of o
  pub numbers : out' ≡ laid_plain end_numbers out o
  pub count : h' ≡ told end_count h o
