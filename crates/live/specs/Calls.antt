-- The calls of the live thinner: what each refuses, in the order of the rows, what an accepted one makes of the state, and what it answers. Definitions only.
use Rattle.std.specs.Prelude.{ℕ, ◌/◌, Bool, true, not, ◌&&◌, List, [], ◌∷◌, ◌++◌, ltb, Float, ◌≡◌, Option, Some, None, Result, Ok, Err}
use Rattle.geo.specs.declared.types.Point3D.{Point3D}
use Rattle.geo.specs.Domain.{coordinate, numbers_in, point3_in, tolerance, whole}
use Rattle.geo.specs.Outcome.{Row, row, refusal, Outcome, unless, refused, gives}
use Rattle.geo.specs.declared.refusal.Refusal.{Refusal}
use Rattle.geo.specs.Refusal.{number, outcome}
use Rattle.geo.specs.Wrote.{Wrote}
use Rattle.live.specs.declared.live.Live.{Live}
use Rattle.live.specs.declared.live.RefusedStart.{RefusedStart}
use Rattle.live.specs.Thinner.{Next, slot_count, push, shut, retuned}
use Rattle.geo.specs.Lent.{flat, triple}

-- a call: a point is fed; a new tolerance is set, with a lent output of so many numbers; or the thinner is closed
pub data Event : Type 0 where
  feed : Point3D → Event
  retune : Float → ℕ → Event
  close : Event

-- "its most is 63 ends"
abbrev pub most_ends : ℕ
most_ends = 63

-- the rows of a state, all of its numbers looked at; `inside` says of a call's own numbers that they are coordinates, and `tuned` of its own tolerance that it is one
unfoldable pub state_rows : Live → Bool → Bool → List Row
state_rows s inside tuned =
    row 2 (ltb slot_count s.count)
    ∷ row 5 (not (numbers_in coordinate s.points && inside))
    ∷ row 6 (not (tolerance s.tolerance && tuned))
    ∷ row 10 s.closed
    ∷ []

-- the rows of each call
unfoldable pub live_rows : Live → Event → List Row
live_rows s (feed p) = state_rows s (point3_in p) true
live_rows s (retune t n) = row 1 (not (whole 3 n)) ∷ (state_rows s true (tolerance t) ++ row 9 (ltb (n / 3) most_ends) ∷ [])
live_rows s close = state_rows s true true

-- what an accepted call makes of the state
unfoldable pub next_of : Live → Event → Next
next_of s (feed p) = push s p
next_of s (retune t n) = retuned s t
next_of s close = shut s

-- a call comes to the number of the first row that it falls under, or to what it makes of the state
unfoldable pub live_call : Live → Event → Outcome Next
live_call s e = unless (refusal (live_rows s e)) (next_of s e)

-- a start has one row
unfoldable pub start_rows : Float → List Row
start_rows t = row 6 (not (tolerance t)) ∷ []

-- what a start says: the thinner, or the number of the refusal
abbrev pub start_outcome : Result Live RefusedStart → Outcome Live
start_outcome (Ok s) = gives s
start_outcome (Err e) = refused (number e.cause)

-- the thinner that a start gives, refused or not
abbrev pub start_state : Result Live RefusedStart → Live
start_state (Ok s) = s
start_state (Err e) = e.state

-- ---- what the calls answer and leave: an end or the count of the ends, or a refusal, and the state, which a refusal leaves as it was
unfoldable pub state_after : Live → Outcome Next → Live
state_after s (refused n) = s
state_after s (gives r) = r.state

-- the end handed out, of a call with at most one
unfoldable pub end_for : List Point3D → Option Point3D
end_for [] = None
end_for (p ∷ ps) = Some p

unfoldable pub end_given : Outcome Next → Outcome (Option Point3D)
end_given (refused n) = refused n
end_given (gives r) = gives (end_for r.ends)

-- a point fed or a close: its answer and the state afterwards
pub record Fed (o : Outcome Next) (s s' : Live) (r : Result (Option Point3D) Refusal) : Type 0 where
  pub says : outcome r ≡ end_given o
  pub state : s' ≡ state_after s o

-- ---- a new tolerance, which hands out several
unfoldable pub ends_given : Outcome Next → Outcome (List Point3D)
ends_given (refused n) = refused n
ends_given (gives r) = gives r.ends

-- a call: its answer, the output and the state afterwards
pub record Tuned (o : Outcome Next) (s s' : Live) (out out' : List Float) (r : Result ℕ Refusal) : Type 0 where
  pub wrote : Wrote (flat triple) (ends_given o) out out' r
  pub state : s' ≡ state_after s o
