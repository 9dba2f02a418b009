-- A ticket and a session as a caller lends them, field by field, and what an asking and a commit leave in plain numbers. Definitions only.
use Rattle.std.specs.Prelude.{ℕ, ◌≡◌, length, Float}
use Rattle.geo.specs.Outcome.{Outcome}
use Rattle.lap_session.specs.declared.session.Session.{Session}
use Rattle.lap_session.specs.declared.session.Ticket.{Ticket}
use Rattle.lap_session.specs.Session.{Answered, Stored}
use Rattle.exports.specs.Plain.{number_of, told}

abbrev pub lent_session : ℕ → Session
lent_session edits = record { edits = edits }

abbrev pub lent_ticket : ℕ → Float → ℕ → ℕ → ℕ → Ticket
lent_ticket lap tol edit count next = record { lap = lap; tolerance = tol; edit = edit; count = count; next = next }

-- ---- the promises, each of an outcome o and of the lent memory before and after: as it was where the call is refused
-- an asking writes the whole ticket
pub record TicketLent (o : Outcome Answered) (k k' : ℕ) (t t' : Float) (e e' n n' m m' r : ℕ) : Type 0 where
  pub says : r ≡ number_of o
  pub lap : k' ≡ told (λ a. a.ticket.lap) k o
  pub tolerance : t' ≡ told (λ a. a.ticket.tolerance) t o
  pub edit : e' ≡ told (λ a. a.ticket.edit) e o
  pub count : n' ≡ told (λ a. a.ticket.count) n o
  pub next : m' ≡ told (λ a. a.ticket.next) m o

-- a commit writes the session's edit number, and how many bytes the file has
pub record CommitLent (o : Outcome Stored) (e e' n n' r : ℕ) : Type 0 where
  pub says : r ≡ number_of o
  pub edits : e' ≡ told (λ a. a.session.edits) e o
  pub written : n' ≡ told (λ a. length a.bytes) n o
