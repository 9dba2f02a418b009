-- Document 02, §9, "Look first, then store": the asking for a lap's replacement and its commit, each with the rows that refuse it. Definitions only.
use Rattle.std.specs.Prelude.{ℕ, ◌+◌, ◌*◌, ◌/◌, Bool, false, not, ◌&&◌, List, [], ◌∷◌, ◌++◌, ◌≡◌, length, ltb, leb, eqb, Float, if◌then◌else◌, Result}
use Rattle.geo.specs.Domain.{whole}
use Rattle.geo.specs.declared.refusal.Refusal.{Refusal}
use Rattle.geo.specs.Outcome.{Row, row, refusal, Outcome, refused, gives, unless, left}
use Rattle.geo.specs.Refusal.{outcome}
use Rattle.geo.specs.Wrote.{Wrote}
use Rattle.file.specs.Command.{commands_at}
use Rattle.pieces.specs.Pieces.{laps_rule}
use Rattle.laps.specs.File.{Lap, laps_of, body, encode, fitted_ok, finite_ok, lap_ok, lap_tested}
use Rattle.lap_swap.specs.Swap.{next_lacks, new_fit, next_fit, stored_laps}
use Rattle.lap_checks.specs.Checks.{NewLap, lent_new, new_rows, most_with, replace_rows}
use Rattle.lap_session.specs.declared.session.Session.{Session}
use Rattle.lap_session.specs.declared.session.Ticket.{Ticket}

-- ---- a session
-- "each accepted commit raises the edit number by 1, from 0"
abbrev pub begun : Session
begun = record { edits = 0 }

abbrev pub edited : Session → Session
edited e = record { edits = e.edits + 1 }

-- "13 when the session stands at 1,000,000 or above"
abbrev pub most_edits : ℕ
most_edits = 1000000

-- ---- asking
-- "9 for a lent buffer below the lap's own most"; "with 9 below their two mosts" (§13): the laps that are fitted again, 73 bytes a command
unfoldable pub ask_rows : List ℕ → List ℕ → ℕ → NewLap → Float → ℕ → List Row
ask_rows s f k new tol room = new_rows s f k new tol ++ (row 8 (ltb 800 (most_with new k s f)) ∷ row 9 (ltb room (73 * new.most)) ∷ [])

-- what an accepted asking gives: "a ticket with the lap, the tolerance and the session's edit number", which "holds each one's command count"; and the bytes of the laps that
-- are fitted again, in order, as a file has them
pub record Answered : Type 0 where
  pub ticket : Ticket
  pub bytes : List ℕ

abbrev pub ticket_for : Session → ℕ → Float → Lap → Lap → Ticket
ticket_for e k tol new next = record { lap = k; tolerance = tol; edit = e.edits; count = length new; next = length next }

abbrev pub answer_for : Session → ℕ → Float → Lap → Lap → Answered
answer_for e k tol new next = record { ticket = ticket_for e k tol new next; bytes = body new ++ body next }

-- the asking to replace lap k of the recorded file s, whose fit is f, by commands that are lent as ks and ns; the lent buffer has `room` bytes
unfoldable pub ask_lap : List ℕ → List ℕ → Session → ℕ → List ℕ → List Float → Float → ℕ → Outcome Answered
ask_lap s f e k ks ns tol room =
    unless (refusal (ask_rows s f k (lent_new tol (laps_of s) k ks ns) tol room))
    (answer_for e k tol (new_fit (laps_rule tol) (laps_of s) k ks ns) (next_fit (laps_rule tol) (laps_of s) k ks ns))

-- ---- committing
-- whether the lap behind lap k is fitted again: "a lap number outside the file counts as without a next lap" (§13)
unfoldable pub refits_next : ℕ → List Lap → Bool
refits_next k ls = not (eqb k 0) && next_lacks k ls

-- "counts that do not add up to the buffer's commands, or are 0 for a lap that is refitted or not 0 for one that is not, give 3": n and m are the counts of lap k and of the
-- lap behind it, `all` the buffer's commands
unfoldable pub counts_agree : ℕ → List Lap → ℕ → ℕ → ℕ → Bool
counts_agree k ls all n m = eqb (n + m) all && not (eqb n 0) && (if refits_next k ls then not (eqb m 0) else eqb m 0)

-- the two laps of a part, by the counts of its ticket
abbrev pub first_part : Ticket → List ℕ → Lap
first_part t part = commands_at part 0 t.count

abbrev pub next_part : Ticket → List ℕ → Lap
next_part t part = commands_at part (73 * t.count) t.next

-- row 4: the new lap's Move as replacement asks for it, "and a Move in the next lap's part" gives 4; no Bezier
unfoldable pub part_formed : Ticket → List ℕ → Bool
part_formed t part = lap_tested fitted_ok (leb t.lap 1) (first_part t part) && lap_ok fitted_ok false (next_part t part)

-- row 5: "its numbers need only be finite"
unfoldable pub part_finite : Ticket → List ℕ → Bool
part_finite t part = lap_tested finite_ok (leb t.lap 1) (first_part t part) && lap_ok finite_ok false (next_part t part)

-- "in the new lap's place, that part": it is as long as it is
abbrev pub part_new : Ticket → List Lap → List ℕ → NewLap
part_new t ls part =
    record {
      whole = whole 73 (length part);
      few = leb (length part / 73) 800;
      counted = counts_agree t.lap ls (length part / 73) t.count t.next;
      formed = part_formed t part;
      near = part_finite t part;
      most = length part / 73;
    }

-- "12 when the ticket's edit number is not the session's; 13 when the session stands at 1,000,000 or above; a commit checks both first, in this order"
unfoldable pub commit_rows : Ticket → Session → List ℕ → List ℕ → List ℕ → ℕ → List Row
commit_rows t e s f part room =
    row 12 (not (eqb t.edit e.edits))
    ∷ row 13 (leb most_edits e.edits)
    ∷ replace_rows s f t.lap (part_new t (laps_of s) part) t.tolerance room

-- what an accepted commit gives: the bytes of the file, and the session
pub record Stored : Type 0 where
  pub bytes : List ℕ
  pub session : Session

-- "writes what replacement writes, that part as it stands being the lap's body"
abbrev pub stored_by : Ticket → Session → List ℕ → List ℕ → List ℕ → Stored
stored_by t e s f part = record { bytes = encode (stored_laps t.lap (laps_of s) part t.count t.next (laps_of f)); session = edited e }

unfoldable pub commit_lap : Ticket → Session → List ℕ → List ℕ → List ℕ → ℕ → Outcome Stored
commit_lap t e s f part room = unless (refusal (commit_rows t e s f part room)) (stored_by t e s f part)

-- ---- what the calls answer and leave
-- an asking: a ticket or the number of the refusal
unfoldable pub asked_as : Outcome Answered → Outcome Ticket
asked_as (refused n) = refused n
asked_as (gives a) = gives a.ticket

unfoldable pub bytes_asked : Outcome Answered → Outcome (List ℕ)
bytes_asked (refused n) = refused n
bytes_asked (gives a) = gives a.bytes

-- its buffer afterwards: the bytes at the front, and then what stood there
pub record Answers (o : Outcome Answered) (buffer buffer' : List ℕ) (r : Result Ticket Refusal) : Type 0 where
  pub says : outcome r ≡ asked_as o
  pub leaves : buffer' ≡ left (λ (bytes : List ℕ). bytes) buffer (bytes_asked o)

-- a commit: the file's bytes at the front of the output; a refusal leaves the session as it came
unfoldable pub bytes_stored : Outcome Stored → Outcome (List ℕ)
bytes_stored (refused n) = refused n
bytes_stored (gives a) = gives a.bytes

unfoldable pub session_after : Session → Outcome Stored → Session
session_after e (refused n) = e
session_after e (gives a) = a.session

pub record Commits (e e' : Session) (o : Outcome Stored) (out out' : List ℕ) (r : Result ℕ Refusal) : Type 0 where
  pub wrote : Wrote (λ (bytes : List ℕ). bytes) (bytes_stored o) out out' r
  pub session : e' ≡ session_after e o
