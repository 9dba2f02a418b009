-- Lists of calls, each given the last one's session: what holds of the edit number, and of a ticket (document 02, §9). Definitions only; proofs/Sessions.antt has the proofs.
use Rattle.std.specs.Prelude.{ℕ, ◌+◌, ◌≤◌, ◌≡◌, List, [], ◌∷◌, Float}
use Rattle.geo.specs.Outcome.{Outcome, refused, gives}
use Rattle.lap_session.specs.declared.session.Session.{Session}
use Rattle.lap_session.specs.declared.session.Ticket.{Ticket}
use Rattle.lap_session.specs.Session.{most_edits, Stored, commit_lap, session_after}

-- a call with all that is lent to it but the session: both files, and the room of its buffer or output. Any ticket and any part may be forged
pub data Call : Type 0 where
  asks : List ℕ → List ℕ → ℕ → List ℕ → List Float → Float → ℕ → Call
  commits : Ticket → List ℕ → List ℕ → List ℕ → ℕ → Call
  replaces : List ℕ → List ℕ → ℕ → List ℕ → List Float → Float → ℕ → Call

-- the session behind a call: an asking and a replacement leave it
unfoldable pub behind_call : Session → Call → Session
behind_call e (asks s f k ks ns tol room) = e
behind_call e (commits t s f part room) = session_after e (commit_lap t e s f part room)
behind_call e (replaces s f k ks ns tol room) = e

-- behind a list of calls, "each call being given the last one's session"
unfoldable pub behind_all : Session → List Call → Session
behind_all e [] = e
behind_all e (c ∷ cs) = behind_all (behind_call e c) cs

-- how many commits of a list are accepted
unfoldable pub count_stored : Outcome Stored → ℕ
count_stored (refused n) = 0
count_stored (gives a) = 1

unfoldable pub stored_in : Session → List Call → ℕ
stored_in e [] = 0
stored_in e (asks s f k ks ns tol room ∷ cs) = stored_in e cs
stored_in e (commits t s f part room ∷ cs) = count_stored (commit_lap t e s f part room) + stored_in (behind_call e (commits t s f part room)) cs
stored_in e (replaces s f k ks ns tol room ∷ cs) = stored_in e cs

-- "a ticket serves once": after its accepted commit, whatever is called then, in any order, accepted or refused, every later commit with it is refused by 12
abbrev pub ServesOnce : Type 0
ServesOnce =
    (t : Ticket) (e : Session) (s f part : List ℕ) (room : ℕ) (a : Stored) → commit_lap t e s f part room ≡ gives a
    → (calls : List Call) (s' f' part' : List ℕ) (room' : ℕ) → commit_lap t (behind_all a.session calls) s' f' part' room' ≡ refused 12

-- "each accepted commit raises the edit number by 1", and nothing else does
abbrev pub RaisedByCommits : Type 0
RaisedByCommits = (e : Session) (calls : List Call) → (behind_all e calls).edits ≡ e.edits + stored_in e calls

-- so the edit number never falls
abbrev pub NeverFalls : Type 0
NeverFalls = (e : Session) (calls : List Call) → e.edits ≤ (behind_all e calls).edits

-- and never passes 1,000,000, where it starts at or below it, as from 0
abbrev pub NeverPasses : Type 0
NeverPasses = (e : Session) (calls : List Call) → e.edits ≤ most_edits → (behind_all e calls).edits ≤ most_edits

-- a session that is forged at or above 1,000,000 takes no commit, and stays as it is
abbrev pub ForgedStays : Type 0
ForgedStays = (e : Session) (calls : List Call) → most_edits ≤ e.edits → behind_all e calls ≡ e
