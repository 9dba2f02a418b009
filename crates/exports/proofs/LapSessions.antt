-- What an asking or a commit came to, from its answer. Assumes nothing.
use Prim.Native.Nat.{ℕ}
use mathlib.Core.Path.{◌≡◌, refl, sym, ap, ◌∙◌}
use mathlib.Core.List.{List}
use native.Mathlib.Omega.{arith}
use lib.Ieee.{Float}
use Rattle.std.specs.Prelude.{Result, Ok, Err}
use Rattle.geo.specs.declared.refusal.Refusal.{Refusal}
use Rattle.geo.specs.Outcome.{Outcome, refused, gives, left}
use Rattle.geo.specs.Refusal.{number}
use Rattle.geo.specs.Wrote.{answer}
use Rattle.lap_session.specs.declared.session.Session.{Session}
use Rattle.lap_session.specs.declared.session.Ticket.{Ticket}
use Rattle.lap_session.specs.Session.{Answered, asked_as, Stored, bytes_stored, session_after, Commits}
use Rattle.exports.specs.Plain.{number_of, told}
use Rattle.exports.specs.SessionState.{TicketLent, CommitLent}

-- ---- an asking
module _ (o : Outcome Answered) (k : ℕ) (t : Float) (e n m : ℕ) where
  pub ticket-lent : (x : Ticket) → gives x ≡ asked_as o → TicketLent o k x.lap t x.tolerance e x.edit n x.count m x.next 0
  unfolding number_of told asked_as
  ticket-lent x = go o
    where
      go : (o : Outcome Answered) → gives x ≡ asked_as o → TicketLent o k x.lap t x.tolerance e x.edit n x.count m x.next 0
      go (refused i) a = absurd (let y : ◌≡◌ {A = ℕ} 0 1 = cc in omega arith)
      go (gives b) a = let z : x ≡ b.ticket = cc in rw z (record { says = refl; lap = refl; tolerance = refl; edit = refl; count = refl; next = refl })

  pub ticket_not_lent : (i r : ℕ) → refused i ≡ asked_as o → r ≡ i → TicketLent o k k t t e e n n m m r
  unfolding number_of told asked_as
  ticket_not_lent i r a h = go o a
    where
      go : (o : Outcome Answered) → refused i ≡ asked_as o → TicketLent o k k t t e e n n m m r
      go (refused j) a = let z : i ≡ j = cc in record { says = h ∙ z; lap = refl; tolerance = refl; edit = refl; count = refl; next = refl }
      go (gives b) a = absurd (let y : ◌≡◌ {A = ℕ} 0 1 = cc in omega arith)

-- ---- a commit
module _ (s s' : Session) (o : Outcome Stored) (out out' : List ℕ) (r : Result ℕ Refusal) (w : Commits s s' o out out' r) (e n : ℕ) where
  pub commit_lent : (i : ℕ) → r ≡ Ok i → CommitLent o e s'.edits n i 0 × (out' ≡ left (λ (bytes : List ℕ). bytes) out (bytes_stored o))
  unfolding number_of told bytes_stored session_after answer
  commit_lent i h = (go o (sym (rw h) ∙ w.wrote.says) w.session, w.wrote.leaves)
    where
      go : (o : Outcome Stored) → gives i ≡ answer (bytes_stored o) → s' ≡ session_after s o → CommitLent o e s'.edits n i 0
      go (refused j) a z = absurd (let y : ◌≡◌ {A = ℕ} 0 1 = cc in omega arith)
      go (gives b) a z = record { says = refl; edits = ap (λ (x : Session). x.edits) z; written = cc }

  pub commit_not_lent : (cause : Refusal) (i : ℕ) → r ≡ Err cause → i ≡ number cause → CommitLent o e e n n i × (out' ≡ left (λ (bytes : List ℕ). bytes) out (bytes_stored o))
  unfolding number_of told bytes_stored answer
  commit_not_lent cause i h q = (go o (sym (rw h) ∙ w.wrote.says), w.wrote.leaves)
    where
      go : (o : Outcome Stored) → refused (number cause) ≡ answer (bytes_stored o) → CommitLent o e e n n i
      go (refused j) a = let z : number cause ≡ j = cc in record { says = q ∙ z; edits = refl; written = refl }
      go (gives b) a = absurd (let y : ◌≡◌ {A = ℕ} 0 1 = cc in omega arith)
