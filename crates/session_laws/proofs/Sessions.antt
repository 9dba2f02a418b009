-- Lists of calls: the statements of specs/Sessions.antt. Assumes nothing.
use Prim.Native.Nat.{ℕ, ◌+◌, ◌≤◌, ◌<◌}
use mathlib.Core.Path.{◌≡◌, refl, sym, ap, ◌∙◌}
use mathlib.Core.List.{List, [], ◌∷◌}
use native.Mathlib.Omega.{arith}
use Rattle.geo.specs.Outcome.{Outcome, refusal, refused, gives}
use Rattle.geo.proofs.Rows.{unless-refused, unless-given}
use Rattle.lap_session.specs.declared.session.Session.{Session}
use Rattle.lap_session.specs.declared.session.Ticket.{Ticket}
use Rattle.lap_session.specs.Session.{edited, most_edits, commit_rows, Stored, stored_by, commit_lap, session_after}
use Rattle.lap_session.proofs.Rows.{commit_12, commit_passed}
use Rattle.session_laws.specs.Sessions.{asks, commits, replaces, behind_call, behind_all, count_stored, stored_in, ServesOnce, RaisedByCommits, NeverFalls, NeverPasses, ForgedStays}

-- ---- an accepted commit
record Taken (t : Ticket) (e : Session) (a : Stored) : Type 0 where
  current : t.edit ≡ e.edits
  below : e.edits < most_edits
  next : a.session ≡ edited e

taken : (t : Ticket) (e : Session) (s f part : List ℕ) (room : ℕ) (a : Stored) → commit_lap t e s f part room ≡ gives a → Taken t e a
unfolding commit_lap
taken t e s f part room a h =
    let g = unless-given (refusal (commit_rows t e s f part room)) (stored_by t e s f part) a h in
    let p = commit_passed t e s f part room g.0 in
    record { current = p.current; below = p.below; next = sym (ap (λ (x : Stored). x.session) g.1) }

-- ---- one commit: it raises the edit number by 1 where it is accepted, and else leaves the session
module _ (t : Ticket) (e : Session) (s f part : List ℕ) (room : ℕ) where
  one-counted : (session_after e (commit_lap t e s f part room)).edits ≡ e.edits + count_stored (commit_lap t e s f part room)
  one-counted = go (commit_lap t e s f part room) refl
    where
      go : (o : Outcome Stored) → commit_lap t e s f part room ≡ o → (session_after e o).edits ≡ e.edits + count_stored o
      go (refused n) h = unfold session_after count_stored in omega arith
      go (gives a) h = unfold session_after count_stored in ap (λ (x : Session). x.edits) (taken t e s f part room a h).next

  one_below : e.edits ≤ most_edits → (session_after e (commit_lap t e s f part room)).edits ≤ most_edits
  one_below l = go (commit_lap t e s f part room) refl
    where
      go : (o : Outcome Stored) → commit_lap t e s f part room ≡ o → (session_after e o).edits ≤ most_edits
      go (refused n) h = unfold session_after in l
      go (gives a) h = unfold session_after in let w = taken t e s f part room a h in let b = w.below in let n = ap (λ (x : Session). x.edits) w.next in omega (arith, b, n)

  one_stays : most_edits ≤ e.edits → session_after e (commit_lap t e s f part room) ≡ e
  one_stays l = go (commit_lap t e s f part room) refl
    where
      go : (o : Outcome Stored) → commit_lap t e s f part room ≡ o → session_after e o ≡ e
      go (refused n) h = unfold session_after in refl
      go (gives a) h = let b = (taken t e s f part room a h).below in absurd (omega (arith, b, l))

-- ---- all calls
-- Each accepted commit raises the edit number by 1, and nothing else does.
pub raised_by_commits : RaisedByCommits
unfolding behind_all stored_in behind_call
raised_by_commits e [] = omega arith
raised_by_commits e (asks s f k ks ns tol room ∷ cs) = raised_by_commits e cs
raised_by_commits e (commits t s f part room ∷ cs) =
    let a = raised_by_commits (session_after e (commit_lap t e s f part room)) cs in
    let b = one-counted t e s f part room in omega (arith, a, b)
raised_by_commits e (replaces s f k ks ns tol room ∷ cs) = raised_by_commits e cs

-- The edit number never falls.
pub never_falls : NeverFalls
never_falls e cs = let a = raised_by_commits e cs in omega (arith, a)

-- It never passes 1,000,000.
pub never_passes : NeverPasses
unfolding behind_all behind_call
never_passes e [] h = h
never_passes e (asks s f k ks ns tol room ∷ cs) h = never_passes e cs h
never_passes e (commits t s f part room ∷ cs) h = never_passes (session_after e (commit_lap t e s f part room)) cs (one_below t e s f part room h)
never_passes e (replaces s f k ks ns tol room ∷ cs) h = never_passes e cs h

-- A session at or above it stays as it is.
pub forged_stays : ForgedStays
unfolding behind_all behind_call
forged_stays e [] h = refl
forged_stays e (asks s f k ks ns tol room ∷ cs) h = forged_stays e cs h
forged_stays e (commits t s f part room ∷ cs) h = rw (one_stays t e s f part room h) (forged_stays e cs h)
forged_stays e (replaces s f k ks ns tol room ∷ cs) h = forged_stays e cs h

-- A ticket serves once.
pub serves_once : ServesOnce
unfolding commit_lap
serves_once t e s f part room a h cs s' f' part' room' =
    let w = taken t e s f part room a h in
    let x = w.current in
    let y = ap (λ (z : Session). z.edits) w.next in
    let z = never_falls a.session cs in
    let q = behind_all a.session cs in
    let n = commit_12 t q s' f' part' room' (λ g. omega (arith, x, y, z, g)) in
    unless-refused (refusal (commit_rows t q s' f' part' room')) (stored_by t q s' f' part') (omega (arith, n)) ∙ ap refused (sym n)
