-- Asking and then committing is replacing (document 02, §9), and what that rests on: the fit of a lap is a lap that a commit accepts. Definitions only; proofs/Demand.antt has the proofs.
use Rattle.std.specs.Prelude.{ℕ, ◌≤◌, ◌<◌, ◌≡◌, Bool, true, List, length, Float}
use Rattle.floats.specs.Ops.{◌≺◌, +0}
use Rattle.geo.specs.declared.types.Point3D.{Point3D}
use Rattle.geo.specs.Domain.{point3_in}
use Rattle.geo.specs.Outcome.{gives}
use Rattle.file.specs.Command.{Held, HeldPoint}
use Rattle.pieces.specs.declared.pieces.Rule.{Rule}
use Rattle.laps.specs.File.{Lap, lacks, form_ok, domain_ok, fitted_ok, finite_ok, lap_tested}
use Rattle.lap_fit.specs.Fit.{fit_lap, most_lap}
use Rattle.lap_replace.specs.Replace.{replace_lap}
use Rattle.lap_session.specs.declared.session.Session.{Session}
use Rattle.lap_session.specs.Session.{edited, most_edits, Answered, ask_lap, commit_lap, bytes_stored}

-- The fit of a lap that passes row 4 passes it, as a fitted lap too: its Move stands first or is lacking as in the lap, it has no Bezier, and its unused numbers are +0.
abbrev pub FittedFormed : Type 0
FittedFormed =
    (r : Rule) → (+0 ≺ r.tolerance) ≡ true
    → (p : Point3D) (must : Bool) (l : Lap) → 0 < length l → lap_tested form_ok must l ≡ true
    → (lacks (fit_lap r p l) ≡ lacks l) × (lap_tested fitted_ok must (fit_lap r p l) ≡ true)

-- The fit of a lap that passes row 5, from a start in the domain that an f64 can hold, has finite numbers alone.
abbrev pub FittedFinite : Type 0
FittedFinite =
    (r : Rule) (p : Point3D) (must : Bool) (l : Lap) → HeldPoint p → point3_in p ≡ true → lap_tested domain_ok must l ≡ true → most_lap r.tolerance p l ≤ 800
    → lap_tested finite_ok must (fit_lap r p l) ≡ true

-- "Where they hold the bytes of the asking, asking and replacement accept, and neither 12 nor 13 is due, asking and then committing has the effect of replacement": the commit
-- is accepted, its file is the replacement's, and its session is the next one; so it answers what replacement answers, and leaves its output as replacement does
abbrev pub AskThenCommit : Type 0
AskThenCommit =
    (s f : List ℕ) (k : ℕ) (ks : List ℕ) (ns : List Float) (tol : Float) → Held ns
    → (e : Session) (room : ℕ) (a : Answered) → ask_lap s f e k ks ns tol room ≡ gives a
    → (r : ℕ) (g : List ℕ) → replace_lap s f k ks ns tol r ≡ gives g
    → (e' : Session) → a.ticket.edit ≡ e'.edits → e'.edits < most_edits
    → commit_lap a.ticket e' s f a.bytes r ≡ gives (record { bytes = g; session = edited e' })

-- the same as an equation of outcomes
abbrev pub SameOutcome : Type 0
SameOutcome =
    (s f : List ℕ) (k : ℕ) (ks : List ℕ) (ns : List Float) (tol : Float) → Held ns
    → (e : Session) (room : ℕ) (a : Answered) → ask_lap s f e k ks ns tol room ≡ gives a
    → (r : ℕ) (g : List ℕ) → replace_lap s f k ks ns tol r ≡ gives g
    → (e' : Session) → a.ticket.edit ≡ e'.edits → e'.edits < most_edits
    → bytes_stored (commit_lap a.ticket e' s f a.bytes r) ≡ replace_lap s f k ks ns tol r
