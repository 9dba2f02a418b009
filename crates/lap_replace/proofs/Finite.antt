-- Every number of a fitted lap is finite: recorded laps, and where they start, are in the domain. Assumes nothing.
use Prim.Native.Nat.{ℕ, zero, suc, ◌≤◌, ◌<◌}
use mathlib.Core.Path.{◌≡◌}
use mathlib.Core.Bool.{Bool, true}
use mathlib.Core.List.{List, [], ◌∷◌, map}
use native.Mathlib.Omega.{arith}
use lib.ListN.{length, get_or}
use lib.Ieee.{Float}
use Rattle.geo.specs.declared.types.Point3D.{Point3D}
use Rattle.geo.specs.declared.types.Command.{Command}
use Rattle.geo.specs.Lent.{origin, end_of}
use Rattle.geo.specs.Domain.{command_in}
use Rattle.file.specs.Command.{decoded}
use Rattle.pieces.specs.declared.pieces.Rule.{Rule}
use Rattle.course.specs.Course.{fit_on, end_on}
use Rattle.course.specs.Finite.{FiniteNumbers, CommandsIn}
use Rattle.course.proofs.FiniteCenters.{Placed}
use Rattle.course.proofs.FiniteCourse.{end-placed, origin-placed, course_finite}
use Rattle.laps.specs.File.{Lap, domain_ok, lap_ok, lap_tested, laps_ok}
use Rattle.laps.proofs.Here.{cond_false}
use Rattle.lap_fit.specs.Fit.{lap_end, start_from, most_lap, laps_most}

-- the commands of a lap that passes row 5
near-from : (first : Bool) (l : Lap) → lap_ok domain_ok first l ≡ true → CommandsIn (map decoded l)
unfolding lap_ok domain_ok
near-from first [] e = tt
near-from first (c ∷ l) e = let a = cond_false (command_in (decoded c)) _ e in (a.0, near-from _ l a.1)

pub near : (must : Bool) (l : Lap) → lap_tested domain_ok must l ≡ true → CommandsIn (map decoded l)
unfolding lap_tested
near must l e = near-from _ l e

-- they end in the domain
ends-placed : (p : Point3D) (cs : List Command) → Placed 20 p → CommandsIn cs → Placed 20 (end_on p cs)
unfolding end_on
ends-placed p [] P h = P
ends-placed p (c ∷ cs) P h = ends-placed (end_of c) cs (end-placed c h.0) h.1

pub lap-placed : (p : Point3D) (l : Lap) → Placed 20 p → CommandsIn (map decoded l) → Placed 20 (lap_end p l)
unfolding lap_end
lap-placed p l P h = ends-placed p (map decoded l) P h

-- each lap, and its start
pub at_in : (must : Bool) (p : Point3D) (ls : List Lap) (i : ℕ) → laps_ok domain_ok must ls ≡ true → Placed 20 p → i < length ls → Placed 20 (start_from p ls i) × CommandsIn (map decoded (get_or ls i []))
unfolding laps_ok start_from
at_in must p [] i e P h = absurd (omega arith)
at_in must p (l ∷ ls) zero e P h = (P, near must l (cond_false (lap_tested domain_ok must l) _ e).0)
at_in must p (l ∷ ls) (suc i) e P h =
    let a = cond_false (lap_tested domain_ok must l) _ e in at_in _ (lap_end p l) ls i a.1 (lap-placed p l P (near must l a.0)) (omega arith)

-- the most of one lap is in that of all
most_at : (tol : Float) (p : Point3D) (ls : List Lap) (i : ℕ) → i < length ls → most_lap tol (start_from p ls i) (get_or ls i []) ≤ laps_most tol p ls
unfolding laps_most start_from
most_at tol p [] i h = absurd (omega arith)
most_at tol p (l ∷ ls) zero h = omega arith
most_at tol p (l ∷ ls) (suc i) h = let a = most_at tol (lap_end p l) ls i (omega arith) in omega (arith, a)

pub lap-finite : (r : Rule) (ls : List Lap) (i : ℕ) → laps_ok domain_ok true ls ≡ true → laps_most r.tolerance origin ls ≤ 800 → i < length ls
    → FiniteNumbers (fit_on r (start_from origin ls i) (map decoded (get_or ls i [])))
unfolding most_lap
lap-finite r ls i e m h =
    let a = at_in true origin ls i e (origin-placed 20) h in
    let b = most_at r.tolerance origin ls i h in course_finite r (start_from origin ls i) (map decoded (get_or ls i [])) a.0 a.1 (omega (arith, b, m))
