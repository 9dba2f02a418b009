-- The numbers of a fit, read back from its bytes, are finite. Assumes nothing.
use Prim.Native.Nat.{ℕ, ◌≤◌}
use mathlib.Core.Path.{◌≡◌, refl, ap, ◌∙◌}
use mathlib.Core.Bool.{Bool, true}
use mathlib.Core.List.{List, [], ◌∷◌, ◌++◌, map}
use Rattle.geo.specs.declared.types.Point3D.{Point3D}
use Rattle.geo.specs.declared.types.Command.{Command}
use Rattle.geo.specs.declared.types.Command.TheVariants.{Move, Line, Arc, Bezier}
use Rattle.geo.specs.Lent.{triple, origin, numbers_of}
use Rattle.geo.specs.Domain.{is_finite, finite3}
use Rattle.file.specs.Command.{decoded, enc, laid, HeldPoint}
use Rattle.file.proofs.RoundTrip.{HeldCommand, laid_end, laid-second, laid_third}
use Rattle.file.proofs.Stores.{enc-move, enc-line, enc-arc, enc_bezier}
use Rattle.pieces.specs.declared.pieces.Rule.{Rule}
use Rattle.course.specs.Course.{fit_on}
use Rattle.course.specs.Finite.{AllFinite, FiniteNumbers, CommandsIn}
use Rattle.course.proofs.FiniteCenters.{Placed}
use Rattle.course.proofs.FiniteCourse.{course_finite}
use Rattle.laps.specs.File.{Lap, finite_numbers, finite_ok, lap_ok}
use Rattle.lap_fit.specs.Fit.{fit_lap, most_lap}
use Rattle.session_laws.proofs.Held.{HeldCommands, held-origin, fit-held, lap-held}

three-finite : (p : Point3D) → is_finite p.x ≡ true → is_finite p.y ≡ true → is_finite p.z ≡ true → finite3 p ≡ true
unfolding finite3
three-finite p a b c = rw (a, b, c)

-- ---- the bytes of a command whose numbers are held and finite
nine-read : (k : ℕ) (p q r : Point3D) → HeldPoint p → HeldPoint q → HeldPoint r → AllFinite (triple p ++ triple q ++ triple r) → finite_numbers (laid k p q r) ≡ true
unfolding finite_numbers
nine-read k p q r a b c h =
    let x = three-finite p h.0 h.1.0 h.1.1.0 in
    let y = three-finite q h.1.1.1.0 h.1.1.1.1.0 h.1.1.1.1.1.0 in
    let z = three-finite r h.1.1.1.1.1.1.0 h.1.1.1.1.1.1.1.0 h.1.1.1.1.1.1.1.1.0 in
    rw (laid_end k p q r a, laid-second k p q r b, laid_third k p q r c, x, y, z)

command-read : (c : Command) → HeldCommand c → AllFinite (numbers_of c) → finite_numbers (enc c) ≡ true
unfolding numbers_of
command-read (Move p) h g = ap finite_numbers (enc-move p) ∙ nine-read 0 p origin origin h held-origin held-origin g
command-read (Line p) h g = ap finite_numbers (enc-line p) ∙ nine-read 1 p origin origin h held-origin held-origin g
command-read (Arc p o n) h g = ap finite_numbers (enc-arc p o n) ∙ nine-read 2 p o n h.0 h.1 h.2 g
command-read (Bezier p c d) h g = ap finite_numbers (enc_bezier p c d) ∙ nine-read 3 p c d h.0 h.1 h.2 g

commands-read : (first : Bool) (cs : List Command) → HeldCommands cs → FiniteNumbers cs → lap_ok finite_ok first (map enc cs) ≡ true
unfolding lap_ok finite_ok
commands-read first [] h g = refl
commands-read first (c ∷ cs) h g = rw (command-read c h.0 g.0) (commands-read _ cs h.1 g.1)

-- The fit of a lap of the domain, from a start in it, passes row 5 of a fitted lap.
pub fit-read : (r : Rule) (p : Point3D) (first : Bool) (l : Lap) → HeldPoint p → Placed 20 p → CommandsIn (map decoded l) → most_lap r.tolerance p l ≤ 800 → lap_ok finite_ok first (fit_lap r p l) ≡ true
unfolding fit_lap most_lap
fit-read r p first l h P g m = commands-read first (fit_on r p (map decoded l)) (fit-held r p (map decoded l) h (lap-held l)) (course_finite r p (map decoded l) P g m)
