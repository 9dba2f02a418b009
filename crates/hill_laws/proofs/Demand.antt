-- The fit for hills: the named statements of specs/Hills.antt hold. Assumes nothing.
use Prim.Native.Nat.{ℕ, zero, suc, ◌+◌, ◌-◌}
use mathlib.Core.Path.{◌≡◌, refl, sym, ap, ◌∙◌, subst}
use mathlib.Core.Bool.{Bool, true}
use mathlib.Core.List.{List, [], ◌∷◌, map}
use native.Mathlib.Omega.{arith}
use lib.Dec.{T}
use lib.ListN.{get_or}
use lib.Ieee.{Float, binary64, fits}
use lib.Ieee.Bits.{of_bits-fits}
use Rattle.geo.specs.declared.types.Point3D.{Point3D}
use Rattle.geo.specs.declared.types.Point.{Point}
use Rattle.geo.specs.declared.types.Command.{Command}
use Rattle.geo.specs.declared.types.Command.TheVariants.{Line}
use Rattle.geo.specs.Lent.{origin, end_of, command_of}
use Rattle.geo.specs.Outcome.{refused, gives, unless, refusal}
use Rattle.geo.proofs.Formed.{ends_first}
use Rattle.file.specs.Bytes.{number_at}
use Rattle.file.specs.Command.{decoded, enc, point_from, HeldPoint}
use Rattle.std.specs.Prelude.{None}
use Rattle.trial.specs.Trial.{Arc}
use Rattle.pieces.specs.Pieces.{hills_rule, Piece, pieces_in}
use Rattle.pieces.specs.Commands.{fit_in}
use Rattle.pieces.specs.Laws.{LinePasses, WrittenAs, as_line, as_first, as_second, AllWritten}
use Rattle.pieces.proofs.Laws.{range_fitted, pieces-written}
use Rattle.course.specs.Course.{end_on}
use Rattle.course.proofs.FinitePoints.{point_in}
use Rattle.course.proofs.FiniteCourse.{origin-placed}
use Rattle.laps.specs.File.{Lap, laps_of}
use Rattle.laps.proofs.Turns.{length_laps_of}
use Rattle.lap_fit.specs.Fit.{lap_end, start_from, start_of, file_fit_rows, fit_file_by}
use Rattle.lap_fit.proofs.Accepted.{accepted}
use Rattle.lap_replace.specs.Demand.{lap_at}
use Rattle.lap_replace.proofs.Demand.{laps_are_fitted_by, starts_at_the_end_by, each-lap-gives_by, fit-is-lap-file_by}
use Rattle.lap_replace.proofs.Finite.{at_in}
use Rattle.hill_laws.specs.Hills.{HillsAreFitted, HillsStartAtTheEnd, EachHillLapGives, HillsAreLapFiles, RefusedAsFlat, AllLines, PiecesAreLines, CutWhereTheLineFails, ArcsAreTheRecorded, EachLineIsAStep, HeldEnds, FlatPoints, OneHeight, OneHeightLap}
use Rattle.hill_laws.proofs.Course.{arcs_recorded, hill_lines, flat-points}

-- ---- demand 3's other laws, by the rule for hills
pub hills_are_fitted : HillsAreFitted
hills_are_fitted tol = laps_are_fitted_by (hills_rule tol)

pub hills_start_at_the_end : HillsStartAtTheEnd
hills_start_at_the_end tol = starts_at_the_end_by (hills_rule tol)

pub each_hill_lap-gives : EachHillLapGives
each_hill_lap-gives tol = each-lap-gives_by (hills_rule tol)

pub hills_are_lap_files : HillsAreLapFiles
hills_are_lap_files tol = fit-is-lap-file_by (hills_rule tol)

refused_alike : {A : Type 0} (k n : ℕ) (a b : A) → unless k a ≡ refused n → unless k b ≡ refused n
unfolding unless
refused_alike zero n a b h = absurd (no h)
  where
    no : gives a ≡ refused n → ⊥
    no e = let z : ◌≡◌ {A = ℕ} 0 1 = cc in absurd (omega arith)
refused_alike (suc k) n a b h = let z : suc k ≡ n = cc in ap refused z

-- The rows are the flat fit's.
pub refused_as_flat : RefusedAsFlat
unfolding fit_file_by
refused_as_flat s tol room n = (λ h. refused_alike (refusal (file_fit_rows s tol room)) n _ _ h, λ h. refused_alike (refusal (file_fit_rows s tol room)) n _ _ h)

-- ---- Lines alone
module _ (tol : Float) (at : ℕ → Point3D) where
  no_trial : (c : Point) (d : Bool) (w : ℕ) → None ≡ Arc c d w → ⊥
  no_trial c d w e = let z : ◌≡◌ {A = ℕ} 0 1 = cc in absurd (omega arith)

  a_line : (lo hi : ℕ) (x : Command) → WrittenAs (hills_rule tol) at lo hi x → LinePasses (hills_rule tol) at lo hi × (x ≡ Line (at hi))
  a_line lo hi x (as_line p e) = (p, e)
  a_line lo hi x (as_first c d w f e n) = absurd (no_trial c d w e)
  a_line lo hi x (as_second c d w f e g n) = absurd (no_trial c d w g)

  all_lines : (ps : List Piece) (xs : List Command) → AllWritten (hills_rule tol) at ps xs → AllLines (hills_rule tol) at ps xs
  all_lines [] [] h = tt
  all_lines [] (x ∷ xs) h = h
  all_lines (p ∷ ps) [] h = h
  all_lines (p ∷ ps) (x ∷ xs) h = let a = a_line p.from p.to x h.0 in (a.0, a.1, all_lines ps xs h.1)

-- Each piece is a Line, with a deviation below the tolerance.
pub pieces_are_lines : PiecesAreLines
pieces_are_lines tol pos at lo hi h = all_lines tol at (pieces_in (hills_rule tol) at lo hi) (fit_in (hills_rule tol) at lo hi) (pieces-written (hills_rule tol) pos at lo hi h)

-- A range is cut exactly where its Line fails.
pub cut_where_the_line_fails : CutWhereTheLineFails
cut_where_the_line_fails tol pos at lo hi h =
    let q = range_fitted (hills_rule tol) pos at lo hi h in
    (λ l. q.cut lo hi h (record { line_fails = l; three_fails = refl; least_fails = refl }), λ n. q.uncut lo hi h (λ a. n a.line_fails))

-- The Arcs of a fit are the recorded ones.
pub arcs_are_the_recorded : ArcsAreTheRecorded
arcs_are_the_recorded tol p cs = arcs_recorded tol p cs

-- Each Line is one thinned step.
pub each-line-is_a_step : EachLineIsAStep
each-line-is_a_step tol f dom s = hill_lines tol f dom s

-- ---- one height
pub one_height : OneHeight
one_height tol f dom p P h cs c k n z e = flat-points tol f dom p (point_in p P) h cs c k n z e

-- what is read from a file are values of the format
read_held : (s : List ℕ) (at : ℕ) → T (fits binary64 (number_at s at))
unfolding number_at
read_held s at = of_bits-fits binary64 _

point-held : (s : List ℕ) (at : ℕ) → HeldPoint (point_from s at)
unfolding point_from
point-held s at = (read_held s at, read_held s (at + 8), read_held s (at + 16))

end-held : (c : List ℕ) → HeldPoint (end_of (decoded c))
unfolding decoded
end-held c = subst HeldPoint (sym (ends_first (get_or c 0 0) (point_from c 1) (point_from c 25) (point_from c 49))) (point-held c 1)

ends_held : (l : Lap) → HeldEnds (map decoded l)
ends_held [] = tt
ends_held (c ∷ l) = (end-held c, ends_held l)

end-on-held : (p : Point3D) (cs : List Command) → HeldPoint p → HeldEnds cs → HeldPoint (end_on p cs)
unfolding end_on
end-on-held p [] h k = h
end-on-held p (c ∷ cs) h k = end-on-held (end_of c) cs k.0 k.1

lap-end-held : (p : Point3D) (l : Lap) → HeldPoint p → HeldPoint (lap_end p l)
unfolding lap_end
lap-end-held p l h = end-on-held p (map decoded l) h (ends_held l)

start-held : (p : Point3D) (ls : List Lap) (i : ℕ) → HeldPoint p → HeldPoint (start_from p ls i)
unfolding start_from
start-held p [] i h = h
start-held p (l ∷ ls) zero h = h
start-held p (l ∷ ls) (suc i) h = start-held (lap_end p l) ls i (lap-end-held p l h)

origin-held : HeldPoint origin
origin-held = let h = of_bits-fits binary64 0 in (h, h, h)

-- Of a lap of one height without Beziers the fit has a Line to each of the flat fit's thinned points.
pub one_height_lap : OneHeightLap
one_height_lap tol held s f room e j a b n z h =
    let acc = accepted (hills_rule tol) s room f e in
    let l = length_laps_of s in
    let i = at_in true origin (laps_of s) (j - 1) acc.passed.file.near (origin-placed 20) (omega arith) in
    let q : FlatPoints tol (start_of j (laps_of s)) (map decoded (lap_at s j)) =
    flat-points tol held acc.passed.within (start_of j (laps_of s)) (unfold start_of in i.0) (unfold start_of in start-held origin (laps_of s) (j - 1) origin-held)
    (map decoded (lap_at s j)) (unfold lap_at in i.1) (ends_held (lap_at s j)) n z h in
    (q, (laps_are_fitted_by (hills_rule tol) s f room e).1 j a b ∙ ap (map enc) q.fit)
