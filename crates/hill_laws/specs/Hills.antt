-- The fit for hills (document 02, §14) in words that can be checked: `hill_file s tol room`, which is the fit of a file by `hills_rule tol`. Definitions only; `proofs/Demand.antt` has the
-- proofs.
use Rattle.std.specs.Prelude.{ℕ, ◌≤◌, ◌<◌, ◌≡◌, true, List, [], ◌∷◌, map, drop, T, Float}
use Rattle.std.specs.Float.{binary64}
use Rattle.std.specs.Float.Ieee.{fits, eq}
use Rattle.floats.specs.Ops.{◌≺◌, +0}
use Rattle.geo.specs.declared.types.Point3D.{Point3D}
use Rattle.geo.specs.declared.types.Command.{Command}
use Rattle.geo.specs.declared.types.Command.TheVariants.{Move, Line, Arc, Bezier}
use Rattle.geo.specs.Lent.{end_of}
use Rattle.geo.specs.Domain.{tolerance, point3_in}
use Rattle.geo.specs.Outcome.{refused, gives}
use Rattle.file.specs.Command.{decoded, enc, HeldPoint}
use Rattle.pieces.specs.declared.pieces.Rule.{Rule}
use Rattle.deviations.specs.Line.{line_deviation}
use Rattle.pieces.specs.Pieces.{distance, laps_rule, hills_rule, Piece, pieces_in}
use Rattle.pieces.specs.Commands.{fit_in, chain_fit}
use Rattle.pieces.specs.Laws.{LinePasses, LineFails, CutThere, Uncut}
use Rattle.chain.specs.Parts.{Part, chain, kept, fit_of}
use Rattle.course.specs.Course.{parts_on, fit_on}
use Rattle.course.specs.Demand.{thinned_chain}
use Rattle.course.specs.Finite.{CommandsIn}
use Rattle.laps.specs.File.{lap_count, laps_of}
use Rattle.lap_fit.specs.Fit.{start_of, fit_file, hill_file}
use Rattle.lap_replace.specs.Demand.{lap_at, LapsAreFittedBy, StartsAtTheEndBy, EachLapGivesBy, FitIsLapFileBy}

-- ---- "demand 3's other laws hold here by this measure": each is the law of the flat fit, with another rule. The distance of `hills_rule` is that in x, y and z to the segment
-- each lap is the definition's fit of the recorded lap from its start
abbrev pub HillsAreFitted : Type 0
HillsAreFitted = (tol : Float) → LapsAreFittedBy (hills_rule tol)

-- a lap that lacks its Move starts at the recorded end of the lap before it
abbrev pub HillsStartAtTheEnd : Type 0
HillsStartAtTheEnd = (tol : Float) → StartsAtTheEndBy (hills_rule tol)

-- what each chain of each lap gives: one command for each piece in order, each step in one piece, each deviation below the tolerance, each thinned-out point within it of its
-- kept neighbours' segment in space, and the cut rule; and each number that is written is finite
abbrev pub EachHillLapGives : Type 0
EachHillLapGives = (tol : Float) → EachLapGivesBy (hills_rule tol)

abbrev pub HillsAreLapFiles : Type 0
HillsAreLapFiles = (tol : Float) → FitIsLapFileBy (hills_rule tol)

-- It is refused exactly where the flat fit is, by the same row.
abbrev pub RefusedAsFlat : Type 0
RefusedAsFlat =
    (s : List ℕ) (tol : Float) (room n : ℕ)
    → (fit_file s tol room ≡ refused n → hill_file s tol room ≡ refused n) × (hill_file s tol room ≡ refused n → fit_file s tol room ≡ refused n)

-- ---- "makes no new Arcs (in its cut rule both arc trials count as failed), keeps recorded ones"
-- each piece is a Line to its last point, with a deviation over the piece below the tolerance
abbrev pub AllLines : Rule → (ℕ → Point3D) → List Piece → List Command → Type 0
AllLines r at [] [] = Unit
AllLines r at [] (x ∷ xs) = ⊥
AllLines r at (p ∷ ps) [] = ⊥
AllLines r at (p ∷ ps) (x ∷ xs) = LinePasses r at p.from p.to × (x ≡ Line (at p.to)) × AllLines r at ps xs

abbrev pub PiecesAreLines : Type 0
PiecesAreLines =
    (tol : Float) → (+0 ≺ tol) ≡ true → (at : ℕ → Point3D) (lo hi : ℕ) → lo < hi
    → AllLines (hills_rule tol) at (pieces_in (hills_rule tol) at lo hi) (fit_in (hills_rule tol) at lo hi)

-- "a range is cut exactly when its Line fails", at that Line's first farthest point
abbrev pub CutWhereTheLineFails : Type 0
CutWhereTheLineFails =
    (tol : Float) → (+0 ≺ tol) ≡ true → (at : ℕ → Point3D) (lo hi : ℕ) → lo < hi
    → (LineFails (hills_rule tol) at lo hi → CutThere (hills_rule tol) at lo (line_deviation (distance (hills_rule tol)) at lo hi).index hi)
    × ((LineFails (hills_rule tol) at lo hi → ⊥) → Uncut (hills_rule tol) at lo hi)

-- the Arcs of commands, as they stand and in their order
unfoldable pub arcs_of : List Command → List Command
arcs_of [] = []
arcs_of (Move p ∷ cs) = arcs_of cs
arcs_of (Line p ∷ cs) = arcs_of cs
arcs_of (Arc p o n ∷ cs) = Arc p o n ∷ arcs_of cs
arcs_of (Bezier p c d ∷ cs) = arcs_of cs

-- the Arcs of a lap's fit are the recorded ones
abbrev pub ArcsAreTheRecorded : Type 0
ArcsAreTheRecorded = (tol : Float) (p : Point3D) (cs : List Command) → arcs_of (fit_on (hills_rule tol) p cs) ≡ arcs_of cs

-- ---- the cut rule over thinned points joins no two of their steps: each Line is one thinned step. Of every tolerance of the domain that an f64 can hold, and every chain
abbrev pub EachLineIsAStep : Type 0
EachLineIsAStep =
    (tol : Float) → T (fits binary64 tol) → tolerance tol ≡ true → (s : List Float) → chain_fit (hills_rule tol) s ≡ map Line (drop 1 (thinned_chain (hills_rule tol) s))

-- ---- "In a course without Beziers whose points share one z, it gives the flat fit's thinned points"
abbrev pub NoBeziers : List Command → Type 0
NoBeziers [] = Unit
NoBeziers (Move p ∷ cs) = NoBeziers cs
NoBeziers (Line p ∷ cs) = NoBeziers cs
NoBeziers (Arc p o n ∷ cs) = NoBeziers cs
NoBeziers (Bezier p c d ∷ cs) = ⊥

-- the points of commands that start at p: their ends, and before them the start, where they lack their Move
unfoldable pub course_points : Point3D → List Command → List Point3D
course_points p [] = []
course_points p (Move q ∷ cs) = q ∷ map end_of cs
course_points p (Line q ∷ cs) = p ∷ q ∷ map end_of cs
course_points p (Arc q o n ∷ cs) = p ∷ q ∷ map end_of cs
course_points p (Bezier q c d ∷ cs) = p ∷ q ∷ map end_of cs

-- they share the height z, as floats are equal: +0 and −0 are one
abbrev pub ShareZ : Float → List Point3D → Type 0
ShareZ z [] = Unit
ShareZ z (p ∷ ps) = (eq p.z z ≡ true) × ShareZ z ps

-- P holds of each chain of a course
abbrev pub EachChain : (List Float → Type 0) → List Part → Type 0
EachChain P [] = Unit
EachChain P (chain s ∷ ps) = P s × EachChain P ps
EachChain P (kept c ∷ ps) = EachChain P ps

-- each number of the ends is one that an f64 can hold
abbrev pub HeldEnds : List Command → Type 0
HeldEnds [] = Unit
HeldEnds (c ∷ cs) = HeldPoint (end_of c) × HeldEnds cs

-- a Line to each of the flat fit's thinned points but the chain's first
unfoldable pub flat_lines : Float → List Float → List Command
flat_lines tol s = map Line (drop 1 (thinned_chain (laps_rule tol) s))

-- bit for bit: of each chain the thinned points are those of the flat fit; and the fit has, in order, the kept commands and a Line to each of these points
pub record FlatPoints (tol : Float) (p : Point3D) (cs : List Command) : Type 0 where
  pub thinned : EachChain (λ s. thinned_chain (hills_rule tol) s ≡ thinned_chain (laps_rule tol) s) (parts_on tol p cs)
  pub fit : fit_on (hills_rule tol) p cs ≡ fit_of (flat_lines tol) (parts_on tol p cs)

-- of commands of the domain, from a start of the domain
abbrev pub OneHeight : Type 0
OneHeight =
    (tol : Float) → T (fits binary64 tol) → tolerance tol ≡ true
    → (p : Point3D) → point3_in p ≡ true → HeldPoint p
    → (cs : List Command) → CommandsIn cs → HeldEnds cs → NoBeziers cs
    → (z : Float) → ShareZ z (course_points p cs) → FlatPoints tol p cs

-- of each lap of every file that is accepted
abbrev pub OneHeightLap : Type 0
OneHeightLap =
    (tol : Float) → T (fits binary64 tol)
    → (s f : List ℕ) (room : ℕ) → hill_file s tol room ≡ gives f
    → (j : ℕ) → 1 ≤ j → j ≤ lap_count s → NoBeziers (map decoded (lap_at s j))
    → (z : Float) → ShareZ z (course_points (start_of j (laps_of s)) (map decoded (lap_at s j)))
    → FlatPoints tol (start_of j (laps_of s)) (map decoded (lap_at s j))
    × (lap_at f j ≡ map enc (fit_of (flat_lines tol) (parts_on tol (start_of j (laps_of s)) (map decoded (lap_at s j)))))
