-- The worst step beside each command of a fit (document 02, §5). Definitions only; proofs/WorstStep.antt shows that they hold.
use Rattle.std.specs.Prelude.{ℕ, ◌≡◌, Bool, List, [], ◌∷◌, Float}
use Rattle.geo.specs.declared.types.Point.{Point}
use Rattle.geo.specs.declared.types.Point3D.{Point3D}
use Rattle.geo.specs.declared.types.Command as command
use Rattle.geo.specs.Lent.{point_at}
use Rattle.geo.specs.Outcome.{gives}
use Rattle.circle.specs.declared.circle.Deviation.{Deviation}
use Rattle.circle.specs.Three.{radius_from}
use Rattle.deviations.specs.Calls.{arc_call}
use Rattle.deviations.specs.Own.{own_points, shifted_worst}
use Rattle.deviations.specs.WorstStep.{WorstOf}
use Rattle.pieces.specs.Pieces.{points_rule, arc, Piece, pieces_in}
use Rattle.pieces.specs.Commands.{shaped}
use Rattle.fitting.specs.Calls.{fit_call, worst_call}

-- ---- what stands beside the command x of a piece from lo to hi: "for each Arc this index, counted in their own points list, and 0 for each Line". An Arc's deviation is that
-- round its trial's centre c, and is what `get_polyline_arc_deviation` answers of the piece's own points, the index counted in the whole list
pub data Beside (at : ℕ → Point3D) (lo hi : ℕ) (x : command.Command) (n : ℕ) : Type 0 where
  beside_line : x ≡ command.TheVariants.Line (at hi) → n ≡ 0 → Beside at lo hi x n
  beside_arc : (c : Point) (d : Bool) → x ≡ shaped (at lo) (at hi) (arc c d)
      → (w : Deviation) → n ≡ w.index → WorstOf c (radius_from c (at lo)) at lo hi w
      → ((v : Deviation) → arc_call (own_points at lo hi) c (radius_from c (at lo)) ≡ gives v → w ≡ shifted_worst lo v)
      → Beside at lo hi x n

-- "one number a command", in order, a command for each piece
abbrev pub AllBeside : (ℕ → Point3D) → List Piece → List command.Command → List ℕ → Type 0
AllBeside at [] [] [] = Unit
AllBeside at (p ∷ ps) (x ∷ xs) (n ∷ ns) = Beside at p.from p.to x n × AllBeside at ps xs ns
AllBeside at [] (x ∷ xs) ns = ⊥
AllBeside at [] [] (n ∷ ns) = ⊥
AllBeside at (p ∷ ps) [] ns = ⊥
AllBeside at (p ∷ ps) (x ∷ xs) [] = ⊥

-- Of every call of `fit_points_recursive` that is accepted, and so of `fit_points_with_primitives`, which is the one from the first point to the last.
abbrev pub FitWorst : Type 0
FitWorst =
    (s : List Float) (tol : Float) (lo hi kinds numbers places : ℕ) (xs : List command.Command) (ns : List ℕ)
    → fit_call s tol lo hi kinds numbers places ≡ gives xs → worst_call s tol lo hi kinds numbers places ≡ gives ns
    → AllBeside (point_at s) (pieces_in (points_rule tol) (point_at s) lo hi) xs ns
