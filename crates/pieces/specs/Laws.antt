-- Demand 3's words about the pieces of a range, as propositions, over any rule r and any points `at`. Definitions only; proofs/Laws.antt shows that they hold.
use Rattle.std.specs.Prelude.{ℕ, ◌+◌, ◌-◌, ◌≤◌, ◌<◌, ◌≡◌, Bool, true, false, ◌&&◌, List, [], ◌∷◌, ◌++◌, ltb, leb, None, Float, if◌then◌else◌}
use Rattle.std.specs.Float.Ieee.{neg}
use Rattle.floats.specs.Ops.{◌⊖◌, ◌≺◌, +0, one}
use Rattle.geo.specs.declared.types.Point.{Point}
use Rattle.geo.specs.declared.types.Point3D.{Point3D}
use Rattle.geo.specs.declared.types.Command as command
use Rattle.geo.specs.Lent.{point_at}
use Rattle.geo.specs.Outcome.{gives}
use Rattle.arc.specs.Direction.{direction_call}
use Rattle.circle.specs.declared.circle.Deviation.{Deviation}
use Rattle.circle.specs.Three.{radius_from}
use Rattle.trial.specs.Trial.{Arc, three_tried, least_tried}
use Rattle.trial.specs.Laws.{ArcPasses}
use Rattle.deviations.specs.Line.{line_deviation}
use Rattle.deviations.specs.Calls.{line_call, arc_call}
use Rattle.deviations.specs.Own.{own_points, own_pairs}
use Rattle.pieces.specs.declared.pieces.Rule.{Rule}
use Rattle.pieces.specs.Pieces.{distance, counted, Piece, pieces_in}
use Rattle.farthest.specs.Measure.{line_sq}

-- The pieces follow one another from lo to hi, each at least one step long: so each step, from i to i + 1, lies in exactly one piece.
abbrev pub Covers : ℕ → List Piece → ℕ → Type 0
Covers lo [] hi = lo ≡ hi
Covers lo (p ∷ ps) hi = (p.from ≡ lo) × (lo < p.to) × Covers p.to ps hi

-- how many of the pieces hold the step from i to i + 1
unfoldable pub holding : ℕ → List Piece → ℕ
holding i [] = 0
holding i (p ∷ ps) = (if leb p.from i && ltb i p.to then 1 else 0) + holding i ps

-- ---- what a piece is written as
-- "A deviation is the deviation function's over the piece": the Line's, by the rule's distance, is below the tolerance, and so is that of the piece's own points alone; and,
-- where the distance is to the endless line, whatever `get_polyline_line_deviation`, which measures to that, answers of them
pub record LinePasses (r : Rule) (at : ℕ → Point3D) (lo hi : ℕ) : Type 0 where
  pub deviation : ((line_deviation (distance r) at lo hi).dist ≺ r.tolerance) ≡ true
  pub own : ((line_deviation (distance r) (point_at (own_points at lo hi)) 0 (hi - lo)).dist ≺ r.tolerance) ≡ true
  pub answered : distance r ≡ line_sq → (w : Deviation) → line_call (own_points at lo hi) 0 (hi - lo) ≡ gives w → (w.dist ≺ r.tolerance) ≡ true

abbrev pub LineFails : Rule → (ℕ → Point3D) → ℕ → ℕ → Type 0
LineFails r at lo hi = ((line_deviation (distance r) at lo hi).dist ≺ r.tolerance) ≡ false

-- The new Arc x of the points from lo to hi, "an Arc's [deviation] with its trial's centre and radius": c is its trial's centre, d says whether it goes clockwise
pub record NewArc (tol : Float) (at : ℕ → Point3D) (lo hi : ℕ) (c : Point) (d : Bool) (x : command.Command) : Type 0 where
  -- it ends at the last point; its centre is given from the first; its normal is (0, 0, −1) clockwise, else (0, 0, 1)
  pub written : x
      ≡ command.TheVariants.Arc (at hi) (record { x = c.x ⊖ (at lo).x; y = c.y ⊖ (at lo).y; z = +0 }) (record { x = +0; y = +0; z = if d then neg one else one })
  pub passes : ArcPasses tol at lo hi c d
  -- whatever `get_polyline_arc_deviation` and `is_arc_clockwise` answer of the piece's own points
  pub answered : (v : Deviation) → arc_call (own_points at lo hi) c (radius_from c (at lo)) ≡ gives v → (v.dist ≺ tol) ≡ true
  pub turning : (b : Bool) → direction_call (own_pairs at lo hi) c ≡ gives b → d ≡ b

-- "An uncut range is a piece, written to its last point as a Line if that passes, else as the Arc of the first arc trial that does": x is that command for the points from lo
-- to hi, the first trial being by three points, the second by least squares. A trial tells its worst step w too
pub data WrittenAs (r : Rule) (at : ℕ → Point3D) (lo hi : ℕ) (x : command.Command) : Type 0 where
  as_line : LinePasses r at lo hi → x ≡ command.TheVariants.Line (at hi) → WrittenAs r at lo hi x
  as_first : (c : Point) (d : Bool) (w : ℕ) → LineFails r at lo hi → counted r (three_tried at lo hi (line_deviation (distance r) at lo hi).index r.tolerance) ≡ Arc c d w
      → NewArc r.tolerance at lo hi c d x → WrittenAs r at lo hi x
  as_second : (c : Point) (d : Bool) (w : ℕ) → LineFails r at lo hi → counted r (three_tried at lo hi (line_deviation (distance r) at lo hi).index r.tolerance) ≡ None
      → counted r (least_tried at lo hi (line_deviation (distance r) at lo hi).index r.tolerance) ≡ Arc c d w → NewArc r.tolerance at lo hi c d x → WrittenAs r at lo hi x

-- one command for each piece, in order
abbrev pub AllWritten : Rule → (ℕ → Point3D) → List Piece → List command.Command → Type 0
AllWritten r at [] [] = Unit
AllWritten r at [] (x ∷ xs) = ⊥
AllWritten r at (p ∷ ps) [] = ⊥
AllWritten r at (p ∷ ps) (x ∷ xs) = WrittenAs r at p.from p.to x × AllWritten r at ps xs

-- ---- the cut rule
-- The Line of a range and both its arc trials fail, or count as failed.
pub record AllFail (r : Rule) (at : ℕ → Point3D) (lo hi : ℕ) : Type 0 where
  pub line_fails : LineFails r at lo hi
  pub three_fails : counted r (three_tried at lo hi (line_deviation (distance r) at lo hi).index r.tolerance) ≡ None
  pub least_fails : counted r (least_tried at lo hi (line_deviation (distance r) at lo hi).index r.tolerance) ≡ None

-- The range is cut at k, strictly inside: its pieces are those of the two ranges that share k.
pub record CutThere (r : Rule) (at : ℕ → Point3D) (lo k hi : ℕ) : Type 0 where
  pub behind : lo < k
  pub before : k < hi
  pub pieces : pieces_in r at lo hi ≡ pieces_in r at lo k ++ pieces_in r at k hi

-- It is not cut: it has one piece, itself.
pub record Uncut (r : Rule) (at : ℕ → Point3D) (lo hi : ℕ) : Type 0 where
  pub piece : Piece
  pub from : piece.from ≡ lo
  pub to : piece.to ≡ hi
  pub pieces : pieces_in r at lo hi ≡ piece ∷ []

-- ---- what demand 3 says of a range from lo to hi and the commands xs that it gives, sentence by sentence
pub record RangeFitted (r : Rule) (at : ℕ → Point3D) (lo hi : ℕ) (xs : List command.Command) : Type 0 where
  -- "in order, one Line or new Arc for each of its pieces", and "a Line's or new Arc's computed deviation over its piece is below the tolerance"
  pub commands : AllWritten r at (pieces_in r at lo hi) xs
  -- "each step [...] lies in exactly one piece"; and the pieces follow one another from the first point to the last
  pub steps : (i : ℕ) → lo ≤ i → i < hi → holding i (pieces_in r at lo hi) ≡ 1
  pub order : Covers lo (pieces_in r at lo hi) hi
  -- "a range is cut exactly when its Line and both arc trials fail", at its Line's first farthest point
  pub cut : (a b : ℕ) → a < b → AllFail r at a b → CutThere r at a (line_deviation (distance r) at a b).index b
  pub uncut : (a b : ℕ) → a < b → (AllFail r at a b → ⊥) → Uncut r at a b
