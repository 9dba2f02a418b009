-- The fit of a range of points: the pieces into which it falls, each a Line or an Arc with its trial's centre. Definitions only.
-- "A cut leaves two [ranges], sharing its Line's first farthest point. An uncut range is a piece, written to its last point as a Line if that passes, else as the
-- Arc of the first arc trial that does" (document 01, "Demand 3's words").
use Rattle.std.specs.Prelude.{ℕ, zero, suc, ◌+◌, ◌-◌, Bool, true, false, List, [], ◌∷◌, ◌++◌, Option, None, Some, Float, if◌then◌else◌}
use Rattle.floats.specs.Ops.{◌≺◌}
use Rattle.geo.specs.declared.types.Point.{Point}
use Rattle.geo.specs.declared.types.Point3D.{Point3D}
use Rattle.circle.specs.declared.circle.Deviation.{Deviation}
use Rattle.trial.specs.declared.trial.Trial.{Trial}
use Rattle.trial.specs.Trial.{try_arcs}
use Rattle.farthest.specs.declared.farthest.Ruler.TheVariants.{Line, Segment, Space}
use Rattle.farthest.specs.Measure.{Measure, measure_of}
use Rattle.deviations.specs.Line.{line_deviation}
use Rattle.pieces.specs.declared.pieces.Note.TheVariants.{Steps, Worst}
use Rattle.pieces.specs.declared.pieces.Rule.{Rule}

-- ---- by which rule a range is judged: a distance, whether arcs are tried, and a tolerance; and what is noted beside each command
-- that of the functions that take points: they measure to the endless line
abbrev pub points_rule : Float → Rule
points_rule tol = record { ruler = Line; arcs = true; tolerance = tol; note = Worst }

-- that of `fit_arcs`, and of the fit of a file and the replacement of a lap, which rest on it: "the lap fit, the lap replacement and `fit_arcs` thin, and test a Line, by
-- the distance to the segment" (document 02, §4)
abbrev pub laps_rule : Float → Rule
laps_rule tol = record { ruler = Segment; arcs = true; tolerance = tol; note = Steps }

-- that of the fit for hills, which "makes no new Arcs (in its cut rule both arc trials count as failed)" and "whose thinning and line test use x, y and z, to the segment"
-- (document 02, §14)
abbrev pub hills_rule : Float → Rule
hills_rule tol = record { ruler = Space; arcs = false; tolerance = tol; note = Steps }

abbrev pub distance : Rule → Measure Point3D
distance r = measure_of r.ruler

-- what a piece is written as: an Arc has the centre and the direction that its trial found
pub data Shape : Type 0 where
  line : Shape
  arc : Point → Bool → Shape

-- the points from `from` to `to`
pub record Piece : Type 0 where
  pub from : ℕ
  pub to : ℕ
  pub shape : Shape

-- what a range comes to: one piece, or a cut
pub data Choice : Type 0 where
  whole : Shape → Choice
  cut_at : ℕ → Choice

-- the arc that a trial found, else a cut at k
unfoldable pub arc_or_cut : Option Trial → ℕ → Choice
arc_or_cut (Some t) k = whole (arc t.center t.clockwise)
arc_or_cut None k = cut_at k

-- a trial as a rule counts it: failed where no arcs are tried
abbrev pub counted : Rule → Option Trial → Option Trial
counted r t = if r.arcs then t else None

-- a Line where its deviation w is below the tolerance, else the arc of the first trial that passes, else a cut at the Line's first farthest point
unfoldable pub choose_by : Rule → (ℕ → Point3D) → ℕ → ℕ → Deviation → Choice
choose_by r at lo hi w = if w.dist ≺ r.tolerance then whole line else arc_or_cut (counted r (try_arcs at lo hi w.index r.tolerance)) w.index

unfoldable pub choice : Rule → (ℕ → Point3D) → ℕ → ℕ → Choice
choice r at lo hi = choose_by r at lo hi (line_deviation (distance r) at lo hi)

-- the pieces of a choice, those of a shorter range by `inside`
unfoldable pub follow : (ℕ → ℕ → List Piece) → ℕ → ℕ → Choice → List Piece
follow inside lo hi (whole s) = record { from = lo; to = hi; shape = s } ∷ []
follow inside lo hi (cut_at k) = inside lo k ++ inside k hi

-- by at most n cuts one inside the other
unfoldable pub pieces_by : Rule → (ℕ → Point3D) → ℕ → ℕ → ℕ → List Piece
pieces_by r at zero lo hi = []
pieces_by r at (suc n) lo hi = follow (pieces_by r at n) lo hi (choice r at lo hi)

-- the pieces of the points from lo to hi: none where lo is not below hi; each cut shortens the range, so hi - lo cuts are enough
abbrev pub pieces_in : Rule → (ℕ → Point3D) → ℕ → ℕ → List Piece
pieces_in r at lo hi = pieces_by r at (hi - lo) lo hi

-- ---- how many ranges are examined on the way: a range that is a piece is one; one that is cut is one, and those of both sides
unfoldable pub ranges_of : (ℕ → ℕ → ℕ) → ℕ → ℕ → Choice → ℕ
ranges_of inside lo hi (whole s) = 1
ranges_of inside lo hi (cut_at k) = 1 + (inside lo k + inside k hi)

unfoldable pub ranges_by : Rule → (ℕ → Point3D) → ℕ → ℕ → ℕ → ℕ
ranges_by r at zero lo hi = 0
ranges_by r at (suc n) lo hi = ranges_of (ranges_by r at n) lo hi (choice r at lo hi)

abbrev pub ranges_in : Rule → (ℕ → Point3D) → ℕ → ℕ → ℕ
ranges_in r at lo hi = ranges_by r at (hi - lo) lo hi
