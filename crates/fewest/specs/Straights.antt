-- The fewest straights of recorded points: the test of a pair, the best that is known at no cost, and the whole answer. Definitions only.
-- "find a polyline from the first to the last recorded point, forward through points of the list, with the fewest Lines, each pair's line deviation below the
-- tolerance" (document 02, §10). What a way is, and the search in layers, stand in the crate `ways`, over any test.
use Rattle.std.specs.Prelude.{ℕ, ◌-◌, ◌/◌, false, List, map, length, Float}
use Rattle.floats.specs.Ops.{◌≺◌}
use Rattle.geo.specs.Lent.{point_at, triple}
use Rattle.pieces.specs.declared.pieces.Note.TheVariants.{Steps}
use Rattle.pieces.specs.declared.pieces.Rule.{Rule}
use Rattle.deviations.specs.Line.{line_deviation}
use Rattle.pieces.specs.Pieces.{Piece, pieces_by, pieces_in}
use Rattle.farthest.specs.declared.farthest.Ruler.TheVariants.{Line}
use Rattle.farthest.specs.Measure.{line_sq}
use Rattle.ways.specs.Way.{Test}
use Rattle.ways.specs.Layers.{Best, fewest}

-- "Fewer than 2 or more than 256 points give 2"
abbrev pub least_points : ℕ
least_points = 2

abbrev pub most_points : ℕ
most_points = 256

-- the index of the last of the points that the numbers s hold; as many Lines lead there from neighbour to neighbour
abbrev pub last_of : List Float → ℕ
last_of s = length s / 3 - 1

-- the test of a pair: the line deviation over the points between is strictly below the tolerance
unfoldable pub passing : List Float → Float → Test
unfolding line_deviation line_sq point_at
passing s t u v = (line_deviation line_sq (point_at s) u v).dist ≺ t

-- "the recursive line-only cut": the fit's own rule of pieces, where both arc trials count as failed
abbrev pub straight_rule : Float → Rule
straight_rule t = record { ruler = Line; arcs = false; tolerance = t; note = Steps }

-- the ends of its Lines
unfoldable pub cut_ends : List Float → Float → ℕ → ℕ → List ℕ
unfolding pieces_by
cut_ends s t lo hi = map (λ (p : Piece). p.to) (pieces_in (straight_rule t) (point_at s) lo hi)

-- the whole answer: "the best so far starts, at no cost, as the recursive line-only cut"
unfoldable pub fewest_of : List Float → Float → ℕ → Best
unfolding passing cut_ends fewest
fewest_of s t budget = fewest (passing s t) most_points (last_of s) budget (cut_ends s t 0 (last_of s))

-- an end as it is written: the three numbers of the recorded point k
abbrev pub numbers_at : List Float → ℕ → List Float
numbers_at s k = triple (point_at s k)
