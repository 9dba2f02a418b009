-- The live thinner: its state, and what a point fed, a close and a new tolerance make of it (document 02, §2 and §12). Definitions only.
use Rattle.std.specs.Prelude.{ℕ, zero, suc, ◌+◌, ◌-◌, ◌*◌, Bool, true, false, ◌&&◌, ◌||◌, List, [], ◌∷◌, ◌++◌, replicate, ltb, Float, if◌then◌else◌}
use Rattle.std.proofs.lemmas.List.Edits.{sets}
use Rattle.floats.specs.Ops.{◌≺◌, +0}
use Rattle.geo.specs.declared.types.Point3D.{Point3D}
use Rattle.geo.specs.Lent.{point_at, triple}
use Rattle.deviations.specs.Line.{line_deviation}
use Rattle.farthest.specs.Measure.{line_sq}
use Rattle.live.specs.declared.live.Live.{Live}

-- the anchor and "up to 64 points after it"
abbrev pub slot_count : ℕ
slot_count = 65

-- the point in slot i: the anchor in slot 0, and behind it the held points in the order in which they were fed
unfoldable pub slot : Live → ℕ → Point3D
slot s i = point_at s.points i

-- numbers with p in slot i
unfoldable pub put : List Float → ℕ → Point3D → List Float
put ns i p = sets ns (3 * i) (triple p)

-- a new state: no point was fed
unfoldable pub started : Float → Live
started t = record { tolerance = t; points = replicate (3 * slot_count) +0; count = 0; closed = false }

-- what an accepted call makes of a state: the next state, and the ends that are handed out
pub record Next : Type 0 where
  pub state : Live
  pub ends : List Point3D

-- p is held behind the other points
unfoldable pub behind : Live → Point3D → Live
behind s p = record { tolerance = s.tolerance; points = put s.points s.count p; count = s.count + 1; closed = s.closed }

-- the last point becomes the anchor, and p alone is held after it; the other slots keep what they had
unfoldable pub cutting : Live → Point3D → Live
cutting s p = record { tolerance = s.tolerance; points = put (put s.points 0 (slot s (s.count - 1))) 1 p; count = 2; closed = s.closed }

-- the line goes on to p: a slot is free, and the line from the anchor to p has a deviation below the tolerance over the points between
unfoldable pub goes_on : Live → Point3D → Bool
goes_on s p = ltb s.count slot_count && ((line_deviation line_sq (slot (behind s p)) 0 s.count).dist ≺ s.tolerance)

-- one point fed: it is held where the line goes on to it, or fewer than two points came before it; else the previous point is an end
unfoldable pub push : Live → Point3D → Next
push s p =
    if ltb s.count 2 || goes_on s p then record { state = behind s p; ends = [] }
    else record { state = cutting s p; ends = slot s (s.count - 1) ∷ [] }

-- the close: the last point fed is an end, save where it is the only one
unfoldable pub shut : Live → Next
shut s =
    record {
      state = record { tolerance = s.tolerance; points = s.points; count = s.count; closed = true };
      ends = if ltb s.count 2 then [] else (slot s (s.count - 1) ∷ []);
    }

-- ---- a new tolerance
-- the n points `at` from index i on, fed in order
unfoldable pub feed_again : (ℕ → Point3D) → ℕ → ℕ → Live → Next
feed_again at zero i s = record { state = s; ends = [] }
feed_again at (suc n) i s =
    record {
      state = (feed_again at n (i + 1) (push s (at i)).state).state;
      ends = (push s (at i)).ends ++ (feed_again at n (i + 1) (push s (at i)).state).ends;
    }

-- how many points are left where all but the anchor are forgotten
unfoldable pub anchored : ℕ → ℕ
anchored zero = 0
anchored (suc n) = 1

-- all but the anchor forgotten, and the tolerance t from here on
unfoldable pub forgotten : Live → Float → Live
forgotten s t = record { tolerance = t; points = s.points; count = anchored s.count; closed = s.closed }

-- the held points fed again from the anchor, in order, under the tolerance t
unfoldable pub retuned : Live → Float → Next
retuned s t = feed_again (slot s) (s.count - 1) 1 (forgotten s t)
