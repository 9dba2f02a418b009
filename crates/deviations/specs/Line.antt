-- The deviation of points from the Line between two of them. Definitions only.
use Rattle.std.specs.Prelude.{ℕ}
use Rattle.floats.specs.Root.{root_of}
use Rattle.circle.specs.declared.circle.Deviation.{Deviation}
use Rattle.farthest.specs.declared.farthest.Farthest.{Farthest}
use Rattle.farthest.specs.Measure.{Measure}
use Rattle.farthest.specs.Farthest.{farthest_in}

-- the root of the greatest squared distance, and the index at which it first stands
unfoldable pub rooted : Farthest → Deviation
rooted w = record { dist = root_of w.square; index = w.index }

-- the Line's deviation over the points from lo to hi, by the measure m
unfoldable pub line_deviation : {P : Type 0} → Measure P → (ℕ → P) → ℕ → ℕ → Deviation
line_deviation m at lo hi = rooted (farthest_in m at lo hi)
