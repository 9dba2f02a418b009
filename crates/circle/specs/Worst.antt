-- The greatest of some distances, and the index at which it first stands. Definitions only.
use Rattle.std.specs.Prelude.{ℕ, Float, if◌then◌else◌}
use Rattle.floats.specs.Ops.{◌≺◌}
use Rattle.geo.specs.Walk.{fold}
use Rattle.circle.specs.declared.circle.Deviation.{Deviation}

-- d at index i, where it is above the greatest so far
unfoldable pub worse : Float → ℕ → Deviation → Deviation
worse d i w = if w.dist ≺ d then record { dist = d; index = i } else w

-- of the n distances f from index i on, w being the greatest before
unfoldable pub worst : (ℕ → Float) → ℕ → ℕ → Deviation → Deviation
unfolding fold worse
worst f n i w = fold (λ j. worse (f j) j) n i w
