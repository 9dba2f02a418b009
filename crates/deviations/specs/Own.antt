-- The points of a range as a list of their own, and its deviations counted in the whole list again. Definitions only; proofs/Own.antt shows what the range and its own points share.
use Rattle.std.specs.Prelude.{ℕ, ◌+◌, ◌-◌, List, Float, if◌then◌else◌}
use Rattle.floats.specs.Ops.{◌≺◌, +0}
use Rattle.geo.specs.declared.types.Point3D.{Point3D}
use Rattle.geo.specs.Vector.{flatten}
use Rattle.geo.specs.Lent.{pair, triple, flat}
use Rattle.geo.specs.Walk.{list_from}
use Rattle.circle.specs.declared.circle.Deviation.{Deviation}

-- ---- the points from lo to hi, cut out as a list of their own: as triples, and as pairs
abbrev pub own_points : (ℕ → Point3D) → ℕ → ℕ → List Float
own_points at lo hi = flat triple (list_from at (hi - lo + 1) lo)

abbrev pub own_pairs : (ℕ → Point3D) → ℕ → ℕ → List Float
own_pairs at lo hi = flat pair (list_from (λ i. flatten (at i)) (hi - lo + 1) lo)

-- a deviation of such a list, its index counted in the whole list again
abbrev pub shifted : ℕ → Deviation → Deviation
shifted lo w = record { dist = w.dist; index = lo + w.index }

-- the same of an Arc's deviation, whose index is 0 where it is 0
abbrev pub shifted_worst : ℕ → Deviation → Deviation
shifted_worst lo w = record { dist = w.dist; index = if +0 ≺ w.dist then lo + w.index else 0 }
