-- The first farthest point of a range. Definitions only.
use Rattle.std.specs.Prelude.{ℕ, zero, suc, ◌+◌, ◌-◌, Float, if◌then◌else◌}
use Rattle.floats.specs.Ops.{◌≺◌, +0}
use Rattle.farthest.specs.declared.farthest.Farthest.{Farthest}
use Rattle.farthest.specs.Measure.{Measure}

-- before any point is looked at: the start of the range, which lies on the chord
abbrev pub on_chord : ℕ → Farthest
on_chord lo = record { square = +0; index = lo }

-- the farther of `best` and a point at index i with squared distance d; `best`, which came first, where they are equal
unfoldable pub farther : Float → ℕ → Farthest → Farthest
farther d i best = if best.square ≺ d then record { square = d; index = i } else best

-- the first farthest of `best` and the n points from index i on, whose squared distances are f i, f (i + 1) ..
unfoldable pub farthest_of : (ℕ → Float) → ℕ → ℕ → Farthest → Farthest
unfolding farther
farthest_of f zero i best = best
farthest_of f (suc n) i best = farthest_of f n (i + 1) (farther (f i) i best)

-- the first farthest of the points strictly between lo and hi from the chord of the two; `on_chord lo` where none lies off it
unfoldable pub farthest_in : {P : Type 0} → Measure P → (ℕ → P) → ℕ → ℕ → Farthest
unfolding farthest_of
farthest_in m at lo hi =
    farthest_of (λ i. m (at lo) (at hi) (at i)) (hi - (lo + 1)) (lo + 1) (on_chord lo)
