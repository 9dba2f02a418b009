-- Thinning by the rule of Douglas and Peucker (1973), over any measure m, any limit and any points `at`. Definitions only.
use Rattle.std.specs.Prelude.{ℕ, zero, suc, ◌-◌, List, [], ◌∷◌, ◌++◌, map, length, get_or, Float, if◌then◌else◌}
use Rattle.floats.specs.Ops.{◌≺◌}
use Rattle.farthest.specs.declared.farthest.Farthest.{Farthest}
use Rattle.farthest.specs.Measure.{Measure}
use Rattle.farthest.specs.Farthest.{farthest_in}

-- What is kept strictly between lo and hi, w being the range's first farthest point: where its squared distance is above the limit, w and what is kept
-- on either side of it; else nothing.
abbrev pub cut_at : (ℕ → ℕ → List ℕ) → Float → ℕ → ℕ → Farthest → List ℕ
cut_at inside limit lo hi w = if limit ≺ w.square then inside lo w.index ++ w.index ∷ inside w.index hi else []

-- the same by at most n cuts one inside the other
unfoldable pub kept_by : {P : Type 0} → Measure P → Float → (ℕ → P) → ℕ → ℕ → ℕ → List ℕ
unfolding farthest_in
kept_by m limit at zero lo hi = []
kept_by m limit at (suc n) lo hi = cut_at (kept_by m limit at n) limit lo hi (farthest_in m at lo hi)

-- the indices kept strictly between lo and hi: each cut shortens the range, so hi - lo cuts are enough
abbrev pub kept_in : {P : Type 0} → Measure P → Float → (ℕ → P) → ℕ → ℕ → List ℕ
kept_in m limit at lo hi = kept_by m limit at (hi - lo) lo hi

-- the indices kept of n points: both ends, and those between; fewer than three points are all kept
unfoldable pub thinned : {P : Type 0} → Measure P → Float → (ℕ → P) → ℕ → List ℕ
unfolding kept_by
thinned m limit at zero = []
thinned m limit at (suc zero) = 0 ∷ []
thinned m limit at (suc (suc n)) = 0 ∷ (kept_in m limit at 0 (suc n) ++ suc n ∷ [])

-- the n points `at`, thinned
unfoldable pub thinned_points : {P : Type 0} → Measure P → Float → (ℕ → P) → ℕ → List P
unfolding thinned
thinned_points m limit at n = map at (thinned m limit at n)

-- a list of points, thinned; d stands past its end
abbrev pub thin_list : {P : Type 0} → Measure P → Float → P → List P → List P
thin_list m limit d ps = thinned_points m limit (λ i. get_or ps i d) (length ps)
