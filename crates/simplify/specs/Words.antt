-- The words in which the laws of thinning are put (proofs/Thinning.antt). Definitions only.
use Rattle.std.specs.Prelude.{ℕ, ◌+◌, ◌≤◌, ◌<◌, ◌≡◌, false, List, [], ◌∷◌, Float}
use Rattle.floats.specs.Ops.{◌≺◌}
use Rattle.farthest.specs.Measure.{Measure}

-- indices from i on, below e, each above the one before
abbrev pub Ascending : ℕ → ℕ → List ℕ → Type 0
Ascending i e [] = Unit
Ascending i e (k ∷ ks) = (i ≤ k) × (k < e) × Ascending (k + 1) e ks

-- no point strictly between a and b lies farther from the chord of the two than the limit, by squared distances
abbrev pub Near : {P : Type 0} → Measure P → Float → (ℕ → P) → ℕ → ℕ → Type 0
Near m limit at a b = (i : ℕ) → a < i → i < b → (limit ≺ m (at a) (at b) (at i)) ≡ false

-- R holds of each two neighbours of a, ks .., b
abbrev pub Neighbours : (ℕ → ℕ → Type 0) → ℕ → List ℕ → ℕ → Type 0
Neighbours R a [] b = R a b
Neighbours R a (k ∷ ks) b = R a k × Neighbours R k ks b
