-- The code's own way: what is thinned, as it stands in its row and where it is written. What a reader has to believe stands in Simplify.antt, Thin.antt and Data.antt. Definitions, and the laws of what is lent.
use Rattle.std.specs.Prelude.{ℕ, ◌≡◌, refl, ◌<◌, Bool, false, ◌||◌, List, map, length, get_or, Float}
use native.Mathlib.Omega.{arith}
use Rattle.farthest.specs.Measure.{Measure}
use Rattle.simplify.specs.Thin.{thinned}
use Rattle.simplify.specs.Data.{among, select}
use Rattle.simplify.specs.Simplify.{Form, pairs, triples}

-- a form's points have `width` numbers each, and some
pub record Wide {P : Type 0} (f : Form P) (width : ℕ) : Type 0 where
  pub is : f.width ≡ width
  pub some : 0 < width
  pub each : (p : P) → length (f.lay p) ≡ width

pub pairs_wide : Wide pairs 2
pairs_wide = record { is = refl; some = omega arith; each = λ p. refl }

pub triples_wide : Wide triples 3
triples_wide = record { is = refl; some = omega arith; each = λ p. refl }

-- of n items `at` those whose flag is set, and those that are always kept
abbrev pub flagged : {P : Type 0} → (P → Bool) → (ℕ → P) → List Bool → ℕ → List P
flagged always at l n = map at (select (λ i. always (at i) || get_or l i false) n 0)

-- the same of those that thinning keeps
abbrev pub kept_of : {P : Type 0} → (P → Bool) → Measure P → Float → (ℕ → P) → ℕ → List P
kept_of always m limit at n = map at (select (λ i. always (at i) || among i (thinned m limit at n)) n 0)

abbrev pub never : {P : Type 0} → P → Bool
never p = false
