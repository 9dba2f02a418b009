-- The rows of both deviations' calls behind those of their points, and what an accepted call answers. Assumes nothing.
use Prim.Native.Nat.{ℕ, ◌+◌, ◌-◌, ◌/◌, ◌<◌}
use mathlib.Core.Path.{◌≡◌, refl, ◌∙◌, subst}
use mathlib.Core.List.{List, ◌++◌}
use native.Mathlib.Omega.{arith}
use borrow.Author.Tests.{ltb-true, not-false}
use lib.ListN.{length}
use lib.Ieee.{Float, of_bits}
use Rattle.floats.specs.Ops.{+0}
use Rattle.floats.specs.Root.{root_of}
use Rattle.geo.specs.declared.types.Point.{Point}
use Rattle.geo.specs.declared.types.Point3D.{Point3D}
use Rattle.geo.specs.declared.refusal.Refusal.{Refusal}
use Rattle.geo.specs.Refusal.{number}
use Rattle.geo.specs.Outcome.{Row, refusal}
use Rattle.geo.proofs.Rows.{row-passes, row_passed, refusal-front}
use Rattle.geo.proofs.Wrote.{number-positive}
use Rattle.farthest.specs.Farthest.{farthest_of, farthest_in}
use Rattle.farthest.specs.Measure.{Measure}
use Rattle.circle.specs.Calls.{points_rows}
use Rattle.circle.specs.Worst.{worst}
use Rattle.trial.specs.Deviation.{arc_deviation}
use Rattle.deviations.specs.Line.{rooted, line_deviation}
use Rattle.deviations.specs.Calls.{line_rows}

-- ---- rows behind those of the points
module _ (s : List Float) (ts : List Row) where
  -- the check of the points found a cause: it decides
  pub points_refused : (cause : Refusal) → number cause ≡ refusal (points_rows s) → number cause ≡ refusal (points_rows s ++ ts)
  points_refused cause e = e ∙ refusal-front (points_rows s) ts (subst (λ (k : ℕ). 0 < k) e (number-positive cause))

  -- it found none: the rows behind decide
  pub points_passed : 0 ≡ refusal (points_rows s) → refusal (points_rows s ++ ts) ≡ refusal ts
  unfolding points_rows
  points_passed e =
      let a = row_passed 0 _ _ e in
      let b = row_passed 1 _ _ a.1 in
      let c = row_passed 4 _ _ b.1 in
      row-passes _ _ _ a.0 ∙ row-passes _ _ _ b.0 ∙ row-passes _ _ _ c.0

-- ---- what passed
pub line-accepted : (s : List Float) (lo hi : ℕ) → 0 ≡ refusal (line_rows s lo hi) → (lo < length s / 3) × (hi < length s / 3)
unfolding line_rows points_rows
line-accepted s lo hi q =
    let a = row_passed 0 _ _ q in
    let b = row_passed 1 _ _ a.1 in
    let c = row_passed 4 _ _ b.1 in
    let d = row_passed 6 _ _ c.1 in
    let e = row_passed 6 _ _ d.1 in
    (ltb-true _ _ (not-false _ d.0), ltb-true _ _ (not-false _ e.0))

-- ---- where there is no point between, or no step, the deviation is 0
root_zero : root_of +0 ≡ +0
unfolding root_of of_bits
root_zero = refl

pub no_between : (m : Measure Point3D) (at : ℕ → Point3D) (lo hi : ℕ) → hi < lo → record { dist = +0; index = lo } ≡ line_deviation m at lo hi
unfolding line_deviation rooted farthest_in farthest_of
no_between m at lo hi h = let e : hi - (lo + 1) ≡ 0 = omega arith in rw (e, root_zero)

pub no_step : (m : Point) (d : Float) (at : ℕ → Point3D) (n : ℕ) → n < 2 → record { dist = +0; index = 0 } ≡ arc_deviation m d at 0 (n - 1)
unfolding arc_deviation worst
no_step m d at n h = let e : n - 1 ≡ 0 = omega arith in rw e
