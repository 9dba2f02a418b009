-- Which step of an arc is worst: what the walk along its steps finds is the first of the greatest. Assumes nothing.
use Prim.Native.Nat.{ℕ, zero, suc, ◌+◌, ◌-◌, ◌/◌, ◌≤◌}
use mathlib.Core.Path.{◌≡◌, refl, sym, ap, ◌∙◌, subst}
use mathlib.Core.Logic.{⊎_elim}
use native.Mathlib.Omega.{arith}
use lib.ListN.{length}
use lib.Ieee.{Float}
use Rattle.floats.specs.Ops.{◌≺◌, +0}
use Rattle.floats.proofs.Order.{either}
use Rattle.geo.specs.declared.types.Point.{Point}
use Rattle.geo.specs.declared.types.Point3D.{Point3D}
use Rattle.geo.specs.Lent.{point_at}
use Rattle.geo.specs.Outcome.{refusal}
use Rattle.geo.proofs.Rows.{unless-given}
use Rattle.circle.specs.declared.circle.Deviation.{Deviation}
use Rattle.circle.specs.Worst.{worse, worst}
use Rattle.trial.specs.Deviation.{arc_deviation}
use Rattle.farthest.specs.declared.farthest.Farthest.{Farthest}
use Rattle.farthest.specs.Farthest.{farther, farthest_of}
use Rattle.farthest.specs.Words.{FirstAbove}
use Rattle.farthest.proofs.First.{found}
use Rattle.deviations.specs.Calls.{arc_rows, arc_call}
use Rattle.deviations.specs.WorstStep.{step_off, FirstWorst, WorstOf, no_worst, first-worst, ArcWorst}

-- ---- the walk along the steps is the search for the farthest point, which has the law
abbrev far : Deviation → Farthest
far w = record { square = w.dist; index = w.index }

far_worse : (d : Float) (i : ℕ) (w : Deviation) → far (worse d i w) ≡ farther d i (far w)
unfolding worse farther
far_worse d i w = ⊎_elim (λ e. rw e refl) (λ e. rw e refl) (either (w.dist ≺ d))

far_worst : (f : ℕ → Float) (n i : ℕ) (w : Deviation) → far (worst f n i w) ≡ farthest_of f n i (far w)
unfolding worst farthest_of
far_worst f zero i w = refl
far_worst f (suc n) i w = far_worst f n (i + 1) (worse (f i) i w) ∙ ap (farthest_of f n (i + 1)) (far_worse (f i) i w)

module _ (c : Point) (r : Float) (at : ℕ → Point3D) (lo hi : ℕ) where
  first_of : (w : Deviation) → FirstAbove (step_off c r at lo hi) lo hi +0 (far w) → FirstWorst c r at lo hi w
  first_of w h = record { from = h.from; to = h.to; reached = h.value; above = h.above; earlier = h.before; later = h.after }

  -- The worst step of an arc over the points from lo to hi is the first that reaches its deviation, and 0 where that is 0.
  pub arc-worst : lo ≤ hi → WorstOf c r at lo hi (arc_deviation c r at lo hi)
  unfolding arc_deviation
  arc-worst o =
      let f = step_off c r at lo hi in
      let w : Deviation = record { dist = +0; index = 0 } in
      let e = far_worst f (hi - lo) lo w in
      ⊎_elim
      (λ h. no_worst (ap (λ (x : Farthest). record { dist = x.square; index = x.index }) (e ∙ h.0)) h.1)
      (λ h. first-worst (first_of (worst f (hi - lo) lo w) (subst (FirstAbove f lo hi +0) (sym e) h)))
      (found f (hi - lo) lo hi (far w) (omega arith))

  -- so it is below the last point's index, which is no step's
  index_few : (w : Deviation) → WorstOf c r at lo hi w → w.index ≤ hi
  index_few w (no_worst e h) = rw e (omega arith)
  index_few w (first-worst h) = let l = h.to in omega arith

  pub worst-few : lo ≤ hi → (arc_deviation c r at lo hi).index ≤ hi
  worst-few o = index_few (arc_deviation c r at lo hi) (arc-worst o)

-- Of every accepted call of `get_polyline_arc_deviation`.
pub worst_of_the_arc : ArcWorst
unfolding arc_call
worst_of_the_arc s c r w e =
    subst (WorstOf c r (point_at s) 0 (length s / 3 - 1)) (unless-given (refusal (arc_rows s c r)) _ w e).1 (arc-worst c r (point_at s) 0 (length s / 3 - 1) (omega arith))
