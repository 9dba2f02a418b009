-- The walk along the steps of an arc: one step, and that what is not below the tolerance stays so. Assumes nothing.
use Prim.Native.Nat.{ℕ, zero, suc, ◌+◌}
use mathlib.Core.Path.{◌≡◌, sym, ap, ◌∙◌}
use mathlib.Core.Logic.{⊎_elim}
use mathlib.Core.Bool.{true, false}
use lib.Ieee.{Float, lt, is_nan}
use Rattle.std.specs.Prelude.{Some, None}
use Rattle.floats.specs.Ops.{◌⊖◌}
use Rattle.floats.specs.Root.{root_of}
use Rattle.floats.proofs.Order.{either, clash, lt_gap, lt_trans}
use Rattle.geo.specs.declared.types.Point.{Point}
use Rattle.geo.specs.declared.types.Point3D.{Point3D}
use Rattle.geo.specs.Vector.{length_sq, length_of}
use Rattle.geo.specs.Walk.{fold}
use Rattle.circle.specs.declared.circle.Deviation.{Deviation}
use Rattle.circle.specs.Worst.{worse}
use Rattle.circle.specs.Three.{radius_from}
use Rattle.trial.specs.declared.trial.Spoke.{Spoke}
use Rattle.trial.specs.Trial.{measured_by}
use Rattle.trial.specs.Deviation.{spoke_of, step_of, step_between}

-- d is the deviation of the step from p' to q', by spokes and a length that were worked out
pub step_is : (m : Point) (r : Float) (p q p' q' : Point3D) (s t : Spoke) (len d : Float) → p ≡ p' → q ≡ q' → s ≡ spoke_of m p' → t ≡ spoke_of m q
    → len ≡ length_of (q.x ⊖ p.x) (q.y ⊖ p.y) → d ≡ step_of r len s t → d ≡ step_between m r p' q'
unfolding step_between
step_is m r p q p' q' s t len d ep eq es et el ed = rw (ed, el, es, et, ep, eq)

-- the length of the spoke to a point is its distance from the centre
pub spoke_length : (m : Point) (p : Point3D) (s : Spoke) → s ≡ spoke_of m p → s.len ≡ radius_from m p
unfolding spoke_of radius_from
spoke_length m p s es = rw es

-- and the root of its own square
pub spoke_root : (m : Point) (p : Point3D) (s : Spoke) → s ≡ spoke_of m p → s.len ≡ root_of (length_sq s.x s.y)
unfolding spoke_of length_of
spoke_root m p s es = rw es

-- a turn of the walk over the distances f
abbrev pub walk : (ℕ → Float) → ℕ → Deviation → Deviation
walk f j = worse (f j) j

stays : (d : Float) (i : ℕ) (w : Deviation) (tol : Float) → lt w.dist tol ≡ false → lt (worse d i w).dist tol ≡ false
unfolding worse
stays d i w tol h =
    ⊎_elim
    (λ e. rw e (⊎_elim (λ g. clash (sym h ∙ lt_trans w.dist d tol e g)) (λ g. g) (either (lt d tol))))
    (λ e. rw e h) (either (lt w.dist d))

-- a number that is not below it
pub reaches : (d : Float) (i : ℕ) (w : Deviation) (tol : Float) → is_nan d ≡ false → lt d tol ≡ false → lt (worse d i w).dist tol ≡ false
unfolding worse
reaches d i w tol n h =
    ⊎_elim
    (λ e. rw e h)
    (λ e. rw e (⊎_elim (λ g. ⊎_elim (λ k. clash (sym e ∙ k)) (λ k. clash (sym h ∙ k)) (lt_gap w.dist d tol n g)) (λ g. g) (either (lt w.dist tol)))) (either (lt w.dist d))

far_stays : (f : ℕ → Float) (n i : ℕ) (w : Deviation) (tol : Float) → lt w.dist tol ≡ false → lt (fold (walk f) n i w).dist tol ≡ false
unfolding fold
far_stays f zero i w tol h = h
far_stays f (suc n) i w tol h = far_stays f n (i + 1) (worse (f i) i w) tol (stays (f i) i w tol h)

-- the walk may end as soon as the greatest so far is not below the tolerance
pub too_far : (f : ℕ → Float) (n i : ℕ) (w all : Deviation) (tol : Float) → lt w.dist tol ≡ false → fold (walk f) n i w ≡ all → None ≡ measured_by all tol
unfolding measured_by
too_far f n i w all tol h e = let g : lt all.dist tol ≡ false = ap (λ (x : Deviation). lt x.dist tol) (sym e) ∙ far_stays f n i w tol h in rw g

-- at its end the greatest is that of all, by the test
pub all-within : (w all : Deviation) (tol : Float) → w ≡ all → lt w.dist tol ≡ true → Some w.index ≡ measured_by all tol
unfolding measured_by
all-within w all tol e h = rw (← e, h)

pub not_within : (w all : Deviation) (tol : Float) → w ≡ all → lt w.dist tol ≡ false → None ≡ measured_by all tol
unfolding measured_by
not_within w all tol e h = rw (← e, h)
