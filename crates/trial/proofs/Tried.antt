-- The arc of a range is that of the first trial, else that of the second; an arc that either found passes, and its worst step is its deviation's: by the tests of the
-- definitions. Assumes nothing.
use Prim.Native.Nat.{ℕ, ◌+◌, ◌-◌}
use mathlib.Core.Path.{◌≡◌, refl, sym, ◌∙◌, subst}
use mathlib.Core.Logic.{⊎_elim}
use mathlib.Core.Bool.{Bool, true, false}
use Rattle.std.specs.Prelude.{Option, Some, None}
use native.Mathlib.Omega.{arith}
use lib.Dec.{eqb}
use lib.Ieee.{Float, lt}
use Rattle.floats.proofs.Order.{either}
use Rattle.geo.specs.declared.types.Point.{Point}
use Rattle.geo.specs.declared.types.Point3D.{Point3D}
use Rattle.circle.specs.declared.circle.Center.{Center}
use Rattle.circle.specs.declared.circle.Circle.{Circle}
use Rattle.circle.specs.Three.{radius_from, through_three}
use Rattle.circle.specs.Kasa.{kasa_center}
use Rattle.circle.specs.Bisector.{projected}
use Rattle.trial.specs.declared.trial.Trial.{Trial}
use Rattle.trial.specs.Deviation.{arc_deviation}
use Rattle.trial.specs.Traversal.{traverses}
use Rattle.trial.specs.Trial.{Arc, sharp_at, closed_range, measured_by, going_round, of_measured, trial_round, trial_of, of_circle, of_center, trial_three, trial_least, three_tried, least_tried, or_else, try_arcs}
use Rattle.trial.specs.Laws.{ArcPasses}

-- ---- what a trial found passes, and its worst step is the first of its greatest deviation
abbrev Found : Float → (ℕ → Point3D) → ℕ → ℕ → Option Trial → Type 0
Found tol at lo hi (Some t) =
    ArcPasses tol at lo hi t.center t.clockwise × (t.worst ≡ (arc_deviation t.center (radius_from t.center (at lo)) at lo hi).index)
Found tol at lo hi None = Unit

module _ (tol : Float) (at : ℕ → Point3D) (lo hi : ℕ) where
  found_round : (c : Point) → Found tol at lo hi (trial_round at lo hi tol c)
  unfolding trial_round measured_by of_measured going_round
  found_round c =
      ⊎_elim
      (λ h. rw h (⊎_elim (λ g. rw g (record { deviation = h; traversal = g; direction = refl }, refl)) (λ g. rw g tt) (either (traverses c at lo hi))))
      (λ h. rw h tt) (either (lt (arc_deviation c (radius_from c (at lo)) at lo hi).dist tol))

  found_circle : (c : Option Circle) → Found tol at lo hi (of_circle at lo hi tol c)
  unfolding of_circle trial_of
  found_circle (Some c) = found_round (projected (at lo) (at hi) c.center)
  found_circle None = tt

  found-center : (c : Option Center) → Found tol at lo hi (of_center at lo hi tol c)
  unfolding of_center trial_of
  found-center (Some c) = found_round (projected (at lo) (at hi) c.center)
  found-center None = tt

  found-three : (k : ℕ) → Found tol at lo hi (three_tried at lo hi k tol)
  unfolding three_tried trial_three
  found-three k =
      ⊎_elim (λ h. rw h tt)
      (λ h. rw h
      (⊎_elim (λ g. rw g tt)
      (λ g. rw g (⊎_elim (λ e. rw e (found_circle (through_three (at lo) (at (lo + 1)) (at hi)))) (λ e. rw e tt) (either (eqb (hi - lo) 2))))
      (either (closed_range (at lo) (at hi)))))
      (either (sharp_at at lo hi k))

  found-least : (k : ℕ) → Found tol at lo hi (least_tried at lo hi k tol)
  unfolding least_tried trial_least
  found-least k =
      ⊎_elim (λ h. rw h tt)
      (λ h. rw h (⊎_elim (λ g. rw g tt) (λ g. rw g (found-center (kasa_center at lo hi))) (either (closed_range (at lo) (at hi)))))
      (either (sharp_at at lo hi k))

  -- An arc that the trial by three points found passes,
  pub three-passes : (k : ℕ) (c : Point) (d : Bool) (w : ℕ) → three_tried at lo hi k tol ≡ Arc c d w → ArcPasses tol at lo hi c d
  three-passes k c d w e = (subst (Found tol at lo hi) e (found-three k)).0

  -- and so does one that the trial by least squares found.
  pub least-passes : (k : ℕ) (c : Point) (d : Bool) (w : ℕ) → least_tried at lo hi k tol ≡ Arc c d w → ArcPasses tol at lo hi c d
  least-passes k c d w e = (subst (Found tol at lo hi) e (found-least k)).0

-- ---- the first that passes
module _ (at : ℕ → Point3D) (lo hi k : ℕ) (tol : Float) where
  tried_both : try_arcs at lo hi k tol ≡ or_else (three_tried at lo hi k tol) (least_tried at lo hi k tol)
  unfolding try_arcs three_tried least_tried or_else
  tried_both = go (sharp_at at lo hi k) (closed_range (at lo) (at hi)) (eqb (hi - lo) 2) refl refl refl
    where
      go : (a b c : Bool) → sharp_at at lo hi k ≡ a → closed_range (at lo) (at hi) ≡ b → eqb (hi - lo) 2 ≡ c
          → try_arcs at lo hi k tol ≡ or_else (three_tried at lo hi k tol) (least_tried at lo hi k tol)
      go true b c p q r = rw p
      go false true c p q r = rw (p, q)
      go false false true p q r = rw (p, q, r)
      go false false false p q r = rw (p, q, r)

  -- Where the trial by three points gives an Arc, that is the range's arc,
  pub first_tried : (c : Point) (d : Bool) (w : ℕ) → three_tried at lo hi k tol ≡ Arc c d w → try_arcs at lo hi k tol ≡ Arc c d w
  unfolding or_else
  first_tried c d w e = tried_both ∙ rw e

  -- where it fails, what the trial by least squares gives,
  pub second_tried : three_tried at lo hi k tol ≡ None → try_arcs at lo hi k tol ≡ least_tried at lo hi k tol
  unfolding or_else
  second_tried e = tried_both ∙ rw e

  -- and there is none only where both fail.
  pub none_tried : try_arcs at lo hi k tol ≡ None → (three_tried at lo hi k tol ≡ None) × (least_tried at lo hi k tol ≡ None)
  unfolding or_else
  none_tried e = neither (three_tried at lo hi k tol) (least_tried at lo hi k tol) (sym tried_both ∙ e)
    where
      neither : (a b : Option Trial) → or_else a b ≡ None → (a ≡ None) × (b ≡ None)
      neither (Some t) b e = absurd (let z : ◌≡◌ {A = ℕ} 0 1 = cc in omega arith)
      neither None b e = (refl, e)

  found_or : (t u : Option Trial) → Found tol at lo hi t → Found tol at lo hi u → Found tol at lo hi (or_else t u)
  unfolding or_else
  found_or (Some t) u p q = p
  found_or None u p q = q

  -- The worst step of the range's arc is the first that reaches the arc's deviation, 0 where that is 0.
  pub tried_worst : (c : Point) (d : Bool) (w : ℕ) → try_arcs at lo hi k tol ≡ Arc c d w → w ≡ (arc_deviation c (radius_from c (at lo)) at lo hi).index
  tried_worst c d w e =
      (subst (Found tol at lo hi) (sym tried_both ∙ e)
      (found_or (three_tried at lo hi k tol) (least_tried at lo hi k tol) (found-three tol at lo hi k) (found-least tol at lo hi k))).1
