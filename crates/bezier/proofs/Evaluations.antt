-- How often n steps evaluate the curve: once at each parameter of their list, and the points there, joined, are the steps. By induction on the steps. Assumes nothing.
use Rattle.std.proofs.Common.{◌≡◌, ℕ, zero, suc, ◌+◌, ◌≤◌, List, ◌∷◌, map, length, sym, refl, ap, arith}
use lib.Ieee.{Float}
use Rattle.geo.specs.declared.types.Point3D.{Point3D}
use Rattle.geo.specs.Walk.{list_from}
use Rattle.geo.proofs.Walk.{list_length}
use Rattle.geo.proofs.Flat.{Writing}
use Rattle.bezier.specs.declared.evaluation.Evaluated.{Evaluated}
use Rattle.bezier.specs.Curve.{point_on3}
use Rattle.bezier.specs.Linearize.{share, Step, six, step_at, steps, step_parameters, steps_from, steps_through}

-- n + 1 parameters
pub evaluations : (n : ℕ) → length (step_parameters n) ≡ n + 1
unfolding step_parameters
evaluations n = list_length (share n) (n + 1) 0

-- the points at them, joined, are the steps
module _ (p0 c1 c2 p1 : Point3D) (n : ℕ) where
  steps-through : (k i : ℕ) → steps_from (point_on3 p0 c1 c2 p1 (share n i)) (map (point_on3 p0 c1 c2 p1) (list_from (share n) k (i + 1))) ≡ list_from (step_at p0 c1 c2 p1 n) k i
  unfolding steps_from list_from step_at
  steps-through zero i = refl
  steps-through (suc k) i = ap (λ (l : List Step). step_at p0 c1 c2 p1 n i ∷ l) (steps-through k (i + 1))

  pub steps-joined : steps p0 c1 c2 p1 n ≡ steps_through (map (point_on3 p0 c1 c2 p1) (step_parameters n))
  unfolding steps step_parameters steps_through list_from
  steps-joined = let e : n + 1 ≡ suc n = omega arith in rw e (sym (steps-through n 0))

-- where the loop stands that writes the steps: what is left to write, where the next step starts, and how often the curve was evaluated
pub record Stepping (p0 c1 c2 p1 : Point3D) (n : ℕ) (out₀ out : List Float) (from : Evaluated) (i : ℕ) : Type 0 where
  pub writing : Writing six 6 (λ s. refl) (step_at p0 c1 c2 p1 n) n out₀ out i
  pub start : from.point ≡ point_on3 p0 c1 c2 p1 (share n i)
  pub evaluated : from.count ≡ i + 1
  pub inside : i ≤ n
