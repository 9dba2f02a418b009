-- A Bezier of a course: its steps as a count, and the most of a course by its commands. Assumes nothing.
use Prim.Native.Nat.{ℕ, ◌*◌, ◌≤◌}
use mathlib.Core.Path.{◌≡◌, refl, sym, ap, ◌∙◌, subst}
use mathlib.Core.Bool.{true, false}
use mathlib.Core.List.{List}
use native.Mathlib.Omega.{arith}
use lib.ListN.{length}
use lib.IntN.{pos}
use lib.Ieee.{Float, fin, lt, le, to_unsigned}
use Rattle.floats.specs.Ops.{◌⊘◌}
use Rattle.geo.specs.declared.types.Point3D.{Point3D}
use Rattle.geo.specs.declared.types.CubicBezier.{CubicBezier}
use Rattle.geo.specs.Lent.{flat}
use Rattle.geo.proofs.Flat.{flat_length}
use Rattle.bezier.specs.Linearize.{Step, step_end, steps, steps_of, raised, polygon_length, steps_needed, step_count, param_steps, first_third, last_third}
use Rattle.bezier.specs.Calls.{most_steps}
use Rattle.bezier.proofs.Rows.{param_length}
use Rattle.bezier.proofs.Count.{max_above}
use Rattle.chain.specs.Chains.{cap}
use Rattle.chain.proofs.Count.{cap-few, cap_many, many_steps}

module _ (q : CubicBezier Point3D) (r needed : Float) (is : needed ≡ step_count q.0 q.1 q.2 q.3 r) where
  pub needed_above : lt (fin true 1 (pos 0)) needed ≡ true
  unfolding step_count
  needed_above = subst (λ (x : Float). lt (fin true 1 (pos 0)) x ≡ true) (sym is) (max_above _)

  pub few-steps : (n : ℕ) → n ≡ to_unsigned 64 needed → n ≤ 800 → n ≡ cap (to_unsigned 64 (step_count q.0 q.1 q.2 q.3 r))
  few-steps n h l = let e = h ∙ ap (to_unsigned 64) is in e ∙ sym (cap-few (to_unsigned 64 (step_count q.0 q.1 q.2 q.3 r)) (omega arith))

  pub over-steps : le needed most_steps ≡ false → 801 ≡ cap (to_unsigned 64 (step_count q.0 q.1 q.2 q.3 r))
  unfolding step_count
  over-steps h =
      sym (cap_many (to_unsigned 64 (step_count q.0 q.1 q.2 q.3 r)) (many_steps (polygon_length q.0 q.1 q.2 q.3 ⊘ r) (subst (λ (x : Float). le x most_steps ≡ false) is h)))

-- ---- of a command's curve: n is its steps as they were counted
module _ (e c d s : Point3D) (r : Float) (q : CubicBezier Point3D) (n : ℕ) (is : q ≡ raised e c d s) (h : n ≡ cap (to_unsigned 64 (step_count q.0 q.1 q.2 q.3 r))) where
  pub steps_capped : n ≡ cap (length (param_steps e c d s r))
  unfolding steps_needed
  steps_capped = h ∙ ap (λ (p : CubicBezier Point3D). cap (to_unsigned 64 (step_count p.0 p.1 p.2 p.3 r))) is ∙ ap cap (param_length e c d s r (steps_needed e c d s r) _ refl refl)

  pub steps_counted : length (param_steps e c d s r) ≤ 800 → n ≡ length (param_steps e c d s r)
  steps_counted l = steps_capped ∙ cap-few (length (param_steps e c d s r)) l

-- as many steps as there are
pub params_are_steps : (e c d s : Point3D) (r : Float) (q : CubicBezier Point3D) (n : ℕ) → q ≡ raised e c d s → n ≡ length (param_steps e c d s r) → steps_of q n ≡ param_steps e c d s r
params_are_steps e c d s r q n is h =
    let p = param_length e c d s r (steps_needed e c d s r) (to_unsigned 64 (steps_needed e c d s r)) refl refl in
    ap (λ (k : CubicBezier Point3D). steps_of k n) is ∙ ap (steps s (first_third s e c) (last_third s e d) e) (h ∙ sym p) ∙ unfold param_steps in refl

-- each end is three numbers
pub ends_length : (xs : List Step) → length (flat step_end xs) ≡ 3 * length xs
ends_length xs = flat_length step_end 3 (λ s. refl) xs
