-- The rows of each call, by the tests that its check makes, in their order. Assumes nothing.
use Rattle.std.proofs.Common.{◌≡◌, ℕ, ◌*◌, ◌<◌, ◌≤◌, true, false, not, ◌||◌, eqb, ltb, length, sym, ap, ◌∙◌, subst, ltb-false, le-ltb, lt-ltb}
use Rattle.geo.specs.declared.types.Point3D.{Point3D}
use lib.Ieee.{Float, le, to_unsigned}
use Rattle.floats.proofs.Order.{or_false}
use Rattle.geo.specs.Outcome.{refusal}
use Rattle.geo.proofs.Walk.{list_length}
use Rattle.geo.proofs.Rows.{row_fails, row-passes, row_passed, refusal-front, done}
use Rattle.geo.specs.declared.types.CubicBezier.{CubicBezier}
use Rattle.bezier.specs.Linearize.{most_asked, steps, steps_of, raised, step_count, steps_needed, param_steps}
use Rattle.bezier.specs.Calls.{linearize_rows, most_steps, param_first_rows, param_last_rows, param_rows}

pub count_passed : (n most : ℕ) → (eqb n 0 || ltb most n) ≡ false → n ≤ most
count_passed n most h = ltb-false most n (or_false (eqb n 0) (ltb most n) h).1

-- ---- what an accepted call knows
pub linearize_passed : (p0 c1 c2 p1 : Point3D) (n room : ℕ) → 0 ≡ refusal (linearize_rows p0 c1 c2 p1 n room) → (n ≤ most_asked) × (6 * n ≤ room)
unfolding linearize_rows
linearize_passed p0 c1 c2 p1 n room h =
    let r = row_passed 0 _ _ h in
    let s = row_passed 1 _ _ r.1 in
    let t = row_passed 4 _ _ s.1 in
    let u = row_passed 8 _ _ t.1 in
    (count_passed n most_asked s.0, ltb-false room (6 * n) u.0)

-- ---- linearize_bezier_from_params, whose steps are counted after its first rows
module _ (e c d s : Point3D) (r : Float) (room : ℕ) where
  pub param_refused : (n : ℕ) → n ≡ refusal (param_first_rows e c d s r room) → 0 < n → n ≡ refusal (param_rows e c d s r room)
  unfolding param_rows
  param_refused n q h = q ∙ refusal-front (param_first_rows e c d s r room) (param_last_rows e c d s r room) (subst (λ (k : ℕ). 0 < k) q h)

  param_passed : 0 ≡ refusal (param_first_rows e c d s r room) → refusal (param_rows e c d s r room) ≡ refusal (param_last_rows e c d s r room)
  unfolding param_rows param_first_rows
  param_passed h =
      let a = row_passed 0 _ _ h in
      let b = row_passed 4 _ _ a.1 in
      let g = row_passed 5 _ _ b.1 in
      row-passes _ _ _ a.0 ∙ row-passes _ _ _ b.0 ∙ row-passes _ _ _ g.0

  module _ (needed : Float) (first : 0 ≡ refusal (param_first_rows e c d s r room)) (is : needed ≡ steps_needed e c d s r) where
    pub param_many : le needed most_steps ≡ false → 8 ≡ refusal (param_rows e c d s r room)
    unfolding param_last_rows
    param_many h = sym (param_passed first ∙ row_fails _ _ _ (ap (λ (x : Float). not (le x most_steps)) (sym is) ∙ ap not h))

    few : le needed most_steps ≡ true → not (le (steps_needed e c d s r) most_steps) ≡ false
    few h = ap (λ (x : Float). not (le x most_steps)) (sym is) ∙ ap not h

    pub param_no_room : le needed most_steps ≡ true → room < 6 * length (param_steps e c d s r) → 9 ≡ refusal (param_rows e c d s r room)
    unfolding param_last_rows
    param_no_room h g = sym (param_passed first ∙ row-passes _ _ _ (few h) ∙ row_fails _ _ _ (lt-ltb _ _ g))

    pub param_accepted : le needed most_steps ≡ true → 6 * length (param_steps e c d s r) ≤ room → 0 ≡ refusal (param_rows e c d s r room)
    unfolding param_last_rows
    param_accepted h g = sym (param_passed first ∙ row-passes _ _ _ (few h) ∙ row-passes _ _ _ (le-ltb _ _ g) ∙ done)

-- the count is that of the command's curve
pub needed-is : (e c d s : Point3D) (r needed : Float) (q : CubicBezier Point3D) → q ≡ raised e c d s → needed ≡ step_count q.0 q.1 q.2 q.3 r → needed ≡ steps_needed e c d s r
unfolding steps_needed
needed-is e c d s r needed q h k = rw h at k

-- and so are the steps
pub steps-are : (e c d s : Point3D) (r needed : Float) (n : ℕ) (q : CubicBezier Point3D) → q ≡ raised e c d s → needed ≡ steps_needed e c d s r → n ≡ to_unsigned 64 needed → steps_of q n ≡ param_steps e c d s r
unfolding param_steps
steps-are e c d s r needed n q h is k = rw (h, k, is)

-- as many steps as the count says
pub param_length : (e c d s : Point3D) (r needed : Float) (n : ℕ) → needed ≡ steps_needed e c d s r → n ≡ to_unsigned 64 needed → n ≡ length (param_steps e c d s r)
unfolding param_steps steps
param_length e c d s r needed n is h = h ∙ ap (to_unsigned 64) is ∙ sym (list_length _ _ _)
