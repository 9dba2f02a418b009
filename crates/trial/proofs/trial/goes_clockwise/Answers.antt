-- `trial::trial::goes_clockwise` meets its contract: the loop's invariant is that the steps left decide the whole sum, and that p is the point reached. The measure is how many steps are left. Assumes nothing.
use mathlib.Core.Path.{refl, ap, ◌∙◌}
use lib.Ieee.{Float, lt}
use Rattle.floats.specs.Ops.{◌⊕◌, +0}
use Rattle.geo.specs.declared.types.Point3D.{Point3D}
use Rattle.geo.specs.Vector.{flatten}
use Rattle.geo.proofs.Walk.{fold_turn, fold_done}
use Rattle.arc.specs.Direction.{cross_sum, clockwise}
use Rattle.trial.proofs.trial.goes_clockwise.Goals as goal

pub loop-i-init : goal.loop-i-init
unfolding cross_sum
loop-i-init c = (c.truncate-p.ensures ∙ ap (λ (q : Point3D). flatten q) c.first.ensures, refl)

pub loop-i-preserved : goal.loop-i-preserved
loop-i-preserved c = let a = c.args in
    let v = c.loop-i.invariant in
    let q = c.truncate-q.ensures ∙ ap (λ (x : Point3D). flatten x) c.at.ensures in
    (q, fold_turn _ a.stretch.end _ _ _ _ c.loop-i-test.true (ap (λ (x : Float). c.loop-i.sum ⊕ x) (c.turn-sum.ensures ∙ rw (v.0, q))) v.1)

pub returns : goal.returns
unfolding clockwise
returns c = let a = c.args in
    ap (λ (x : Float). lt x +0) (fold_done _ a.stretch.end _ _ _ c.loop-i-test.false c.loop-i.invariant.1)
