-- `trial::trial::arc_deviation` meets its contract: the loop's invariant is that the steps left decide the greatest deviation, and that p and s are the point and the spoke reached. The measure is how many steps are left. Assumes nothing.
use mathlib.Core.Path.{refl, ap, ◌∙◌}
use lib.Ieee.{Float}
use Rattle.geo.proofs.Walk.{fold_turn, fold_done}
use Rattle.circle.specs.Worst.{worse, worst as worstOf}
use Rattle.trial.specs.Deviation.{spoke_of, arc_deviation}
use Rattle.trial.proofs.Steps.{step_is}
use Rattle.trial.proofs.trial.arc_deviation.Goals as goal

pub loop-i-init : goal.loop-i-init
unfolding arc_deviation worstOf
loop-i-init c = (c.first-p.ensures, c.new-s.ensures ∙ ap (spoke_of _) c.first-p.ensures, refl)

pub loop-i-preserved : goal.loop-i-preserved
loop-i-preserved c = let a = c.args in
    let v = c.loop-i.invariant in
    let d = step_is a.arc.center a.arc.radius _ _ _ _ _ _ _ _ v.0 c.at-q.ensures v.1 c.new-t.ensures c.get_length.ensures c.deviation.ensures in
    let n = ap (λ (x : Float). worse x c.loop-i.i c.loop-i.worst) d in
    (c.at-q.ensures, c.new-t.ensures ∙ ap (spoke_of _) c.at-q.ensures, fold_turn _ a.stretch.end _ _ _ _ c.loop-i-test.true (c.or-worst.ensures ∙ n) v.2)

pub returns : goal.returns
returns c = let a = c.args in
    fold_done _ a.stretch.end _ _ _ c.loop-i-test.false c.loop-i.invariant.2
