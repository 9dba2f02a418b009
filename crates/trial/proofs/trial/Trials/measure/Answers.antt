-- `trial::trial::Trials.measure` meets its contract: as for `arc_deviation`, with the length of the spoke that is handed in for a radius; and a greatest deviation that is not below the tolerance stays so, so the walk may end there; so does a step whose end alone decides. Assumes nothing.
use Rattle.std.proofs.Common.{not}
use mathlib.Core.Path.{refl, ap, ◌∙◌}
use borrow.Author.Tests.{not-true}
use lib.Ieee.{Float, lt}
use Rattle.geo.specs.Lent.{point_at}
use Rattle.geo.proofs.Walk.{fold_turn, fold_done}
use Rattle.circle.specs.Worst.{worse, worst as worstOf}
use Rattle.trial.specs.Deviation.{spoke_of, arc_deviation}
use Rattle.trial.proofs.Steps.{step_is, spoke_length, spoke_root, reaches, too_far, all-within, not_within}
use Rattle.trial.proofs.trial.Trials.measure.Goals as goal

pub loop-i-init : goal.loop-i-init
unfolding arc_deviation worstOf
loop-i-init c = let e = c in
    let a = e.args in
    (c.first-p.ensures, e.requires, ap (λ (r : Float). arc_deviation a.m r (point_at a.self.stretch.points.now) a.self.stretch.start a.self.stretch.end) (spoke_length a.m _ a.first e.requires))

pub returns-then-strays : goal.returns-then-strays
returns-then-strays c = let a = c.args in
    let l = c.loop-i in
    let v = l.invariant in
    let g = c.strays.ensures c.if-strays.true in
    let d = step_is a.m a.first.len _ _ _ _ _ _ _ _ v.0 c.at-q.ensures v.1 c.new-t.ensures refl refl in
    let n = ap (λ (x : Float). worse x l.i l.worst) d in
    let f = fold_turn _ a.self.stretch.end _ _ _ _ c.loop-i-test.true n v.2 in
    too_far _ _ _ _ _ _ (reaches _ l.i l.worst a.self.tolerance g.0 g.1) f

pub deviation_between-requires : goal.deviation_between-requires
deviation_between-requires c = spoke_root _ _ _ c.requires

pub returns-then-not-ok : goal.returns-then-not-ok
returns-then-not-ok c = let a = c.args in
    let l = c.loop-i in
    let v = l.invariant in
    let d = step_is a.m a.first.len _ _ _ _ _ _ _ _ v.0 c.at-q.ensures v.1 c.new-t.ensures refl c.deviation_between.ensures in
    let n = ap (λ (x : Float). worse x l.i l.worst) d in
    let f = fold_turn _ a.self.stretch.end _ _ _ _ c.loop-i-test.true (c.or-worst.ensures ∙ n) v.2 in
    too_far _ _ _ _ _ _ (not-true (lt c.or-worst.result.dist a.self.tolerance) (ap not c.if-not-ok.true)) f

pub loop-i-preserved : goal.loop-i-preserved
loop-i-preserved c = let a = c.args in
    let l = c.loop-i in
    let v = l.invariant in
    let d = step_is a.m a.first.len _ _ _ _ _ _ _ _ v.0 c.at-q.ensures v.1 c.new-t.ensures refl c.deviation_between.ensures in
    let n = ap (λ (x : Float). worse x l.i l.worst) d in
    let f = fold_turn _ a.self.stretch.end _ _ _ _ c.loop-i-test.true (c.or-worst.ensures ∙ n) v.2 in
    (c.at-q.ensures, c.new-t.ensures ∙ ap (spoke_of _) c.at-q.ensures, f)

pub returns-then-worst-self : goal.returns-then-worst-self
returns-then-worst-self c = let a = c.args in
    all-within _ _ a.self.tolerance (fold_done _ a.self.stretch.end _ _ _ c.loop-i-test.false c.loop-i.invariant.2) c.if-worst-self.true

pub returns : goal.returns
returns c = let a = c.args in
    not_within _ _ a.self.tolerance (fold_done _ a.self.stretch.end _ _ _ c.loop-i-test.false c.loop-i.invariant.2) c.if-worst-self.false
