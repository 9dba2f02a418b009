-- `trial::trial::traversal_passes` meets its contract: the loop's invariant is a record of where the walk stands: the offset, the half and the count W so far, and no point at the centre. The measure is how many steps are left. Assumes nothing.
use mathlib.Core.Path.{ap, ◌∙◌}
use native.Mathlib.Omega.{arith}
use Rattle.geo.specs.Lent.{point_at}
use Rattle.trial.specs.Traversal.{offset_of}
use Rattle.trial.proofs.Going.{go_start, go_turn, go_kept, go_first, go_stop, go_done}
use Rattle.trial.proofs.trial.traversal_passes.Goals as goal

pub returns-then-at_centre : goal.returns-then-at_centre
returns-then-at_centre c = let a = c.args in go_first a.m (point_at a.stretch.points.now) a.stretch.start a.stretch.end _ _ (omega arith) (c.offset-q0.ensures ∙ ap (offset_of _) c.first.ensures) c.at_centre.ensures c.if-at_centre.true

pub loop-i-init : goal.loop-i-init
loop-i-init c = let a = c.args in
    let e = c.offset-q0.ensures ∙ ap (offset_of _) c.first.ensures in
    (e, go_start (λ j. offset_of a.m (point_at a.stretch.points.now j)) a.stretch.start a.stretch.end _ _ _ (omega arith) e c.half-h.ensures c.at_centre.ensures c.if-at_centre.false)

pub returns-then-at_centre-2 : goal.returns-then-at_centre-2
returns-then-at_centre-2 c = let a = c.args in go_stop a.m (point_at a.stretch.points.now) a.stretch.start a.stretch.end _ _ _ _ _ _ c.loop-i.invariant.1 c.loop-i-test.true (c.offset-n.ensures ∙ ap (offset_of _) c.at.ensures) c.at_centre-in-loop-i.ensures c.if-at_centre-2.true

pub turn_by-w-requires : goal.turn_by-w-requires
turn_by-w-requires c = let g = c.loop-i.invariant.1 in omega (arith, g.small, g.to)

pub loop-i-preserved : goal.loop-i-preserved
loop-i-preserved c = let a = c.args in
    let v = c.loop-i.invariant in
    let n = c.offset-n.ensures ∙ ap (offset_of _) c.at.ensures in
    let g = go_turn (λ j. offset_of a.m (point_at a.stretch.points.now j)) a.stretch.start a.stretch.end _ _ _ _ _ _ _ _ _ _ v.1 c.loop-i-test.true v.0 n c.half-k.ensures c.cross-c.ensures c.turn_by-w.ensures c.at_centre-in-loop-i.ensures c.if-at_centre-2.false in
    (v.0, go_kept (λ j. offset_of a.m (point_at a.stretch.points.now j)) a.stretch.start a.stretch.end _ _ _ _ (omega arith) g)

pub returns : goal.returns
returns c = let a = c.args in go_done a.m (point_at a.stretch.points.now) a.stretch.start a.stretch.end _ _ _ _ _ _ c.loop-i.invariant.1 c.loop-i-test.false c.loop-i.invariant.0 c.passes.ensures
