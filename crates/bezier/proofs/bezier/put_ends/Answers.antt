-- `bezier::bezier::put_ends` meets its contract: what is left to write, written from here, gives the whole. The measure is how many steps are left. Assumes nothing.
use Rattle.std.proofs.Common.{refl, ◌∙◌}
use Rattle.bezier.specs.Linearize.{step_end, step_at, steps}
use Rattle.bezier.proofs.Ends.{writing_at_step, writing_at_done}
use Rattle.bezier.proofs.bezier.put_ends.Goals as goal

pub loop-i-preserved : goal.loop-i-preserved
unfolding step_at
loop-i-preserved c = let a = c.args in
    writing_at_step step_end 3 (λ s. refl) (step_at a.q.0 a.q.1 a.q.2 a.q.3 a.n) a.n a.at a.out.now c.loop-i.out _ c.loop-i.i c.loop-i.invariant c.loop-i-test.true (c.put_point.ensures ∙ rw (c.point.ensures, c.at-to.ensures.point))

pub returns : goal.returns
unfolding steps
returns c = let a = c.args in
    writing_at_done step_end 3 (λ s. refl) (step_at a.q.0 a.q.1 a.q.2 a.q.3 a.n) a.n a.at a.out.now _ _ c.loop-i.invariant c.loop-i-test.false
