-- `bezier::evaluation::Walk::put_steps` meets its contract: the loop's invariant is that the steps left, written from here, give the whole, that `from` is the point at the parameter reached, and that it counts one evaluation more than the steps made. The measure is how many steps are left. Assumes nothing.
use Rattle.std.proofs.Common.{◌≡◌, ℕ, ◌+◌, sym, refl, ap, ◌∙◌, arith}
use Rattle.geo.proofs.Flat.{writing_start, writing_step, writing_done}
use Rattle.bezier.specs.Linearize.{six, step_at, steps}
use Rattle.bezier.proofs.Evaluations.{evaluations}
use Rattle.bezier.proofs.evaluation.Walk.put_steps.Goals as goal

pub loop-i-init : goal.loop-i-init
loop-i-init c = let a = c.args in
    record {
      writing = writing_start six 6 (λ s. refl) (step_at a.self.curve.0 a.self.curve.1 a.self.curve.2 a.self.curve.3 a.self.steps) a.self.steps a.out.now;
      start = c.at-from.ensures.point;
      evaluated = c.at-from.ensures.count;
      inside = omega arith;
    }

pub loop-i-preserved : goal.loop-i-preserved
unfolding step_at
loop-i-preserved c = let a = c.args in
    let v = c.loop-i.invariant in
    let e = c.end-to.ensures in
    record {
      writing = writing_step six 6 (λ s. refl) (step_at a.self.curve.0 a.self.curve.1 a.self.curve.2 a.self.curve.3 a.self.steps) a.self.steps a.out.now c.loop-i.out _ c.loop-i.i v.writing c.loop-i-test.true (c.put_step.ensures ∙ rw (c.point.ensures, c.point-in-loop-i.ensures, v.start, e.point));
      start = e.point;
      evaluated = e.count ∙ ap (λ (k : ℕ). k + 1) v.evaluated;
      inside = omega (arith, c.loop-i-test.true);
    }

pub returns : goal.returns
unfolding steps
returns c = let a = c.args in
    let v = c.loop-i.invariant in
    let e : c.count.result ≡ a.self.steps + 1 = omega (arith, c.count.ensures, v.evaluated, v.inside, c.loop-i-test.false) in record { written = writing_done six 6 (λ s. refl) _ a.self.steps a.out.now _ _ v.writing c.loop-i-test.false; evaluations = (e ∙ sym (evaluations a.self.steps), e) }
