-- `bezier::bezier::linearize_bezier` meets its contract: a refusal by the check's cause, else the steps at the front. Assumes nothing.
use Rattle.std.proofs.Common.{rules, ◌≡◌, length, sym, refl, arith}
use Rattle.geo.specs.Lent.{flat}
use Rattle.geo.proofs.Walk.{list_length}
use Rattle.geo.proofs.Flat.{flat_length}
use Rattle.geo.proofs.Wrote.{wrote-refused, wrote-given}
use Rattle.bezier.specs.Linearize.{six, steps}
use Rattle.bezier.specs.Calls.{linearize_call}
use Rattle.bezier.proofs.Rows.{linearize_passed}
use Rattle.bezier.proofs.bezier.linearize_bezier.Goals as goal

pub returns-in_err-check_linearize : goal.returns-in_err-check_linearize
unfolding linearize_call
returns-in_err-check_linearize c = let a = c.args in
    wrote-refused _ _ c.in_err-check_linearize.ensures (flat six) (steps a.p0 a.c1 a.c2 a.p1 a.num_steps) _ _ (search rules)

pub invariant_of-walk : goal.invariant_of-walk
invariant_of-walk c = let a = c.args in record { few = (linearize_passed a.p0 a.c1 a.c2 a.p1 a.num_steps _ c.in_ok-check_linearize.ensures).0 }

pub put_steps-requires : goal.put_steps-requires
put_steps-requires c = let a = c.args in (linearize_passed a.p0 a.c1 a.c2 a.p1 a.num_steps _ c.in_ok-check_linearize.ensures).1

pub returns : goal.returns
unfolding linearize_call
returns c = let a = c.args in
    let f = linearize_passed a.p0 a.c1 a.c2 a.p1 a.num_steps _ c.in_ok-check_linearize.ensures in
    let n : a.num_steps ≡ length (steps a.p0 a.c1 a.c2 a.p1 a.num_steps) = sym (unfold steps in list_length _ _ _) in
    wrote-given _ c.in_ok-check_linearize.ensures (flat six) (steps a.p0 a.c1 a.c2 a.p1 a.num_steps) _ _ _ n
    (omega (arith, f.1, flat_length six 6 (λ s. refl) (steps a.p0 a.c1 a.c2 a.p1 a.num_steps)))
    c.put_steps.ensures.written
