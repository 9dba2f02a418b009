-- `course::course::course_most` meets its contract: what is counted, and what the commands left count as, gives the whole. The measure is how many are left. Assumes nothing.
use Rattle.chain.proofs.Count.{cap-twice, cap-few, cap-most}
use Rattle.course.proofs.Most.{count_next, most_of_commands}
use mathlib.Core.List.{List}
use Rattle.geo.specs.declared.types.Command.{Command}
use native.Mathlib.Omega.{arith}
use mathlib.Core.Path.{◌≡◌, sym, ap, ◌∙◌, subst}
use Prim.Native.Nat.{ℕ, ◌+◌, ◌-◌, ◌≤◌}
use lib.ListN.{length}
use Rattle.chain.specs.Joins.{joined}
use Rattle.chain.specs.Chains.{cap}
use Rattle.course.specs.Course.{lent_course}
use Rattle.course.specs.Walks.{weights_from}
use Rattle.course.proofs.Walking.{commands-done}
use Rattle.course.proofs.course.course_most.Goals as goal

pub loop-i-init : goal.loop-i-init
loop-i-init c = let a = c.args in
    let q : length a.commands.kinds.now - 0 ≡ length a.commands.kinds.now = omega arith in
    let z : 0 + weights_from (joined a.tolerance) a.start (lent_course a.commands.kinds.now a.commands.nums.now) ≡ weights_from (joined a.tolerance) a.start (lent_course a.commands.kinds.now a.commands.nums.now) = omega arith in
    (rw q (ap cap z), omega arith, cap-few 0 (omega arith))

pub add_capped-most-requires : goal.add_capped-most-requires
add_capped-most-requires c = (c.loop-i.invariant.1, subst (λ (k : ℕ). k ≤ 801) (sym c.weight.ensures) (cap-most _))

pub loop-i-preserved : goal.loop-i-preserved
loop-i-preserved c = let a = c.args in
    let g = c.add_capped-most.ensures in
    (count_next a.tolerance a.commands.kinds.now a.commands.nums.now (length a.commands.kinds.now) c.loop-i.last _ c.at-c.result c.loop-i.i c.loop-i.most _ _ _ c.loop-i-test.true c.at-c.ensures c.end_point-last.ensures c.weight.ensures g.0 c.loop-i.invariant.0, g.1, rw g.0 (cap-twice _))

pub returns : goal.returns
unfolding weights_from
returns c = let a = c.args in
    let l = c.loop-i in
    let z : l.most + 0 ≡ l.most = omega arith in
    sym l.invariant.2 ∙ ap cap (sym z) ∙ sym (ap (λ (cs : List Command). cap (l.most + weights_from (joined a.tolerance) l.last cs)) (commands-done a.commands.kinds.now a.commands.nums.now (length a.commands.kinds.now) l.i c.loop-i-test.false)) ∙ l.invariant.0 ∙ ap cap (sym (most_of_commands a.tolerance a.start (lent_course a.commands.kinds.now a.commands.nums.now)))
