-- `chain::chain::put_lines` meets its contract: what is written, and what is left to write, are the whole. The measure is how many points are left. Assumes nothing.
use native.Mathlib.Omega.{arith}
use Prim.Native.Nat.{◌/◌}
use mathlib.Core.Path.{ap, ◌∙◌}
use lib.ListN.{length}
use lib.Seq.{length-sets}
use Rattle.chain.proofs.Chains.{lining_start, lining_step, lining_done}
use Rattle.chain.proofs.chain.put_lines.Goals as goal

pub loop-i-init : goal.loop-i-init
loop-i-init c = let a = c.args in lining_start a.points.now (length a.points.now / 3) a.at a.kinds.now a.nums.now a.steps.now

pub point_at-end-requires : goal.point_at-end-requires
point_at-end-requires c = omega (arith, c.loop-i-test.true)

pub overflow_add-at : goal.overflow_add-at
overflow_add-at c = let p = c.requires in let v = c.loop-i.invariant in let x = v.index in let k = v.long_kinds in omega (arith, p, x, k, c.loop-i-test.true)

pub put_noted-requires : goal.put_noted-requires
put_noted-requires c = let p = c.requires in let v = c.loop-i.invariant in let x = v.index in let k = v.long_kinds in let n = v.long_numbers in (omega (arith, p, x, k, c.loop-i-test.true), omega (arith, p, x, n, c.loop-i-test.true))

pub overflow_add-written : goal.overflow_add-written
overflow_add-written c = let p = c.requires in let x = c.loop-i.invariant.index in omega (arith, p, x, c.loop-i-test.true)

pub overflow_step-i : goal.overflow_step-i
overflow_step-i c = let p = c.requires in omega (arith, p, c.loop-i-test.true)

pub loop-i-smaller : goal.loop-i-smaller
loop-i-smaller c = omega (arith, c.loop-i-test.true)

pub loop-i-preserved : goal.loop-i-preserved
loop-i-preserved c = let a = c.args in
    let l = c.loop-i in
    lining_step a.points.now (length a.points.now / 3) a.at a.kinds.now a.nums.now a.steps.now l.kinds l.nums l.steps l.i l.written l.invariant _ _ _ _ c.loop-i-test.true c.point_at-end.ensures c.put_noted.ensures

pub shape_of-kinds : goal.shape_of-kinds
shape_of-kinds c = c.loop-i.invariant.long_kinds

pub shape_of-nums : goal.shape_of-nums
shape_of-nums c = c.loop-i.invariant.long_numbers

pub shape_of-steps : goal.shape_of-steps
shape_of-steps c = ap length c.loop-i.invariant.progress.wrote.notes ∙ simp length-sets

pub returns : goal.returns
returns c = let a = c.args in let l = c.loop-i in lining_done a.points.now (length a.points.now / 3) a.at a.kinds.now a.nums.now a.steps.now l.kinds l.nums l.steps l.i l.written l.invariant c.loop-i-test.false
