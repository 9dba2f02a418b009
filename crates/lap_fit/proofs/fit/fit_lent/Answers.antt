-- `lap_fit::fit::fit_lent` meets its contract: what the fit left in the arrays is written as a lap. Assumes nothing.
use native.Mathlib.Omega.{arith}
use Prim.Native.Nat.{ℕ}
use lib.ListN.{length-take}
use lib.Ieee.{Float}
use Rattle.lap_fit.proofs.Arrays.{counted, counted_new, put_fit}
use Rattle.lap_fit.proofs.fit.fit_lent.Goals as goal

pub overflow_mul-m : goal.overflow_mul-m
overflow_mul-m c = let a = c.args in let p = c.requires in
    let n = counted a.rule.rule a.rule.positive a.start a.commands.kinds.now a.commands.nums.now _ _ _ _ _ c.fit_course-n.ensures p.1 p.2 in omega (arith, n, p.0, p.1, p.2)

pub slice_bounds-fit-end : goal.slice_bounds-fit-end
slice_bounds-fit-end c = let a = c.args in let p = c.requires in
    let n = counted a.rule.rule a.rule.positive a.start a.commands.kinds.now a.commands.nums.now _ _ _ _ _ c.fit_course-n.ensures p.1 p.2 in let l = c.fit_course-n.auto in omega (arith, n, p.1, l.out_kinds)

pub slice_bounds-fit-end-2 : goal.slice_bounds-fit-end-2
slice_bounds-fit-end-2 c = let a = c.args in let p = c.requires in
    let n = counted a.rule.rule a.rule.positive a.start a.commands.kinds.now a.commands.nums.now _ _ _ _ _ c.fit_course-n.ensures p.1 p.2 in let l = c.fit_course-n.auto in omega (arith, n, p.1, l.out_kinds, length-take {A = ℕ})

pub slice_bounds-fit-end-3 : goal.slice_bounds-fit-end-3
slice_bounds-fit-end-3 c = let a = c.args in let p = c.requires in
    let n = counted a.rule.rule a.rule.positive a.start a.commands.kinds.now a.commands.nums.now _ _ _ _ _ c.fit_course-n.ensures p.1 p.2 in let l = c.fit_course-n.auto in omega (arith, n, p.2, l.out_nums)

pub slice_bounds-fit-end-4 : goal.slice_bounds-fit-end-4
slice_bounds-fit-end-4 c = let a = c.args in let p = c.requires in
    let n = counted a.rule.rule a.rule.positive a.start a.commands.kinds.now a.commands.nums.now _ _ _ _ _ c.fit_course-n.ensures p.1 p.2 in let l = c.fit_course-n.auto in omega (arith, n, p.2, l.out_nums, length-take {A = Float})

pub invariant_of-fit : goal.invariant_of-fit
invariant_of-fit c = let a = c.args in let p = c.requires in
    let n = counted a.rule.rule a.rule.positive a.start a.commands.kinds.now a.commands.nums.now _ _ _ _ _ c.fit_course-n.ensures p.1 p.2 in let l = c.fit_course-n.auto in record { whole = omega (arith, n, p.1, p.2, l.out_kinds, l.out_nums, length-take {A = ℕ}, length-take {A = Float}) }

pub write_commands-requires : goal.write_commands-requires
write_commands-requires c = let a = c.args in let p = c.requires in
    let e = counted_new a.rule.rule a.rule.positive a.start a.commands.kinds.now a.commands.nums.now _ _ _ _ _ c.fit_course-n.ensures p.1 p.2 in omega (arith, p.3, e, length-take {A = ℕ})

pub returns : goal.returns
returns c = let a = c.args in let p = c.requires in put_fit a.rule.rule a.rule.positive a.start a.commands.kinds.now a.commands.nums.now _ _ _ _ _ c.fit_course-n.ensures p.1 p.2 a.out.now _ a.to c.write_commands.ensures
