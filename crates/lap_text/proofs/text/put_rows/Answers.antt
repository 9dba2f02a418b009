-- `lap_text::text::put_rows` meets its contract: the rows that are left, written from here, give the whole, and so do their steps, added. Assumes nothing.
use native.Mathlib.Omega.{arith}
use lib.ListN.{length}
use Rattle.lap_text.proofs.Lines.{lines_start, line-short, line-room, lines_step, lines-done}
use Rattle.lap_text.proofs.text.put_rows.Goals as goal

pub loop-i-init : goal.loop-i-init
loop-i-init c = let a = c.args in let p = c.requires in lines_start a.kinds.now a.steps.now _ a.lap a.out.now a.at p.2 p.3

pub overflow_cast-covered : goal.overflow_cast-covered
overflow_cast-covered c = let a = c.args in let l = c.loop-i in
    let h = line-short a.kinds.now a.steps.now _ a.lap _ a.at l.out l.to l.sum l.i l.invariant c.loop-i-test.true in omega (arith, h)

pub put_row-to-requires : goal.put_row-to-requires
put_row-to-requires c = let a = c.args in let p = c.requires in let l = c.loop-i in let t = c.loop-i-test.true in
    let h = line-short a.kinds.now a.steps.now _ a.lap _ a.at l.out l.to l.sum l.i l.invariant t in
    (p.0, omega (arith, h), line-room a.kinds.now a.steps.now _ a.lap _ a.at l.out l.to l.sum l.i l.invariant t)

pub overflow_add-sum : goal.overflow_add-sum
overflow_add-sum c = let a = c.args in let l = c.loop-i in
    let h = line-short a.kinds.now a.steps.now _ a.lap _ a.at l.out l.to l.sum l.i l.invariant c.loop-i-test.true in omega (arith, h)

pub loop-i-preserved : goal.loop-i-preserved
loop-i-preserved c = let a = c.args in let l = c.loop-i in lines_step a.kinds.now a.steps.now _ a.lap _ a.at c.requires.0 l.out _ l.to _ l.sum l.i l.invariant c.loop-i-test.true c.put_row-to.ensures

pub returns : goal.returns
returns c = let a = c.args in let l = c.loop-i in let d = lines-done a.kinds.now a.steps.now (length a.kinds.now) a.lap _ a.at l.out l.to l.sum l.i l.invariant c.loop-i-test.false in record { text = d.0; sum = d.1 }
