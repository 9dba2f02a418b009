-- `course::course::walk_along` meets its contract: what is written, and what is left to write, are the whole. Assumes nothing.
use native.Mathlib.Omega.{arith}
use Rattle.chain.specs.declared.chain.Walk.{Walk}
use borrow.Author.Rules.{rules}
use mathlib.Core.Path.{◌≡◌, ap}
use Rattle.pieces.proofs.Writing.{count-noted}
use Rattle.chain.specs.Chains.{under_way}
use Rattle.chain.proofs.Chains.{flushed_few}
use Rattle.course.proofs.Along.{on-start, on_room, on_step, last-room, on-done}
use Rattle.course.proofs.course.walk_along.Goals as goal

pub loop-i-init : goal.loop-i-init
loop-i-init c = let a = c.args in
    let q = c.requires.begun in
    record {
      same = search rules;
      on = on-start a.w.now.how a.w.now.rule.rule a.w.now.at.last a.commands.kinds.now a.commands.nums.now a.w.now.kinds.now a.w.now.nums.now a.w.now.steps.now a.w.now.at a.w.now.chain.now q.0 q.1 c.requires.room.3;
    }

pub take-requires : goal.take-requires
take-requires c = let a = c.args in
    let p = c.requires.room in
    let l = c.loop-i in
    rw (l.invariant.same.how, l.invariant.same.rule) (on_room a.w.now.how a.w.now.rule.rule a.w.now.at.last a.commands.kinds.now a.commands.nums.now a.w.now.kinds.now a.w.now.nums.now a.w.now.steps.now l.w.at l.w.chain.now l.w.kinds.now l.w.nums.now l.w.steps.now l.i l.invariant.on c.at.result c.loop-i-test.true c.at.ensures p.0 p.1 p.2)

pub loop-i-preserved : goal.loop-i-preserved
loop-i-preserved c = let a = c.args in
    let l = c.loop-i in
    record {
      on = on_step a.w.now.how a.w.now.rule.rule a.w.now.at.last a.commands.kinds.now a.commands.nums.now a.w.now.kinds.now a.w.now.nums.now a.w.now.steps.now l.w.at l.w.chain.now l.w.kinds.now l.w.nums.now l.w.steps.now l.i l.invariant.on c.at.result c.loop-i-test.true c.at.ensures a.w.now.rule.positive _ _ _ _ _ c.take.ensures.same.buffer (rw (l.invariant.same.how, l.invariant.same.rule) at c.take.ensures.stepped);
      same = search rules;
    }

pub flush-n-requires : goal.flush-n-requires
flush-n-requires c = let a = c.args in
    let p = c.requires.room in
    let l = c.loop-i in
    let r = last-room a.w.now.how a.w.now.rule.rule a.w.now.at.last a.commands.kinds.now a.commands.nums.now a.w.now.kinds.now a.w.now.nums.now a.w.now.steps.now l.w.at l.w.chain.now l.w.kinds.now l.w.nums.now l.w.steps.now l.i l.invariant.on c.loop-i-test.false p.0 p.1 p.2 in (l.invariant.on.inside, omega (arith, r), omega (arith, r), omega (arith, r))

pub overflow_add-result : goal.overflow_add-result
overflow_add-result c = let a = c.args in
    let p = c.requires.room in
    let l = c.loop-i in
    let r = last-room a.w.now.how a.w.now.rule.rule a.w.now.at.last a.commands.kinds.now a.commands.nums.now a.w.now.kinds.now a.w.now.nums.now a.w.now.steps.now l.w.at l.w.chain.now l.w.kinds.now l.w.nums.now l.w.steps.now l.i l.invariant.on c.loop-i-test.false p.0 p.1 p.2 in
    let f = flushed_few l.w.how l.w.rule.rule l.w.rule.positive (under_way l.w.at l.w.chain.now) in
    let e : c.flush-n.new.self.at.written ≡ l.w.at.written = ap (λ (w : Walk). w.written) c.flush-n.ensures.stays in
    let n = count-noted _ _ _ _ _ _ _ _ _ c.flush-n.ensures.written in omega (arith, r, f, e, n)

pub returns-clause-written : goal.returns-clause-written
returns-clause-written c = let a = c.args in
    let l = c.loop-i in
    let e : c.flush-n.new.self.at.written ≡ l.w.at.written = ap (λ (w : Walk). w.written) c.flush-n.ensures.stays in
    rw e (on-done a.w.now.how a.w.now.rule.rule a.w.now.at.last a.commands.kinds.now a.commands.nums.now a.w.now.kinds.now a.w.now.nums.now a.w.now.steps.now l.w.at l.w.chain.now l.w.kinds.now l.w.nums.now l.w.steps.now l.i l.invariant.on c.loop-i-test.false _ _ _ _ (rw (l.invariant.same.how, l.invariant.same.rule) at c.flush-n.ensures.written))
