-- `flatten::flatten::set_heights` meets its contract: the heights left, stored from here, give the whole. The measure is how many are left. Assumes nothing.
use Rattle.flatten.specs.Lines.{height_after}
use Rattle.flatten.proofs.Raising.{raising_step, raising_done}
use Rattle.flatten.proofs.flatten.set_heights.Goals as goal

pub loop-i-preserved : goal.loop-i-preserved
loop-i-preserved c = let a = c.args in raising_step (height_after a.a a.b a.n) a.k a.nums.now _ _ c.loop-i.i c.loop-i.invariant c.loop-i-test.true (rw c.height_after.ensures)

pub returns : goal.returns
returns c = let a = c.args in raising_done (height_after a.a a.b a.n) a.k a.nums.now _ _ c.loop-i.invariant c.loop-i-test.false
