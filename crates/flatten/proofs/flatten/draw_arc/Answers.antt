-- `flatten::flatten::draw_arc` meets its contract: what both passes leave together is the Lines of the parts. Assumes nothing.
use native.Mathlib.Omega.{arith}
use Rattle.flatten.proofs.Passes.{ray_len}
use Rattle.flatten.proofs.Whole.{arc-placed}
use Rattle.flatten.proofs.flatten.draw_arc.Goals as goal

pub draw_quarters-n-requires : goal.draw_quarters-n-requires
draw_quarters-n-requires c = (ray_len _ _ c.vector-u.ensures, ray_len _ _ c.vector-w.ensures, omega (arith, c.requires, c.turns_before-k.ensures.few), omega (arith, c.requires, c.turns_before-k.ensures.few))

pub returns : goal.returns
returns c = let a = c.args in
    arc-placed a.a a.b a.o a.clockwise a.tolerance _ _ _ _ c.center-m.ensures c.vector-u.ensures c.vector-w.ensures c.turns_before-k.ensures.count _ a.kinds.now _ a.nums.now _ _ _ c.draw_quarters-n.ensures.lines c.set_heights.ensures c.put_point.ensures
