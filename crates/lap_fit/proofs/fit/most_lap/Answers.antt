-- `lap_fit::fit::most_lap` meets its contract: what is counted, and what the commands that are left count as, gives the whole. The measure is how many are left. Assumes nothing.
use Prim.Native.Nat.{◌+◌}
use mathlib.Core.Path.{sym, ap, ◌∙◌}
use native.Mathlib.Omega.{arith}
use Rattle.chain.specs.Chains.{cap}
use Rattle.lap_fit.proofs.Cap.{cap_small, cap_step, cap-done}
use Rattle.lap_fit.proofs.Lap.{weights_first, weights_step, weights_end}
use Rattle.lap_fit.proofs.fit.most_lap.Goals as goal

pub loop-i-init : goal.loop-i-init
loop-i-init c = let a = c.args in let l = a.lap.body in (omega arith, weights_first a.tolerance l.bytes.now a.lap.start l.at l.count)

pub add_capped-most-requires : goal.add_capped-most-requires
add_capped-most-requires c = (c.loop-i.invariant.0, cap_small _ _ c.weight_at.ensures)

pub loop-i-preserved : goal.loop-i-preserved
loop-i-preserved c = let a = c.args in let b = a.lap.body in let l = c.loop-i in
    (c.add_capped-most.ensures.1, cap_step l.most _ _ _ _ _ c.weight_at.ensures c.add_capped-most.ensures.0 (ap (λ m. cap (l.most + m)) (sym (weights_step a.tolerance b.bytes.now a.lap.start b.at b.count l.i c.loop-i-test.true)) ∙ l.invariant.1))

pub returns : goal.returns
returns c = let a = c.args in let l = c.loop-i in cap-done l.most _ _ (weights_end a.tolerance a.lap.body.bytes.now _ _ a.lap.body.count l.i c.loop-i-test.false) l.invariant.0 l.invariant.1
