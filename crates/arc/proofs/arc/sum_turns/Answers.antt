-- `arc::arc::sum_turns` meets its contract: the loop's invariant is that the neighbours left decide the whole sum. The measure is how many are left. Assumes nothing.
use mathlib.Core.Path.{ap, ◌∙◌}
use Prim.Native.Nat.{◌-◌, ◌/◌}
use lib.ListN.{length}
use lib.Ieee.{Float}
use Rattle.floats.specs.Ops.{◌⊕◌}
use Rattle.geo.proofs.Walk.{fold_turn, fold_done}
use Rattle.arc.proofs.arc.sum_turns.Goals as goal

pub loop-i-preserved : goal.loop-i-preserved
loop-i-preserved c = let a = c.args in
    fold_turn _ (length a.points.now / 2 - 1) _ _ _ _ c.loop-i-test.true (ap (λ (x : Float). c.loop-i.sum ⊕ x) (c.turn-sum.ensures ∙ rw (c.pair_at.ensures, c.pair_at-in-loop-i.ensures))) c.loop-i.invariant

pub returns : goal.returns
returns c = fold_done _ (length c.args.points.now / 2 - 1) _ _ _ c.loop-i-test.false c.loop-i.invariant
