-- `circle::circle::Circle::worst_error` meets its contract: the loop's invariant is that the points left decide the greatest error. The measure is how many are left. Assumes nothing.
use mathlib.Core.Path.{◌∙◌}
use Prim.Native.Nat.{◌+◌}
use Rattle.geo.proofs.Walk.{fold_turn, fold_done}
use Rattle.circle.proofs.circle.Circle.worst_error.Goals as goal

pub loop-i-preserved : goal.loop-i-preserved
loop-i-preserved c = let a = c.args in
    fold_turn _ (a.stretch.end + 1) _ _ _ _ c.loop-i-test.true (c.or-worst.ensures ∙ rw (c.error_of.ensures, c.at.ensures)) c.loop-i.invariant

pub returns : goal.returns
returns c = let a = c.args in
    fold_done _ (a.stretch.end + 1) _ _ _ c.loop-i-test.false c.loop-i.invariant
