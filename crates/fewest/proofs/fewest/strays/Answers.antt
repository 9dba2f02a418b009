-- `fewest::fewest::strays` meets its contract: a point of the range whose root reaches the tolerance lies strictly between, and so the Line does not pass. Assumes nothing.
use native.Mathlib.Omega.{arith}
use Rattle.floats.proofs.Order.{clash}
use Rattle.fewest.proofs.Stray.{stray}
use Rattle.fewest.proofs.fewest.strays.Goals as goal

pub returns-then-tolerance-sqrt : goal.returns-then-tolerance-sqrt
returns-then-tolerance-sqrt c t = let a = c.args in
    stray a.between.points.now a.tolerance a.between.start a.between.end _ c.loop-i.invariant (omega (arith, c.requires.1, c.loop-i-test.true)) a.chord _ _ _ _
    c.requires.0 c.at.ensures c.spread-spread.ensures c.distance_squared.ensures c.sqrt.ensures.value c.if-tolerance-sqrt.true

pub returns : goal.returns
returns c t = clash t
