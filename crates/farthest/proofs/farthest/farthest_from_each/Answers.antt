-- `farthest::farthest::farthest_from_each` meets its contract. The invariant: the points left, searched from the best so far, end where the whole search ends. The measure is how many are left. Assumes nothing.
use Rattle.geo.specs.Lent.{point_at}
use Rattle.farthest.proofs.Scan.{onward-start, onward_turn, onward-done}
use Rattle.farthest.proofs.farthest.farthest_from_each.Goals as goal

pub loop-i-init : goal.loop-i-init
loop-i-init g c = let a = c.args.stretch in
    onward-start g.V.Coordinates.squared (point_at a.points.now) a.start a.end _ c.new-best.ensures

pub loop-i-preserved : goal.loop-i-preserved
loop-i-preserved g c = let a = c.args.stretch in
    onward_turn g.V.Coordinates.squared (point_at a.points.now) a.start a.end _ _ _ _ c.loop-i-test.true
    (rw (c.first.ensures, c.last.ensures, c.at.ensures) at (c.distance_squared.ensures _ _ c.new-segment.ensures)) c.or-best.ensures c.loop-i.invariant

pub returns : goal.returns
returns g c = let a = c.args.stretch in
    onward-done g.V.Coordinates.squared (point_at a.points.now) a.start a.end _ _ c.loop-i-test.false c.loop-i.invariant
