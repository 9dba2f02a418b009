-- `farthest::farthest::farthest_from_segment` meets its contract. The invariant: the points left, searched from the best so far, end where the whole search ends. The measure is how many are left. Assumes nothing.
use native.Mathlib.Omega.{arith}
use Rattle.geo.specs.Lent.{point_at}
use Rattle.farthest.proofs.Scan.{scan_onward, scan_two, scan_last, scan_done}
use Rattle.farthest.proofs.farthest.farthest_from_segment.Goals as goal

pub loop-i-init : goal.loop-i-init
loop-i-init g c = let a = c.args.stretch in
    (omega arith, omega arith, scan_onward g.V.Coordinates.squared (point_at a.points.now) a.start a.end _ c.new-best.ensures)

pub loop-i-preserved : goal.loop-i-preserved
loop-i-preserved g c = let a = c.args.stretch in
    let at = point_at a.points.now in
    let both = c.both-one.ensures _ _ c.new-segment.ensures in (
      omega arith,
      omega arith,
      scan_two (λ j. g.V.Coordinates.squared (at a.start) (at a.end) (at j)) a.end _ _ _ _ _ _ _ c.loop-i-test.true
          (rw (c.first.ensures, c.last.ensures, c.at.ensures) at both.0) (rw (c.first.ensures, c.last.ensures, c.at-in-loop-i.ensures) at both.1) c.or-best.ensures c.or-best-in-loop-i.ensures c.loop-i.invariant.2,
    )

pub returns-then-i-stretch : goal.returns-then-i-stretch
returns-then-i-stretch g c = let a = c.args.stretch in
    let at = point_at a.points.now in
    scan_last (λ j. g.V.Coordinates.squared (at a.start) (at a.end) (at j)) a.end _ _ _ _ _ c.if-i-stretch.true (omega arith)
    (rw (c.first.ensures, c.last.ensures, c.at-then-i-stretch.ensures) at (c.distance_squared.ensures _ _ c.new-segment.ensures)) c.or.ensures c.loop-i.invariant.2

pub returns : goal.returns
returns g c = scan_done _ c.args.stretch.end _ _ _ c.if-i-stretch.false c.loop-i.invariant.2
