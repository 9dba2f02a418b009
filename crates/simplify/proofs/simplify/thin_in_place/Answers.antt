-- `simplify::simplify::thin_in_place` meets its contract: none of the triples is always kept. Assumes nothing.
use Prim.Native.Nat.{◌/◌}
use lib.ListN.{length}
use Rattle.std.proofs.Common.{rules}
use Rattle.geo.specs.Lent.{triple, point_at}
use Rattle.farthest.specs.Measure.{measure_of}
use Rattle.simplify.proofs.Accepted.{copied-points}
use Rattle.simplify.proofs.simplify.thin_in_place.Goals as goal

pub returns : goal.returns
returns c = let a = c.args in
    let same = c.thin.ensures.items.0 in
    let items = c.thin.ensures.items.1 in
    copied-points (measure_of a.ruler) a.limit c.requires.0 (point_at a.points.now) (length a.points.now / 3) triple a.points.now _ _ c.thin.ensures.count (search rules)
