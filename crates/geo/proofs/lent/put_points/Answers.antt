-- `geo::lent::put_points` meets its contract: three runs of three stores are one run. Assumes nothing.
use Rattle.geo.specs.Lent.{triple}
use mathlib.Core.Path.{refl}
use Rattle.geo.proofs.Stores.{thrice}
use Rattle.geo.proofs.lent.put_points.Goals as goal

pub returns : goal.returns
returns c = let a = c.args in
    thrice 3 (triple a.p) (triple a.q) (triple a.r) a.out.now _ _ _ a.at refl refl c.put_point.ensures c.put_point-2.ensures c.put_point-3.ensures
