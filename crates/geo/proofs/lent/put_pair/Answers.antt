-- `geo::lent::put_pair` meets its contract: two stores are one run. Assumes nothing.
use Rattle.geo.proofs.Stores.{two}
use Rattle.geo.proofs.lent.put_pair.Goals as goal

pub returns : goal.returns
returns c = two c.args.out.now c.args.at _ _
