-- `geo::lent::put_point` meets its contract: three stores are one run. Assumes nothing.
use native.Mathlib.Omega.{arith}
use lib.ListN.{length-set}
use Rattle.geo.proofs.Stores.{three}
use Rattle.geo.proofs.lent.put_point.Goals as goal

pub bounds-out-at-2 : goal.bounds-out-at-2
bounds-out-at-2 c = simp length-set (omega arith)

pub returns : goal.returns
returns c = three c.args.out.now c.args.at _ _ _
