-- `exports::beziers::put_curve` meets its contract: four pairs one behind the other are one run. Assumes nothing.
use Rattle.geo.specs.Lent.{pair}
use mathlib.Core.Path.{refl}
use Rattle.exports.proofs.Runs.{four_runs}
use Rattle.exports.proofs.beziers.put_curve.Goals as goal

pub returns : goal.returns
returns c = four_runs c.args.out.now c.args.at (pair c.args.q.0) (pair c.args.q.1) (pair c.args.q.2) (pair c.args.q.3) _ _ _ _ refl refl refl c.put_pair.ensures c.put_pair-2.ensures c.put_pair-3.ensures c.put_pair-4.ensures
