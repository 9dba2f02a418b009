-- `exports::beziers::pz_linearize_bezier` meets its contract: what is written stays, and the answer is handed on. Assumes nothing.
use Rattle.geo.specs.Lent.{flat}
use Rattle.bezier.specs.Linearize.{six}
use Rattle.exports.proofs.Plain.{listed}
use Rattle.exports.proofs.beziers.pz_linearize_bezier.Goals as goal

pub returns : goal.returns
returns c = listed (flat six) _ c.args.out.now _ _ c.args.count.now _ _ c.linearize_bezier.ensures c.hand_cause.ensures
