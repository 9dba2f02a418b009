-- `exports::beziers::pz_linearize_bezier_adaptive` meets its contract: what is written stays, and the answer is handed on. Assumes nothing.
use Rattle.geo.specs.Lent.{flat, pair}
use Rattle.exports.proofs.Plain.{listed}
use Rattle.exports.proofs.beziers.pz_linearize_bezier_adaptive.Goals as goal

pub returns : goal.returns
returns c = listed (flat pair) _ c.args.out.now _ _ c.args.count.now _ _ c.linearize_bezier_adaptive.ensures c.hand_cause.ensures
