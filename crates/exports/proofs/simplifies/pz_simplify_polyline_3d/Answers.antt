-- `exports::simplifies::pz_simplify_polyline_3d` meets its contract: what is written stays, and the answer is handed on. Assumes nothing.
use Rattle.geo.specs.Lent.{flat, triple}
use Rattle.exports.proofs.Plain.{listed}
use Rattle.exports.proofs.simplifies.pz_simplify_polyline_3d.Goals as goal

pub returns : goal.returns
returns c = listed (flat triple) _ c.args.out.now _ _ c.args.count.now _ _ c.simplify_polyline_3d.ensures c.hand_cause.ensures
