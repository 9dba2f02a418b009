-- `exports::beziers::pz_linearize_bezier_segment` meets its contract: what is written stays, and the answer is handed on. Assumes nothing.
use Rattle.geo.specs.Lent.{flat, triple}
use Rattle.exports.proofs.Plain.{listed}
use Rattle.exports.proofs.beziers.pz_linearize_bezier_segment.Goals as goal

pub returns : goal.returns
returns c = rw (← c.tolerance_by-t.ensures) (listed (flat triple) _ c.args.out.now _ _ c.args.count.now _ _ c.linearize_bezier_segment.ensures c.hand_cause.ensures)
