-- `exports::beziers::pz_get_bezier_point_at` meets its contract: the value's numbers are stored, or the number of the refusal is handed back. Assumes nothing.
use Rattle.geo.specs.Lent.{pair}
use Rattle.exports.proofs.Plain.{gave, gave_nothing}
use Rattle.exports.proofs.beziers.pz_get_bezier_point_at.Goals as goal

pub returns-in-Ok : goal.returns-in-Ok
returns-in-Ok c = gave pair _ c.args.answer.now _ _ c.in-Ok.ensures c.put_pair.ensures

pub returns-in-Err : goal.returns-in-Err
returns-in-Err c = gave_nothing pair _ c.args.answer.now _ _ c.in-Err.ensures c.from.ensures
