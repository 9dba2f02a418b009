-- `exports::points::pz_get_midpoint_3d` meets its contract: the value's numbers are stored, or the number of the refusal is handed back. Assumes nothing.
use Rattle.geo.specs.Lent.{triple}
use Rattle.exports.proofs.Plain.{gave, gave_nothing}
use Rattle.exports.proofs.points.pz_get_midpoint_3d.Goals as goal

pub returns-in-Ok : goal.returns-in-Ok
returns-in-Ok c = gave triple _ c.args.answer.now _ _ c.in-Ok.ensures c.put_point.ensures

pub returns-in-Err : goal.returns-in-Err
returns-in-Err c = gave_nothing triple _ c.args.answer.now _ _ c.in-Err.ensures c.from.ensures
