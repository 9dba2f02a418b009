-- `exports::beziers::pz_split_bezier` meets its contract: the two curves are stored as one run, or the number of the refusal is handed back. Assumes nothing.
use mathlib.Core.Path.{refl}
use Rattle.exports.specs.Plain.{eight, sixteen}
use Rattle.exports.proofs.Plain.{gave, gave_nothing}
use Rattle.exports.proofs.Runs.{two_runs}
use Rattle.exports.proofs.beziers.pz_split_bezier.Goals as goal

pub returns-in-Ok : goal.returns-in-Ok
returns-in-Ok c = gave sixteen _ c.args.answer.now _ _ c.in-Ok.ensures (two_runs c.args.answer.now 0 8 (eight _) (eight _) _ _ refl c.put_curve.ensures c.put_curve-in-Ok.ensures)

pub returns-in-Err : goal.returns-in-Err
returns-in-Err c = gave_nothing sixteen _ c.args.answer.now _ _ c.in-Err.ensures c.from.ensures
