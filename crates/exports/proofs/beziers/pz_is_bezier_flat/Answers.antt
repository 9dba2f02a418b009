-- `exports::beziers::pz_is_bezier_flat` meets its contract: its truth is stored, or the number of the refusal is handed back. Assumes nothing.
use mathlib.Core.Path.{refl}
use Rattle.exports.proofs.Plain.{tells, tells_nothing}
use Rattle.exports.proofs.beziers.pz_is_bezier_flat.Goals as goal

pub returns-in-Ok : goal.returns-in-Ok
returns-in-Ok c = tells (λ b. b) _ c.args.flat.now _ _ c.in-Ok.ensures refl

pub returns-in-Err : goal.returns-in-Err
returns-in-Err c = tells_nothing (λ b. b) _ c.args.flat.now _ _ c.in-Err.ensures c.from.ensures
