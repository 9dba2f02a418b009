-- `exports::fits::pz_get_polyline_line_deviation` meets its contract: the distance and the index are stored, or the number of the refusal is handed back. Assumes nothing.
use mathlib.Core.Path.{refl}
use Rattle.exports.proofs.Plain.{tells, tells_nothing}
use Rattle.exports.proofs.fits.pz_get_polyline_line_deviation.Goals as goal

pub returns-in-Ok : goal.returns-in-Ok
returns-in-Ok c = record { dist = tells (λ w. w.dist) _ c.args.dist.now _ _ c.in-Ok.ensures refl; index = tells (λ w. w.index) _ c.args.index.now _ _ c.in-Ok.ensures refl }

pub returns-in-Err : goal.returns-in-Err
returns-in-Err c = record { dist = tells_nothing (λ w. w.dist) _ c.args.dist.now _ _ c.in-Err.ensures c.from.ensures; index = tells_nothing (λ w. w.index) _ c.args.index.now _ _ c.in-Err.ensures c.from.ensures }
