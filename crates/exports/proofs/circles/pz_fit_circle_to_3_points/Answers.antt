-- `exports::circles::pz_fit_circle_to_3_points` meets its contract: what was found is stored, or that nothing was, or the number of the refusal is handed back. Assumes nothing.
use mathlib.Core.Path.{refl}
use Rattle.exports.specs.Plain.{is_found, through_numbers}
use Rattle.exports.proofs.Plain.{finds, finds_nothing}
use Rattle.exports.proofs.circles.pz_fit_circle_to_3_points.Goals as goal

pub returns-in-Ok-Some : goal.returns-in-Ok-Some
unfolding is_found through_numbers
returns-in-Ok-Some c = let a = c.args in let t = finds through_numbers _ a.found.now a.answer.now _ _ _ (rw c.in-Ok-Some.field-0-is at c.in-Ok-Some.ensures) refl c.put_point.ensures in record { found = t.0; answer = t.1 }

pub returns-in-Ok-None : goal.returns-in-Ok-None
unfolding is_found through_numbers
returns-in-Ok-None c = let a = c.args in let t = finds through_numbers _ a.found.now a.answer.now _ _ _ (rw c.in-Ok-None.field-0-is at c.in-Ok-None.ensures) refl refl in record { found = t.0; answer = t.1 }

pub returns-in-Err : goal.returns-in-Err
returns-in-Err c = let a = c.args in let t = finds_nothing through_numbers _ a.found.now a.answer.now _ _ c.in-Err.ensures c.from.ensures in record { found = t.0; answer = t.1 }
