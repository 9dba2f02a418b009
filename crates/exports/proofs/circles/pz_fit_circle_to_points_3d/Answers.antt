-- `exports::circles::pz_fit_circle_to_points_3d` meets its contract: what was found is stored, or that nothing was, or the number of the refusal is handed back. Assumes nothing.
use mathlib.Core.Path.{refl}
use Rattle.exports.specs.Plain.{is_found, circle_numbers}
use Rattle.exports.proofs.Plain.{finds, finds_nothing}
use Rattle.exports.proofs.Runs.{two_runs}
use Rattle.geo.specs.Lent.{pair}
use Rattle.exports.proofs.circles.pz_fit_circle_to_points_3d.Goals as goal

pub returns-in-Ok-Some : goal.returns-in-Ok-Some
unfolding is_found circle_numbers
returns-in-Ok-Some c = let a = c.args in let t = finds circle_numbers _ a.found.now a.answer.now _ _ _ (rw c.in-Ok-Some.field-0-is at c.in-Ok-Some.ensures) refl (two_runs a.answer.now 0 2 (pair _) (pair _) _ _ refl c.put_pair.ensures c.put_pair-in-Ok-Some.ensures) in record { found = t.0; answer = t.1 }

pub returns-in-Ok-None : goal.returns-in-Ok-None
unfolding is_found circle_numbers
returns-in-Ok-None c = let a = c.args in let t = finds circle_numbers _ a.found.now a.answer.now _ _ _ (rw c.in-Ok-None.field-0-is at c.in-Ok-None.ensures) refl refl in record { found = t.0; answer = t.1 }

pub returns-in-Err : goal.returns-in-Err
returns-in-Err c = let a = c.args in let t = finds_nothing circle_numbers _ a.found.now a.answer.now _ _ c.in-Err.ensures c.from.ensures in record { found = t.0; answer = t.1 }
