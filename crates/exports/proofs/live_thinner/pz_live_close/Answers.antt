-- `exports::live_thinner::pz_live_close` meets its contract: the flag and the end are stored, or the number of the refusal is handed back. Assumes nothing.
use Rattle.std.specs.Prelude.{Some, None, Ok}
use mathlib.Core.Path.{refl, ap, ◌∙◌}
use Rattle.geo.specs.Lent.{flat}
use Rattle.exports.proofs.LiveThinner.{was-shut, not-closed}
use Rattle.exports.proofs.live_thinner.pz_live_close.Goals as goal

pub returns-in-Ok-Some : goal.returns-in-Ok-Some
unfolding flat
returns-in-Ok-Some c =
    let a = c.args in
    let t = was-shut _ _ _ c.close.ensures a.closed.now a.end.now a.handed.now (Some _) _ (c.in-Ok-Some.is ∙ ap Ok c.in-Ok-Some.field-0-is) c.put_point.ensures in
    record { state = t.0; end = t.1 }

pub returns-in-Ok-None : goal.returns-in-Ok-None
unfolding flat
returns-in-Ok-None c =
    let a = c.args in
    let t = was-shut _ _ _ c.close.ensures a.closed.now a.end.now a.handed.now None _ (c.in-Ok-None.is ∙ ap Ok c.in-Ok-None.field-0-is) refl in
    record { state = t.0; end = t.1 }

pub returns-in-Err : goal.returns-in-Err
returns-in-Err c =
    let a = c.args in
    let t = not-closed _ _ _ c.close.ensures a.closed.now a.end.now a.handed.now _ _ c.in-Err.is c.from.ensures in
    record { state = t.0; end = t.1 }
