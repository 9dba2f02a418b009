-- `exports::live_thinner::pz_live_retune` meets its contract: the state and the count are stored, or the number of the refusal is handed back. Assumes nothing.
use Rattle.exports.proofs.LiveThinner.{retold, not_retold}
use Rattle.exports.proofs.live_thinner.pz_live_retune.Goals as goal

pub returns-in-Ok : goal.returns-in-Ok
returns-in-Ok c =
    let a = c.args in
    let t = retold _ _ _ _ _ _ c.retune.ensures a.tolerance.now a.points.now a.count.now a.handed.now _ c.in-Ok.is in
    record { state = t.0; ends = t.1 }

pub returns-in-Err : goal.returns-in-Err
returns-in-Err c =
    let a = c.args in
    let t = not_retold _ _ _ _ _ _ c.retune.ensures a.tolerance.now a.points.now a.count.now a.handed.now _ _ c.in-Err.is c.from.ensures in
    record { state = t.0; ends = t.1 }
