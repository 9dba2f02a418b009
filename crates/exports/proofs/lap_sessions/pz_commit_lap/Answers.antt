-- `exports::lap_sessions::pz_commit_lap` meets its contract: the edit number and the count are stored, or the number of the refusal handed back. Assumes nothing.
use Rattle.exports.proofs.LapSessions.{commit_lent, commit_not_lent}
use Rattle.exports.proofs.lap_sessions.pz_commit_lap.Goals as goal

pub returns-in-Ok : goal.returns-in-Ok
returns-in-Ok c =
    let a = c.args in
    let t = commit_lent _ _ _ _ _ _ c.commit_lap.ensures a.edits.now a.written.now _ c.in-Ok.is in
    record { session = t.0; bytes = t.1 }

pub returns-in-Err : goal.returns-in-Err
returns-in-Err c =
    let a = c.args in
    let t = commit_not_lent _ _ _ _ _ _ c.commit_lap.ensures a.edits.now a.written.now _ _ c.in-Err.is c.from.ensures in
    record { session = t.0; bytes = t.1 }
