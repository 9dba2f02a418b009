-- `exports::lap_sessions::pz_ask_lap` meets its contract: the ticket is stored, or the number of the refusal handed back. Assumes nothing.
use Rattle.exports.proofs.LapSessions.{ticket-lent, ticket_not_lent}
use Rattle.exports.proofs.lap_sessions.pz_ask_lap.Goals as goal

pub returns-in-Ok : goal.returns-in-Ok
returns-in-Ok c =
    let a = c.args in
    let f = c.in-Ok.ensures in
    record { ticket = ticket-lent _ a.ticket_lap.now a.ticket_tolerance.now a.ticket_edit.now a.ticket_count.now a.ticket_next.now _ f.says; bytes = f.leaves }

pub returns-in-Err : goal.returns-in-Err
returns-in-Err c =
    let a = c.args in
    let f = c.in-Err.ensures in
    record { ticket = ticket_not_lent _ a.ticket_lap.now a.ticket_tolerance.now a.ticket_edit.now a.ticket_count.now a.ticket_next.now _ _ f.says c.from.ensures; bytes = f.leaves }
