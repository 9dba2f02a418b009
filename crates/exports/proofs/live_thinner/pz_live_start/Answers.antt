-- `exports::live_thinner::pz_live_start` meets its contract: the state is stored, or the number of the refusal handed back. Assumes nothing.
use Rattle.exports.specs.LiveState.{start_call}
use Rattle.exports.proofs.LiveThinner.{begun, not_begun}
use Rattle.exports.proofs.live_thinner.pz_live_start.Goals as goal

pub returns-in-Ok : goal.returns-in-Ok
unfolding start_call
returns-in-Ok c = begun _ _ _ _ _ _ c.in-Ok.ensures.says

pub returns-in-Err : goal.returns-in-Err
unfolding start_call
returns-in-Err c = not_begun _ _ _ _ _ _ _ c.in-Err.ensures.says c.from.ensures
