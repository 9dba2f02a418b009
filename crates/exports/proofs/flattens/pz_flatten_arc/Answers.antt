-- `exports::flattens::pz_flatten_arc` meets its contract: what is written stays, and the answer is handed on. Assumes nothing.
use Rattle.exports.proofs.Plain.{listed-commands}
use Rattle.exports.proofs.flattens.pz_flatten_arc.Goals as goal

pub returns : goal.returns
returns c = let a = c.args in
    listed-commands _ a.kinds.now _ a.nums.now _ _ a.count.now _ _ c.flatten_arc.ensures c.hand_cause.ensures
