-- `exports::simplifies::pz_simplify_data` meets its contract: what is written stays, and the answer is handed on. Assumes nothing.
use Rattle.exports.proofs.Plain.{listed-commands}
use Rattle.exports.proofs.simplifies.pz_simplify_data.Goals as goal

pub returns : goal.returns
returns c = listed-commands _ c.args.out_kinds.now _ c.args.out_nums.now _ _ c.args.count.now _ _ c.simplify_data.ensures c.hand_cause.ensures
