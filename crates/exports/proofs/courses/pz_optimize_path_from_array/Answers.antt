-- `exports::courses::pz_optimize_path_from_array` meets its contract: what is written stays, and the answer is handed on. Assumes nothing.
use Rattle.exports.proofs.Plain.{listed-commands}
use Rattle.exports.proofs.courses.pz_optimize_path_from_array.Goals as goal

pub returns : goal.returns
returns c = listed-commands _ c.args.out_kinds.now _ c.args.out_nums.now _ _ c.args.count.now _ _ c.optimize_path_from_array.ensures c.hand_cause.ensures
