-- `exports::fits::pz_fit_points_recursive` meets its contract: what is written stays, and the answer is handed on. Assumes nothing.
use Rattle.exports.proofs.Plain.{listed-commands}
use Rattle.exports.proofs.fits.pz_fit_points_recursive.Goals as goal

pub returns : goal.returns
returns c = let a = c.args in
    let f = c.fit_points_recursive.ensures in record { commands = listed-commands _ a.kinds.now _ a.nums.now _ _ a.count.now _ _ f.commands c.hand_cause.ensures; worst = f.worst.leaves }
