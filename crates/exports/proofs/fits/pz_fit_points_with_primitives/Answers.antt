-- `exports::fits::pz_fit_points_with_primitives` meets its contract: what is written stays, and the answer's two numbers are handed on. Assumes nothing.
use Rattle.exports.proofs.Plain.{listed-fit, listed_no_fit}
use Rattle.exports.proofs.fits.pz_fit_points_with_primitives.Goals as goal

pub returns-in-Ok : goal.returns-in-Ok
returns-in-Ok c =
    let a = c.args in
    let f = c.in-Ok.ensures in
    let l = listed-fit _ _ a.kinds.now _ a.nums.now _ f.kinds f.numbers a.count.now a.ranges.now _ f.says in
    record { commands = l.0; ranges = l.1; worst = f.worst }

pub returns-in-Err : goal.returns-in-Err
returns-in-Err c =
    let a = c.args in
    let f = c.in-Err.ensures in
    let l = listed_no_fit _ _ a.kinds.now _ a.nums.now _ f.kinds f.numbers a.count.now a.ranges.now _ _ f.says c.from.ensures in
    record { commands = l.0; ranges = l.1; worst = f.worst }
