-- `exports::straights::pz_fewest_straights` meets its contract: what is written stays, and the answer's three numbers are handed on. Assumes nothing.
use Rattle.exports.proofs.Fewest.{tell_straights, tell_no_straights}
use Rattle.exports.proofs.straights.pz_fewest_straights.Goals as goal

pub returns-in-Ok : goal.returns-in-Ok
returns-in-Ok c =
    let a = c.args in
    let t = tell_straights _ a.count.now a.tested.now a.bound.now _ c.in-Ok.ensures.says in
    record { count = t.0; tested = t.1; bound = t.2; ends = c.in-Ok.ensures.leaves }

pub returns-in-Err : goal.returns-in-Err
returns-in-Err c =
    let a = c.args in
    let t = tell_no_straights _ a.count.now a.tested.now a.bound.now _ _ c.in-Err.ensures.says c.from.ensures in
    record { count = t.0; tested = t.1; bound = t.2; ends = c.in-Err.ensures.leaves }
