-- `fewest::fewest::fewest_straights` meets its contract: a refusal is the table's; what passed it is what `find` asks. Assumes nothing.
use Rattle.std.proofs.Common.{rules}
use mathlib.Core.Path.{refl}
use native.Mathlib.Omega.{arith}
use lib.ListN.{length}
use Rattle.fewest.proofs.Whole.{accepted, call_refused, call_given}
use Rattle.fewest.proofs.fewest.fewest_straights.Goals as goal

pub returns-in_err-task : goal.returns-in_err-task
returns-in_err-task c = let a = c.args in
    let r = call_refused a.points.now a.tolerance a.budget (length a.out.now) _ c.in_err-task.ensures.row a.out.now _ (search rules) in record { says = r.0; leaves = r.1 }

pub find-requires : goal.find-requires
find-requires c = let a = c.args in
    let g = accepted a.points.now a.tolerance a.budget (length a.out.now) c.in_ok-task.ensures.row in let q = c.in_ok-task.ensures.same in
    (rw q.0 q.3, omega (arith, q.3, g.two), omega (arith, q.3, g.room_for))

pub returns : goal.returns
returns c = let a = c.args in let q = c.in_ok-task.ensures.same in
    let r = call_given a.points.now a.tolerance a.budget (length a.out.now) c.in_ok-task.ensures.row a.out.now _ _ refl (rw (q.0, q.1, q.2) at c.find.ensures) in record { says = r.0; leaves = r.1 }
