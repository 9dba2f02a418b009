-- `simplify::simplify::simplify_data` meets its contract: a refusal is the table's, and what passed the checks meets what thinning asks. Assumes nothing.
use Rattle.std.proofs.Common.{rules}
use native.Mathlib.Omega.{arith}
use lib.ListN.{length}
use Rattle.floats.proofs.Unsigned.{square_not_negative}
use Rattle.geo.proofs.Wrote.{commands-refused}
use Rattle.simplify.specs.Simplify.{simplify_data}
use Rattle.simplify.proofs.Accepted.{commands-accepted, wrote-commands}
use Rattle.simplify.proofs.simplify.simplify_data.Goals as goal

pub returns-in_err-refuse_commands : goal.returns-in_err-refuse_commands
unfolding simplify_data
returns-in_err-refuse_commands c = commands-refused _ _ c.in_err-refuse_commands.ensures _ _ _ _ (search rules)

pub invariant_of-listed : goal.invariant_of-listed
invariant_of-listed c = let a = c.args in
    let r = commands-accepted a.kinds.now a.nums.now a.tolerance (length a.out_kinds.now) (length a.out_nums.now) c.in_ok-refuse_commands.ensures in
    record { whole = omega (arith, r) }

pub invariant_of-listed-2 : goal.invariant_of-listed-2
invariant_of-listed-2 c = let a = c.args in
    let r = commands-accepted a.kinds.now a.nums.now a.tolerance (length a.out_kinds.now) (length a.out_nums.now) c.in_ok-refuse_commands.ensures in
    record { room_kinds = r.2; room_numbers = omega (arith, r) }

pub thin-requires : goal.thin-requires
thin-requires c = let a = c.args in
    let r = commands-accepted a.kinds.now a.nums.now a.tolerance (length a.out_kinds.now) (length a.out_nums.now) c.in_ok-refuse_commands.ensures in
    (square_not_negative a.tolerance, omega (arith, r))

pub returns : goal.returns
returns c = let a = c.args in
    let same_kinds = c.thin.ensures.items.2 in
    let same_numbers = c.thin.ensures.items.3 in
    let kinds = c.thin.ensures.items.4 in
    let numbers = c.thin.ensures.items.5 in
    wrote-commands a.kinds.now a.nums.now a.tolerance a.out_kinds.now _ a.out_nums.now _ _ c.in_ok-refuse_commands.ensures c.thin.ensures.count (search rules) (search rules)
