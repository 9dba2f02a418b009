-- `course::course::fit_arcs` meets its contract: a refusal is the table's, and what passed the checks meets what `fit_course` asks. Assumes nothing.
use native.Mathlib.Omega.{arith}
use lib.ListN.{length}
use borrow.Author.Rules.{rules}
use Rattle.geo.proofs.Wrote.{commands-refused}
use Rattle.course.specs.Course.{arcs_call}
use Rattle.course.proofs.Accepted.{arcs_accepted, wrote_arcs}
use Rattle.course.proofs.course.fit_arcs.Goals as goal

pub returns-in_err-check_course : goal.returns-in_err-check_course
unfolding arcs_call
returns-in_err-check_course c = commands-refused _ _ c.in_err-check_course.ensures _ _ _ _ (search rules)

pub invariant_of-rule : goal.invariant_of-rule
invariant_of-rule c = let a = c.args in
    record { positive = rw c.of_laps.ensures (arcs_accepted a.kinds.now a.nums.now a.tolerance (length a.out_kinds.now) (length a.out_nums.now) c.in_ok-check_course.ensures).above_zero }

pub invariant_of-commands : goal.invariant_of-commands
invariant_of-commands c = let a = c.args in
    let r = arcs_accepted a.kinds.now a.nums.now a.tolerance (length a.out_kinds.now) (length a.out_nums.now) c.in_ok-check_course.ensures in
    let n = r.nine-each in record { whole = omega (arith, n) }

pub fit_course-requires : goal.fit_course-requires
fit_course-requires c = let a = c.args in
    let r = arcs_accepted a.kinds.now a.nums.now a.tolerance (length a.out_kinds.now) (length a.out_nums.now) c.in_ok-check_course.ensures in
    let k = r.room-numbers in
    rw c.of_laps.ensures (r.not_many, r.room-kinds, omega (arith, k))

pub returns : goal.returns
returns c = let a = c.args in wrote_arcs a.kinds.now a.nums.now a.tolerance a.out_kinds.now _ a.out_nums.now _ _ c.in_ok-check_course.ensures (rw c.of_laps.ensures at c.fit_course.ensures)
