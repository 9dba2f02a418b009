-- `course::course::optimize_path_from_array` meets its contract: a refusal is the table's, and the most of a path is its command count. Assumes nothing.
use native.Mathlib.Omega.{arith}
use borrow.Author.Rules.{rules}
use Rattle.geo.proofs.Wrote.{commands-refused}
use Rattle.course.specs.Course.{optimize_call}
use Rattle.course.proofs.Paths.{path_accepted, wrote_path}
use Rattle.course.proofs.course.optimize_path_from_array.Goals as goal

pub returns-in_err-refuse_commands : goal.returns-in_err-refuse_commands
unfolding optimize_call
returns-in_err-refuse_commands c = commands-refused _ _ c.in_err-refuse_commands.ensures _ _ _ _ (search rules)

pub invariant_of-rule : goal.invariant_of-rule
invariant_of-rule c = let a = c.args in
    record { positive = rw c.of_points.ensures (path_accepted a.kinds.now a.nums.now a.tolerance a.use_fit_arcs a.out_kinds.now a.out_nums.now c.in_ok-refuse_commands.ensures).0 }

pub invariant_of-commands : goal.invariant_of-commands
invariant_of-commands c = let a = c.args in
    let n = (path_accepted a.kinds.now a.nums.now a.tolerance a.use_fit_arcs a.out_kinds.now a.out_nums.now c.in_ok-refuse_commands.ensures).1.0 in record { whole = omega (arith, n) }

pub walk_course-requires : goal.walk_course-requires
walk_course-requires c = let a = c.args in
    let q = path_accepted a.kinds.now a.nums.now a.tolerance a.use_fit_arcs a.out_kinds.now a.out_nums.now c.in_ok-refuse_commands.ensures in
    rw (c.path_flush-how.ensures, c.of_points.ensures) (q.1.1, q.1.2, q.1.3)

pub returns : goal.returns
returns c = let a = c.args in wrote_path a.kinds.now a.nums.now a.tolerance a.use_fit_arcs a.out_kinds.now a.out_nums.now c.in_ok-refuse_commands.ensures _ c.path_flush-how.ensures _ _ _ _ _ (rw c.of_points.ensures at c.walk_course.ensures)
