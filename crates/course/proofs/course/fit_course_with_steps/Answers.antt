-- `course::course::fit_course_with_steps` meets its contract: it is the walk whose chains are thinned and fitted. Assumes nothing.
use native.Mathlib.Omega.{arith}
use Rattle.pieces.proofs.Writing.{same_noted}
use Rattle.course.specs.Course.{lent_course}
use Rattle.course.proofs.Paths.{course_fit, course_most}
use Rattle.course.proofs.course.fit_course_with_steps.Goals as goal

pub walk_course-requires : goal.walk_course-requires
walk_course-requires c = let a = c.args in
    let p = c.requires in
    let m = course_most a.rule.rule.tolerance a.start (lent_course a.commands.kinds.now a.commands.nums.now) in (omega (arith, p, m), omega (arith, p, m), omega (arith, p, m))

pub returns : goal.returns
returns c = let a = c.args in
    same_noted _ _ 0 _ a.out_kinds.now _ a.out_nums.now _ a.steps.now _ (course_fit a.rule.rule a.start (lent_course a.commands.kinds.now a.commands.nums.now)) c.walk_course.ensures
