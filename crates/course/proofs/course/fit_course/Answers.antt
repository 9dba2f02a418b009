-- `course::course::fit_course` meets its contract: it is the fit with steps that nobody wants. Assumes nothing.
use Rattle.pieces.proofs.Writing.{commands-placed}
use Rattle.course.specs.Course.{lent_course}
use Rattle.course.proofs.Accepted.{course_commands}
use Rattle.course.proofs.course.fit_course.Goals as goal

pub returns : goal.returns
returns c = let a = c.args in
    commands-placed _ _ 0 _ a.out_kinds.now _ a.out_nums.now _ _ _ (course_commands a.rule.rule a.start (lent_course a.commands.kinds.now a.commands.nums.now)) c.fit_course_with_steps.ensures
