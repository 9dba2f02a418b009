-- `course::course::course_end` meets its contract: the start where there is no command, else the end of the last one. Assumes nothing.
use mathlib.Core.Path.{refl}
use Rattle.course.proofs.Start.{end-nothing, end-last}
use Rattle.course.proofs.course.course_end.Goals as goal

pub returns-then-n-eq0 : goal.returns-then-n-eq0
returns-then-n-eq0 c = let a = c.args in end-nothing a.commands.kinds.now a.commands.nums.now a.start c.if-n-eq0.true

pub returns : goal.returns
returns c = let a = c.args in end-last a.commands.kinds.now a.commands.nums.now a.start _ _ c.if-n-eq0.false refl c.end_at.ensures
