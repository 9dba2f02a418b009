-- `course::course::walk_along` meets its contract: what is written, and what is left to write, are the whole. Assumes nothing.
use Rattle.chain.specs.Chains.{SameLent}
use Rattle.course.proofs.Along.{On}
use Rattle.course.proofs.course.walk_along.Given as goal

abbrev pub invariant-loop-i : goal.invariant-loop-i
invariant-loop-i l = record {
  same : SameLent l.initial.w l.w;
  on : On l.initial.w.how l.initial.w.rule.rule l.initial.w.at.last l.commands.kinds.now l.commands.nums.now l.initial.w.kinds.now l.initial.w.nums.now l.initial.w.steps.now l.w.at l.w.chain.now l.w.kinds.now l.w.nums.now l.w.steps.now l.i;
}
