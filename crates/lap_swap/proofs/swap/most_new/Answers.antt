-- `lap_swap::swap::most_new` meets its contract: the most of the new commands and of the next lap, as they are told. Assumes nothing.
use Rattle.course.specs.Course.{lent_course}
use Rattle.lap_fit.proofs.Cap.{cap_small}
use Rattle.lap_swap.proofs.Next.{most-told}
use Rattle.lap_swap.proofs.swap.most_new.Goals as goal

pub add_capped-requires : goal.add_capped-requires
add_capped-requires c = (cap_small _ _ c.course_most-own.ensures, cap_small _ _ c.most_next.ensures)

pub returns : goal.returns
returns c = let a = c.args in most-told a.tolerance a.s.bytes.now a.k (lent_course a.commands.kinds.now a.commands.nums.now) _ _ _ _ _ _ c.start_of-start.ensures c.course_end-end.ensures c.next_of.ensures.lap c.course_most-own.ensures c.most_next.ensures c.add_capped.ensures.0
