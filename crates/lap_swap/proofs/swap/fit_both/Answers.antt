-- `lap_swap::swap::fit_both` meets its contract: both laps have room, and are written one behind the other. Assumes nothing.
use mathlib.Core.Path.{refl}
use native.Mathlib.Omega.{arith}
use Rattle.course.specs.Course.{end_on, lent_course}
use Rattle.laps.specs.File.{laps_of}
use Rattle.lap_swap.specs.Swap.{commands_of}
use Rattle.lap_swap.proofs.Body.{few-laps, put-fits}
use Rattle.lap_swap.proofs.swap.fit_both.Goals as goal

pub fit_commands-count-requires : goal.fit_commands-count-requires
fit_commands-count-requires c = let a = c.args in let p = c.requires in let b = few-laps a.rule.rule (laps_of a.recorded.bytes.now) a.k a.commands.kinds.now a.commands.nums.now c.start_of-start.result (end_on c.start_of-start.result (lent_course a.commands.kinds.now a.commands.nums.now)) (commands_of c.next_of-lap.result) c.start_of-start.ensures refl c.next_of-lap.ensures.lap a.rule.positive 800 p.2 in (b.0, omega (arith, b.2, p.3))

pub overflow_mul-count : goal.overflow_mul-count
overflow_mul-count c = let a = c.args in let p = c.requires in let b = few-laps a.rule.rule (laps_of a.recorded.bytes.now) a.k a.commands.kinds.now a.commands.nums.now c.start_of-start.result c.course_end-end.result (commands_of c.next_of-lap.result) c.start_of-start.ensures c.course_end-end.ensures c.next_of-lap.ensures.lap a.rule.positive 800 p.2 in let n = c.fit_commands-count.ensures.count in omega (arith, n, b.2, p.2)

pub fit_next-next-requires : goal.fit_next-next-requires
fit_next-next-requires c = let a = c.args in let p = c.requires in let b = few-laps a.rule.rule (laps_of a.recorded.bytes.now) a.k a.commands.kinds.now a.commands.nums.now c.start_of-start.result c.course_end-end.result (commands_of c.next_of-lap.result) c.start_of-start.ensures c.course_end-end.ensures c.next_of-lap.ensures.lap a.rule.positive 800 p.2 in let n = c.fit_commands-count.ensures.count in (c.next_of-lap.ensures.few, b.1, omega (arith, n, b.2, p.3, c.fit_commands-count.auto))

pub returns : goal.returns
returns c = let a = c.args in let p = c.requires in put-fits a.rule.rule (laps_of a.recorded.bytes.now) a.k a.commands.kinds.now a.commands.nums.now c.start_of-start.result c.course_end-end.result (commands_of c.next_of-lap.result) c.start_of-start.ensures c.course_end-end.ensures c.next_of-lap.ensures.lap a.rule.positive a.buffer.now _ _ _ _ p.3 c.fit_commands-count.ensures c.fit_next-next.ensures
