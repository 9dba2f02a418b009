-- `svg::reading::put_laps` meets its contract: the laps that are left, written from here, give the whole file. Assumes nothing.
use native.Mathlib.Omega.{arith}
use Rattle.svg.proofs.Coursing.{coursing_starts, lap-fits, lap-ends_by, lap_entry, coursing_goes-on, course_put}
use Rattle.svg.proofs.reading.put_laps.Goals as goal

pub loop-j-init : goal.loop-j-init
loop-j-init c = coursing_starts _ c.args.out.now _ _ c.requires (omega (arith, c.put_head.auto.out))

pub put_lap-lap-requires : goal.put_lap-lap-requires
put_lap-lap-requires c = lap-fits c.loop-j.invariant c.loop-j-test.true

pub put_entry-requires : goal.put_entry-requires
put_entry-requires c = let l = lap_entry c.loop-j.invariant c.loop-j-test.true in omega (arith, l, c.put_lap-lap.auto.out)

pub overflow_mul-to-in-loop-j : goal.overflow_mul-to-in-loop-j
overflow_mul-to-in-loop-j c = let e = lap-ends_by c.loop-j.invariant c.loop-j-test.true _ _ c.put_lap-lap.ensures in omega (arith, e, c.loop-j.invariant.few-laps)

pub overflow_add-to-in-loop-j : goal.overflow_add-to-in-loop-j
overflow_add-to-in-loop-j c = let e = lap-ends_by c.loop-j.invariant c.loop-j-test.true _ _ c.put_lap-lap.ensures in omega (arith, e, c.loop-j.invariant.few-laps)

pub loop-j-preserved : goal.loop-j-preserved
loop-j-preserved c = coursing_goes-on c.loop-j.invariant c.loop-j-test.true _ _ c.put_lap-lap.ensures _ c.put_entry.ensures

pub returns : goal.returns
returns c = course_put c.loop-j.invariant _ c.put_head.ensures c.loop-j-test.false
