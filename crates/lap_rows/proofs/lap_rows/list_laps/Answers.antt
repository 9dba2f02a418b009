-- `lap_rows::lap_rows::list_laps` meets its contract: the laps that are left, listed from here, give the whole text, and their steps the whole sum. Assumes nothing.
use mathlib.Core.Path.{refl}
use native.Mathlib.Omega.{arith}
use Rattle.geo.specs.Lent.{origin}
use Rattle.geo.specs.Walk.{list_from}
use Rattle.laps.specs.File.{laps_of}
use Rattle.laps.proofs.Turns.{length_laps_of}
use Rattle.lap_text.specs.Text.{ascii}
use Rattle.lap_rows.proofs.Laps.{laps-start, turn, turn_sum, laps_step, laps_added, total_room, laps-done}
use Rattle.lap_rows.proofs.Counts.{laps-few}
use Rattle.lap_rows.proofs.lap_rows.list_laps.Goals as goal

pub loop-j-init : goal.loop-j-init
loop-j-init c = let a = c.args in let p = c.requires in laps-start a.tolerance (laps_of a.file.bytes.now) _ _ c.copy-to.ensures.count p.2 (omega (arith, p.3, c.copy-to.auto))

pub put_lap-added-requires : goal.put_lap-added-requires
put_lap-added-requires c = let a = c.args in let p = c.requires in let l = c.loop-j in let s = a.file.bytes.now in let n = length_laps_of s in
    let t = turn a.tolerance (laps_of s) _ l.out l.start _ l.to l.total l.j _ l.invariant (omega arith) c.lap-body.ensures.lap refl in (p.0, omega arith, t.few, t.room)

pub overflow_add-total : goal.overflow_add-total
overflow_add-total c = let a = c.args in let l = c.loop-j in let s = a.file.bytes.now in let n = length_laps_of s in
    let t = turn_sum a.tolerance (laps_of s) _ l.out l.start _ l.to l.total l.j _ l.invariant (omega arith) c.lap-body.ensures.lap refl c.requires.2 _ c.put_lap-added.ensures.sum in omega arith

pub loop-j-preserved : goal.loop-j-preserved
loop-j-preserved c = let a = c.args in let p = c.requires in let l = c.loop-j in let s = a.file.bytes.now in let n = length_laps_of s in
    laps_step a.tolerance (laps_of s) _ l.out l.start _ l.to l.total l.j _ l.invariant (omega arith) c.lap-body.ensures.lap c.lap_end-start.ensures p.0 (omega arith) _ _ _ c.put_lap-added.ensures.text c.put_lap-added.ensures.sum

pub put_total-requires : goal.put_total-requires
put_total-requires c = let a = c.args in let l = c.loop-j in let s = a.file.bytes.now in let n = length_laps_of s in
    let e = laps_added a.tolerance (laps_of s) _ l.out l.start l.to l.total l.j l.invariant (omega arith) in
    let f = laps-few a.tolerance origin (laps_of s) in
    (omega (arith, e, f, c.requires.2), total_room a.tolerance (laps_of s) _ l.out l.start l.to l.total l.j l.invariant)

pub shape_of-out : goal.shape_of-out
shape_of-out c = let k = c.copy-to.auto in let z = c.loop-j.invariant.going.same in let m = c.put_total.auto in omega arith

pub returns : goal.returns
unfolding ascii list_from
returns c = let a = c.args in let l = c.loop-j in let s = a.file.bytes.now in let n = length_laps_of s in
    laps-done a.tolerance (laps_of s) _ a.out.now (omega (arith, c.requires.3)) c.copy-to.ensures.bytes l.out l.start l.to l.total l.j l.invariant (omega arith) c.requires.2 _ _ c.put_total.ensures
