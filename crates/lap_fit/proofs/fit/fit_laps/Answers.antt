-- `lap_fit::fit::fit_laps` meets its contract: the laps that are left, written from here, give the whole file, each fit in what is left of the output. Assumes nothing.
use mathlib.Core.Path.{refl}
use native.Mathlib.Omega.{arith}
use Rattle.geo.specs.Lent.{origin}
use Rattle.laps.specs.File.{laps_of}
use Rattle.laps.proofs.Going.{turn}
use Rattle.laps.proofs.Turns.{ends_by, fits_next, length_laps_of}
use Rattle.lap_fit.proofs.Lap.{mosts_step}
use Rattle.lap_fit.proofs.Turns.{total_most, fit_begin, fit_cons, fit-done}
use Rattle.lap_fit.proofs.fit.fit_laps.Goals as goal

pub loop-j-init : goal.loop-j-init
loop-j-init c = let p = c.requires in (p.0, fit_begin c.args.rule.rule c.args.rule.positive c.args.file.bytes.now _ _ c.lap_count-l.ensures.0 (omega (arith, p)))

pub fit_lap-n-requires : goal.fit_lap-n-requires
fit_lap-n-requires c = let a = c.args in let l = c.loop-j in let s = a.file.bytes.now in let e = c.lap-body.ensures.lap in
    let n = length_laps_of s in
    let m = mosts_step a.rule.rule.tolerance l.start _ (laps_of s) l.j _ (omega arith) e refl in
    (omega (arith, m, l.invariant.0), fits_next _ _ _ _ _ _ _ _ (fit_cons a.rule.rule l.start _ (laps_of s) _ _ l.out _ l.j l.to _ (omega arith) e refl l.invariant.1))

pub put_entry-requires : goal.put_entry-requires
put_entry-requires c = let g = c.loop-j.invariant.1 in omega arith

pub overflow_mul-to-in-loop-j : goal.overflow_mul-to-in-loop-j
overflow_mul-to-in-loop-j c = let a = c.args in let l = c.loop-j in let s = a.file.bytes.now in
    let n = length_laps_of s in
    let m = total_most a.rule.rule a.rule.positive origin (laps_of s) in
    let w = ends_by _ _ _ _ _ _ _ _ _ (fit_cons a.rule.rule l.start _ (laps_of s) _ _ l.out _ l.j l.to _ (omega arith) c.lap-body.ensures.lap refl l.invariant.1) c.fit_lap-n.ensures.count (omega (arith, m, c.requires.0)) in omega (arith, w)

pub overflow_add-to-in-loop-j : goal.overflow_add-to-in-loop-j
overflow_add-to-in-loop-j c = let a = c.args in let l = c.loop-j in let s = a.file.bytes.now in
    let n = length_laps_of s in
    let m = total_most a.rule.rule a.rule.positive origin (laps_of s) in
    let w = ends_by _ _ _ _ _ _ _ _ _ (fit_cons a.rule.rule l.start _ (laps_of s) _ _ l.out _ l.j l.to _ (omega arith) c.lap-body.ensures.lap refl l.invariant.1) c.fit_lap-n.ensures.count (omega (arith, m, c.requires.0)) in omega (arith, w)

pub loop-j-preserved : goal.loop-j-preserved
loop-j-preserved c = let a = c.args in let l = c.loop-j in let s = a.file.bytes.now in let e = c.lap-body.ensures.lap in
    let n = length_laps_of s in
    let m = mosts_step a.rule.rule.tolerance l.start _ (laps_of s) l.j _ (omega arith) e c.lap_end-start.ensures in
    (omega (arith, m, l.invariant.0), turn _ l.out _ _ _ l.j l.to _ _ _ _ (fit_cons a.rule.rule l.start _ (laps_of s) _ _ l.out _ l.j l.to _ (omega arith) e c.lap_end-start.ensures l.invariant.1) c.fit_lap-n.ensures.count c.fit_lap-n.ensures.bytes c.put_entry.ensures)

pub shape_of-out : goal.shape_of-out
shape_of-out c = omega (arith, c.loop-j.invariant.1.same, c.put_head.auto.out)

pub returns : goal.returns
returns c = let a = c.args in let l = c.loop-j in fit-done a.rule.rule l.start a.file.bytes.now a.out.now _ l.out _ l.j l.to c.lap_count-l.ensures.0 c.loop-j-test.false c.put_head.ensures l.invariant.1
