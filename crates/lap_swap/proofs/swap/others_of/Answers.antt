-- `lap_swap::swap::others_of` meets its contract: the laps that are left, and those before them, give the whole count. Assumes nothing.
use mathlib.Core.Path.{sym}
use native.Mathlib.Omega.{arith}
use Rattle.laps.specs.File.{laps_of}
use Rattle.laps.proofs.Laps.{few-commands}
use Rattle.laps.proofs.Turns.{length_laps_of}
use Rattle.laps.proofs.Whole.{length_commands}
use Rattle.lap_swap.proofs.Turns.{counting_start, counting_step, counting_few, counting_done}
use Rattle.lap_swap.proofs.swap.others_of.Goals as goal

pub loop-j-init : goal.loop-j-init
loop-j-init c = let a = c.args in counting_start a.both (laps_of a.fitted.bytes.now) a.k c.requires

pub overflow_add-m : goal.overflow_add-m
overflow_add-m c = let a = c.args in let l = c.loop-j in let ls = laps_of a.fitted.bytes.now in let n = length_laps_of a.fitted.bytes.now in
    let w = counting_few a.both ls a.k _ _ (few-commands _ a.fitted.table) (counting_step a.both ls a.k l.m l.j _ _ _ l.invariant (omega arith) c.lap.ensures.lap (sym (length_commands _ _ _)) c.other-m.ensures.0 c.other-m.ensures.1) in omega arith

pub loop-j-preserved : goal.loop-j-preserved
loop-j-preserved c = let a = c.args in let l = c.loop-j in let n = length_laps_of a.fitted.bytes.now in
    counting_step a.both (laps_of a.fitted.bytes.now) a.k l.m l.j _ _ _ l.invariant (omega arith) c.lap.ensures.lap (sym (length_commands _ _ _)) c.other-m.ensures.0 c.other-m.ensures.1

pub returns : goal.returns
returns c = let a = c.args in let l = c.loop-j in let n = length_laps_of a.fitted.bytes.now in counting_done a.both (laps_of a.fitted.bytes.now) a.k l.m l.j (few-commands _ a.fitted.table) l.invariant (omega arith)
