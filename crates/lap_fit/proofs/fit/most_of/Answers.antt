-- `lap_fit::fit::most_of` meets its contract: the laps that are left, and the count so far, give the whole. Assumes nothing.
use Prim.Native.Nat.{◌+◌}
use mathlib.Core.Path.{refl, sym, ap, ◌∙◌}
use native.Mathlib.Nat.{zero-add}
use native.Mathlib.Omega.{arith}
use Rattle.chain.specs.Chains.{cap}
use Rattle.laps.specs.File.{laps_of}
use Rattle.laps.proofs.Turns.{length_laps_of}
use Rattle.lap_fit.proofs.Cap.{cap_small, cap_step, cap-done}
use Rattle.lap_fit.proofs.Lap.{mosts_step, mosts_end}
use Rattle.lap_fit.proofs.fit.most_of.Goals as goal

pub loop-j-init : goal.loop-j-init
loop-j-init c = (omega arith, rw zero-add refl)

pub add_capped-most-requires : goal.add_capped-most-requires
add_capped-most-requires c = (c.loop-j.invariant.0, cap_small _ _ c.most_lap.ensures)

pub loop-j-preserved : goal.loop-j-preserved
loop-j-preserved c = let a = c.args in let l = c.loop-j in let ls = laps_of a.file.bytes.now in let n = length_laps_of a.file.bytes.now in
    (c.add_capped-most.ensures.1, cap_step l.most _ _ _ _ _ c.most_lap.ensures c.add_capped-most.ensures.0 (ap (λ m. cap (l.most + m)) (sym (mosts_step a.tolerance l.start _ ls l.j _ (omega arith) c.lap-body.ensures.lap c.lap_end-start.ensures)) ∙ l.invariant.1))

pub returns : goal.returns
returns c = let a = c.args in let l = c.loop-j in let n = length_laps_of a.file.bytes.now in cap-done l.most _ _ (mosts_end a.tolerance l.start (laps_of a.file.bytes.now) l.j (omega arith)) l.invariant.0 l.invariant.1
