-- `lap_swap::swap::start_of` meets its contract: the origin for lap 1, else the end of the lap before it. Assumes nothing.
use mathlib.Core.Path.{refl}
use Prim.Native.Nat.{◌-◌}
use Rattle.laps.specs.File.{laps_of}
use Rattle.lap_swap.proofs.Next.{start_first, start-later}
use Rattle.lap_swap.proofs.swap.start_of.Goals as goal

pub returns-then-k-eq1 : goal.returns-then-k-eq1
returns-then-k-eq1 c = let a = c.args in start_first a.k (laps_of a.file.bytes.now) c.if-k-eq1.true

pub returns : goal.returns
returns c = let a = c.args in start-later a.file.bytes.now a.file.table a.k (a.k - 2) c.requires.0 c.if-k-eq1.false c.requires.1 refl _ _ c.lap.ensures.lap c.lap_end.ensures
