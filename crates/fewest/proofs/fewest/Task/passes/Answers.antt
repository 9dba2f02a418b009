-- `fewest::fewest::Task::passes` meets its contract: where a point strays the Line does not pass, else the line deviation that `line_deviation` promises is compared. Assumes nothing.
use mathlib.Core.Path.{sym}
use native.Mathlib.Omega.{arith}
use Rattle.fewest.specs.Straights.{passing}
use Rattle.fewest.proofs.Stray.{chord_is}
use Rattle.fewest.proofs.fewest.Task.passes.Goals as goal

pub strays-requires : goal.strays-requires
strays-requires c =
    (chord_is _ _ _ _ _ c.new-chord.ensures c.first.ensures c.last.ensures, (omega (arith, c.requires), omega arith))

pub returns-then-strays : goal.returns-then-strays
returns-then-strays c = sym (c.strays.ensures c.if-strays.true)

pub strays-requires-2 : goal.strays-requires-2
strays-requires-2 c =
    (chord_is _ _ _ _ _ c.new-chord.ensures c.first.ensures c.last.ensures, (omega arith, omega (arith, c.requires)))

pub returns-then-strays-2 : goal.returns-then-strays-2
returns-then-strays-2 c = sym (c.strays-2.ensures c.if-strays-2.true)

pub returns : goal.returns
unfolding passing
returns c = rw (← c.line_deviation.ensures)
