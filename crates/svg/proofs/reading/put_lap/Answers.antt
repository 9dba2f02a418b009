-- `svg::reading::put_lap` meets its contract: the commands that are left, written from here, give the whole lap. Assumes nothing.
use mathlib.Core.Path.{refl, ap, sym, ◌∙◌}
use native.Mathlib.Omega.{arith}
use borrow.Author.Tests.{eqb-true, eqb-false}
use lib.ListN.{length}
use Rattle.svg.proofs.Counting.{behind-byte}
use Rattle.svg.proofs.Lapping.{lapping_starts, command-there, room-there, further, text-ends, read-on, lap-closed, lapping_goes-on}
use Rattle.svg.proofs.reading.put_lap.Goals as goal

pub loop-c-init : goal.loop-c-init
loop-c-init c = lapping_starts _ _ _ c.requires

pub returns-in_default : goal.returns-in_default
returns-in_default c = command-there c.loop-c.invariant c.in_default.ensures

pub write_command-requires : goal.write_command-requires
write_command-requires c = room-there c.loop-c.invariant

pub returns-then-is_empty : goal.returns-then-is_empty
returns-then-is_empty c = text-ends c.loop-c.invariant c.in-Some.c c.in-Some.behind.now c.in-Some.ensures _ c.write_command.ensures (eqb-true _ _ (sym c.is_empty.ensures ∙ c.if-is_empty.true)) _ refl

pub bounds-rest-0 : goal.bounds-rest-0
bounds-rest-0 c = read-on c.loop-c.invariant c.in-Some.c c.in-Some.behind.now c.in-Some.ensures _ c.write_command.ensures (eqb-false _ _ (sym c.is_empty.ensures ∙ c.if-is_empty.false)) _ refl

pub returns-then-rest-eq77 : goal.returns-then-rest-eq77
returns-then-rest-eq77 c = lap-closed c.loop-c.invariant c.in-Some.c c.in-Some.behind.now c.in-Some.ensures _ c.write_command.ensures (eqb-false _ _ (sym c.is_empty.ensures ∙ c.if-is_empty.false)) _ refl c.if-rest-eq77.true _ refl

pub loop-c-smaller : goal.loop-c-smaller
loop-c-smaller c =
    let o = further c.loop-c.invariant c.in-Some.c c.in-Some.behind.now c.in-Some.ensures in
    let n = eqb-false _ _ (sym c.is_empty.ensures ∙ c.if-is_empty.false) in
    let d = ap length (behind-byte c.in-Some.behind.now n) in omega arith

pub loop-c-preserved : goal.loop-c-preserved
loop-c-preserved c = lapping_goes-on c.loop-c.invariant c.in-Some.c c.in-Some.behind.now c.in-Some.ensures _ c.write_command.ensures (eqb-false _ _ (sym c.is_empty.ensures ∙ c.if-is_empty.false)) _ refl c.if-rest-eq77.false
