-- `svg::tally::walk_text` meets its contract: what was counted so far and what the rest of the text adds give the whole. The measure is how much text is left. Assumes nothing.
use borrow.Author.Tests.{eqb-true, eqb-false}
use Prim.Native.Nat.{◌+◌}
use lib.ListN.{length}
use mathlib.Core.Bool.{◌&&◌}
use mathlib.Core.Path.{◌≡◌, refl, ap, sym, ◌∙◌}
use native.Mathlib.Omega.{arith}
use Rattle.geo.specs.Domain.{command_in}
use Rattle.svg.proofs.Counting.{opens, opens_none, behind-byte, nothing-named, no_first_m, counting_starts, no_command-there, onward, all-counted, bad-behind, counting_goes-on}
use Rattle.svg.proofs.tally.walk_text.Goals.{After-is_empty-in-loop-c, in-Move, in_default-matches, then-inside, else-inside}
use Rattle.svg.proofs.tally.walk_text.Goals as goal

pub returns-then-is_empty : goal.returns-then-is_empty
returns-then-is_empty c = nothing-named c.args.s.now (eqb-true _ _ (sym c.is_empty.ensures ∙ c.if-is_empty.true))

pub returns-then-s-ne77 : goal.returns-then-s-ne77
returns-then-s-ne77 c = no_first_m c.args.s.now (eqb-false _ _ (sym c.is_empty.ensures ∙ c.if-is_empty.false)) c.if-s-ne77.true

pub loop-c-init : goal.loop-c-init
loop-c-init c = counting_starts c.args.s.now (eqb-false _ _ (sym c.is_empty.ensures ∙ c.if-is_empty.false)) c.if-s-ne77.false

pub returns-in_default : goal.returns-in_default
returns-in_default c = no_command-there c.loop-c.invariant c.in_default.ensures

-- what the command adds
opened : (c : After-is_empty-in-loop-c) → c.loop-c.laps + c.from.result ≡ c.loop-c.laps + opens c.in-Some.c
opened c =
    elim c.match-matches.branch [
      | in-Move w ↦ rw (c.from.ensures, w.matches-is, w.in-Move.is) refl
      | in_default-matches w ↦ rw (c.from.ensures, w.matches-is, opens_none c.in-Some.c w.in_default-matches.not-Move) refl
    ]

lies-in : (c : After-is_empty-in-loop-c) → c.if-inside.inside ≡ (c.loop-c.inside && command_in c.in-Some.c)
lies-in c =
    elim c.if-inside.branch [
      | then-inside w ↦ rw (w.inside-is, w.command_in-inside.ensures, w.if-inside.true) refl
      | else-inside w ↦ rw (w.inside-is, w.if-inside.false) refl
    ]

pub returns-then-is_empty-2 : goal.returns-then-is_empty-2
returns-then-is_empty-2 c =
    let g = goal.at.returns-then-is_empty-2 c in
    all-counted c.loop-c.invariant c.in-Some.c c.in-Some.behind.now c.in-Some.ensures _ (opened g.After-is_empty-in-loop-c) _ (lies-in g.After-is_empty-in-loop-c) (eqb-true _ _ (sym c.is_empty-in-loop-c.ensures ∙ c.if-is_empty-2.true))

pub returns-then-behind-ne32 : goal.returns-then-behind-ne32
returns-then-behind-ne32 c = bad-behind c.loop-c.invariant c.in-Some.c c.in-Some.behind.now c.in-Some.ensures (eqb-false _ _ (sym c.is_empty-in-loop-c.ensures ∙ c.if-is_empty-2.false)) c.if-behind-ne32.true

pub loop-c-smaller : goal.loop-c-smaller
loop-c-smaller c =
    let o = onward c.loop-c.invariant c.in-Some.c c.in-Some.behind.now c.in-Some.ensures in
    let n = eqb-false _ _ (sym c.is_empty-in-loop-c.ensures ∙ c.if-is_empty-2.false) in
    let d = ap length (behind-byte c.in-Some.behind.now n) in omega arith

pub loop-c-preserved : goal.loop-c-preserved
loop-c-preserved c =
    let g = goal.at.loop-c-preserved c in
    counting_goes-on c.loop-c.invariant c.in-Some.c c.in-Some.behind.now c.in-Some.ensures _ (opened g.After-is_empty-in-loop-c) _ (lies-in g.After-is_empty-in-loop-c) (eqb-false _ _ (sym c.is_empty-in-loop-c.ensures ∙ c.if-is_empty-2.false)) c.if-behind-ne32.false
