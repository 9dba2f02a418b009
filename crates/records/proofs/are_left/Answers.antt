-- `records::are_left` meets its contract: the values that are not looked at yet decide the whole answer. Assumes nothing.
use mathlib.Core.Path.{ap, sym, ◌∙◌}
use native.Mathlib.Omega.{arith}
use borrow.Author.Tests.{not-true, not-false}
use Rattle.std.proofs.lemmas.List.{get_or_default}
use Rattle.geo.proofs.Every.{every_done}
use Rattle.records.proofs.Lists.{every_step, every_stop}
use Rattle.records.proofs.are_left.Goals as goal

pub returns-then-ne : goal.returns-then-ne
returns-then-ne g c = λ none.
    let same = ap (λ (x : g.row.T.Denot). g.T.PartialEq.eq x c.args.known) (get_or_default c.args.out.now c.loop-i.i none c.index-out-i.result (omega arith) ∙ sym c.index-out-i.is) in
    every_stop _ c.args.to _ _ c.loop-i-test.true (same ∙ not-true _ (sym c.ne.ensures ∙ c.if-ne.true)) (c.loop-i.invariant none)

pub loop-i-preserved : goal.loop-i-preserved
loop-i-preserved g c = λ none.
    let same = ap (λ (x : g.row.T.Denot). g.T.PartialEq.eq x c.args.known) (get_or_default c.args.out.now c.loop-i.i none c.index-out-i.result (omega arith) ∙ sym c.index-out-i.is) in
    every_step _ c.args.to _ _ c.loop-i-test.true (same ∙ not-false _ (sym c.ne.ensures ∙ c.if-ne.false)) (c.loop-i.invariant none)

pub returns : goal.returns
returns g c = λ none. every_done _ c.args.to _ _ c.loop-i-test.false (c.loop-i.invariant none)
