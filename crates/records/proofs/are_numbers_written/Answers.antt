-- `records::are_numbers_written` meets its contract: the numbers that are not compared yet decide the whole answer. The measure is how many they are. Assumes nothing.
use Rattle.std.proofs.Common.{not}
use Prim.Native.Nat.{◌/◌}
use mathlib.Core.Path.{refl, sym, ap, ◌∙◌}
use native.Mathlib.Omega.{arith}
use borrow.Author.Tests.{not-true, not-false}
use lib.ListN.{length}
use Rattle.file.specs.Bytes.{word_at}
use Rattle.records.specs.Words.{has_pattern, numbers_written}
use Rattle.geo.proofs.Every.{every_start, every_done}
use Rattle.records.proofs.Lists.{every_step, every_stop}
use Rattle.records.proofs.are_numbers_written.Goals as goal

pub loop-i-init : goal.loop-i-init
unfolding numbers_written
loop-i-init c = (refl, every_start _ (length c.args.s.now / 8) _ refl)

pub returns-then-not-has_pattern : goal.returns-then-not-has_pattern
returns-then-not-has_pattern c = let e = c.loop-i.invariant.0 in every_stop _ (length c.args.s.now / 8) _ _ (omega (arith, e)) (sym (c.has_pattern.ensures ∙ ap (has_pattern _) (c.word_at.ensures ∙ ap (word_at c.args.s.now) (omega arith))) ∙ not-true _ (ap not c.if-not-has_pattern.true)) c.loop-i.invariant.1

pub loop-i-preserved : goal.loop-i-preserved
loop-i-preserved c = let e = c.loop-i.invariant.0 in (e, every_step _ (length c.args.s.now / 8) _ _ (omega (arith, e)) (sym (c.has_pattern.ensures ∙ ap (has_pattern _) (c.word_at.ensures ∙ ap (word_at c.args.s.now) (omega arith))) ∙ not-false _ (ap not c.if-not-has_pattern.false)) c.loop-i.invariant.1)

pub returns : goal.returns
returns c = let e = c.loop-i.invariant.0 in every_done _ (length c.args.s.now / 8) _ _ (omega (arith, e)) c.loop-i.invariant.1
