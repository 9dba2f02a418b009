-- `svg_items::figures::more_digits` meets its contract: the digits that are left from here give all that the call reads. Assumes nothing.
use mathlib.Core.Path.{◌≡◌, sym, ◌∙◌}
use mathlib.Core.Bool.{true}
use lib.ListN.{get_or}
use Rattle.svg_text.specs.Path.{is_digit}
use Rattle.svg_text.proofs.Spelled.{digit_byte}
use native.Mathlib.Omega.{arith}
use Rattle.svg_items.proofs.Digits.{behind, starts, under, goes-on, stops-text, stops_other, stops_full}
use Rattle.svg_items.proofs.figures.more_digits.Goals.{then-i-s-via-then-i-s, then-i-s-via-else-i-s+then-not-is_ascii_digit}
use Rattle.svg_items.proofs.figures.more_digits.Goals as goal

digit-there : (c : goal.After-from) → is_digit (get_or c.args.s.now c.loop-i.i 0) ≡ true
digit-there c = sym c.is_ascii_digit.ensures.value ∙ c.if-not-is_ascii_digit.false

pub loop-i-init : goal.loop-i-init
loop-i-init c = starts _ _ _

pub returns-then-i-s : goal.returns-then-i-s
returns-then-i-s c =
    elim c.then-i-s.branch [
      | then-i-s-via-then-i-s w ↦ stops-text c.loop-i.invariant w.if-i-s.true _ (behind c.args.s.now _)
      | then-i-s-via-else-i-s+then-not-is_ascii_digit w ↦ let i = c.loop-i.invariant.inside in let n = w.if-i-s.false in stops_other c.loop-i.invariant (omega arith) (sym w.is_ascii_digit.ensures.value ∙ w.if-not-is_ascii_digit.true) _ (behind c.args.s.now _)
    ]

pub overflow_mul-value : goal.overflow_mul-value
overflow_mul-value c = let u = under c.loop-i.invariant c.requires in omega arith

pub overflow_add-value : goal.overflow_add-value
overflow_add-value c = let u = under c.loop-i.invariant c.requires in let f = c.from.ensures in let d = digit_byte (get_or c.args.s.now c.loop-i.i 0) (digit-there c) in omega (arith, d.0)

pub loop-i-preserved : goal.loop-i-preserved
loop-i-preserved c = let i = c.loop-i.invariant.inside in rw c.from.ensures (goes-on c.loop-i.invariant c.loop-i-test.true (omega arith) (digit-there c))

pub returns : goal.returns
returns c = stops_full c.loop-i.invariant (omega arith) _ (behind c.args.s.now _)
