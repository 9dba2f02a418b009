-- `svg_items::figures::more_digits` meets its contract: the digits that are left from here give all that the call reads. Assumes nothing.
use Rattle.svg_items.proofs.Digits.{Going}
use Rattle.svg_items.proofs.figures.more_digits.Given as goal

abbrev pub invariant-loop-i : goal.invariant-loop-i
invariant-loop-i l = Going l.v l.most l.s l.value l.i
