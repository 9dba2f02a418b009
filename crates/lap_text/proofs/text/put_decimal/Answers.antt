-- `lap_text::text::put_decimal` meets its contract: the digits are those of a number of one, two or three of them. Assumes nothing.
use mathlib.Core.Path.{sym}
use Rattle.lap_text.proofs.Decimal.{one_digit, two_digits, three_digits}
use Rattle.lap_text.proofs.Written.{put_same, put_one, put_two, put_three}
use Rattle.lap_text.proofs.text.put_decimal.Goals as goal

pub returns-then-n-lt10 : goal.returns-then-n-lt10
returns-then-n-lt10 c = let a = c.args in put_same _ _ _ _ _ _ (sym (one_digit a.n c.if-n-lt10.true)) (put_one a.out.now a.at _)

pub returns-then-n-lt100 : goal.returns-then-n-lt100
returns-then-n-lt100 c = let a = c.args in put_same _ _ _ _ _ _ (sym (two_digits a.n c.if-n-lt10.false c.if-n-lt100.true)) (put_two a.out.now a.at _ _)

pub returns : goal.returns
returns c = let a = c.args in put_same _ _ _ _ _ _ (sym (three_digits a.n c.if-n-lt100.false c.requires.0)) (put_three a.out.now a.at _ _ _)
