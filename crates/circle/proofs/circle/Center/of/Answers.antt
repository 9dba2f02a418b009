-- `circle::circle::Center::of` meets its contract: points off one line are in order, so that they can be counted. Assumes nothing.
use mathlib.Core.Path.{sym, ◌∙◌}
use native.Mathlib.Omega.{arith}
use Rattle.circle.proofs.Apart.{apart}
use Rattle.circle.proofs.circle.Center.of.Goals as goal

pub overflow_sub-n : goal.overflow_sub-n
overflow_sub-n c = let h = apart _ _ _ _ (sym c.is_collinear.ensures ∙ c.if-is_collinear.false) in omega arith
