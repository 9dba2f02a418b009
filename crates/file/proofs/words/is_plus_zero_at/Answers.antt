-- `file::words::is_plus_zero_at` meets its contract: both halves are 0. Assumes nothing.
use Rattle.file.proofs.Blank.{high_half, low_half}
use Rattle.file.proofs.words.is_plus_zero_at.Goals as goal

pub returns-then-low-eq0 : goal.returns-then-low-eq0
returns-then-low-eq0 c = let l = c.half_at-low.ensures in let h = c.half_at-high.ensures in high_half _ c.args.at _ _ l.0 h.0 l.1 h.1 c.if-low-eq0.true

pub returns-else-low-eq0 : goal.returns-else-low-eq0
returns-else-low-eq0 c = let l = c.half_at-low.ensures in let h = c.half_at-high.ensures in low_half _ c.args.at _ _ l.0 h.0 l.1 h.1 c.if-low-eq0.false
