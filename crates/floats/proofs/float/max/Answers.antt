-- `floats::float::max` meets its contract: each return is the definition's case for the tests that led there. Assumes nothing.
use Rattle.floats.specs.Float.{max_of}
use Rattle.floats.proofs.float.max.Goals as goal

pub returns-then-a-b : goal.returns-then-a-b
unfolding max_of
returns-then-a-b c = rw c.if-a-b.true

pub returns-then-is_nan : goal.returns-then-is_nan
unfolding max_of
returns-then-is_nan c = rw (c.if-a-b.false, ← c.is_nan.ensures.value, c.if-is_nan.true)

pub returns : goal.returns
unfolding max_of
returns c = rw (c.if-a-b.false, ← c.is_nan.ensures.value, c.if-is_nan.false)
