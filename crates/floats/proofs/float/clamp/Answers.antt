-- `floats::float::clamp` meets its contract: each return is the definition's case for the tests that led there. Assumes nothing.
use Rattle.floats.specs.Float.{clamp_of}
use Rattle.floats.proofs.float.clamp.Goals as goal

pub returns-then-x-least : goal.returns-then-x-least
unfolding clamp_of
returns-then-x-least c = rw c.if-x-least.true

pub returns-then-x-most : goal.returns-then-x-most
unfolding clamp_of
returns-then-x-most c = rw (c.if-x-least.false, c.if-x-most.true)

pub returns : goal.returns
unfolding clamp_of
returns c = rw (c.if-x-least.false, c.if-x-most.false)
