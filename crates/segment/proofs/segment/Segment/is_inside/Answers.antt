-- `segment::segment::Segment::is_inside` meets its contract: each return is the definition with the tests that led there. Assumes nothing.
use Rattle.segment.specs.Saved.{is_inside}
use Rattle.segment.proofs.segment.Segment.is_inside.Goals as goal

pub returns-then-self : goal.returns-then-self
unfolding is_inside
returns-then-self g c = rw c.if-self.true

pub returns-then-self-along : goal.returns-then-self-along
unfolding is_inside
returns-then-self-along g c = rw (c.if-self.false, c.if-self-along.true)

pub returns : goal.returns
unfolding is_inside
returns g c = rw (c.if-self.false, c.if-self-along.false)
