-- `farthest::farthest::Chord::spread` meets its contract: each return is the definition with the test that led there. Assumes nothing.
use Rattle.farthest.specs.Search.{spread_of}
use Rattle.farthest.proofs.farthest.Chord.spread.Goals as goal

pub returns-then-self : goal.returns-then-self
unfolding spread_of
returns-then-self c = rw c.if-self.true

pub returns : goal.returns
unfolding spread_of
returns c = rw c.if-self.false
