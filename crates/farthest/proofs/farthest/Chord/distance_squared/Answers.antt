-- `farthest::farthest::Chord::distance_squared` meets its contract: each return is the definition with the test that led there. Assumes nothing.
use Rattle.farthest.specs.Search.{square_of_spread}
use Rattle.farthest.proofs.farthest.Chord.distance_squared.Goals as goal

pub returns-then-self : goal.returns-then-self
unfolding square_of_spread
returns-then-self c = rw c.if-self.true

pub returns : goal.returns
unfolding square_of_spread
returns c = rw c.if-self.false
