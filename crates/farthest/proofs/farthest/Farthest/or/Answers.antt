-- `farthest::farthest::Farthest::or` meets its contract: each return is the definition with the test that led there. Assumes nothing.
use Rattle.farthest.specs.Farthest.{farther}
use Rattle.farthest.proofs.farthest.Farthest.or.Goals as goal

pub returns-then-square-self : goal.returns-then-square-self
unfolding farther
returns-then-square-self c = rw c.if-square-self.true

pub returns : goal.returns
unfolding farther
returns c = rw c.if-square-self.false
