-- `ranges::ranges::Stand::next` meets its contract, with and without an end that waits. Assumes nothing.
use Rattle.ranges.proofs.Waiting.{next-none, next-some}
use Rattle.ranges.proofs.ranges.Stand.next.Goals as goal

pub returns-then-self-eq0 : goal.returns-then-self-eq0
returns-then-self-eq0 c = next-none _ _ _ _ c.if-self-eq0.true

pub returns : goal.returns
returns c = next-some _ _ _ _ _ c.if-self-eq0.false c.from.ensures
