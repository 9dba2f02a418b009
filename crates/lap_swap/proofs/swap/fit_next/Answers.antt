-- `lap_swap::swap::fit_next` meets its contract: no commands come to nothing. Assumes nothing.
use Rattle.lap_swap.proofs.Next.{put-none}
use Rattle.lap_swap.proofs.swap.fit_next.Goals as goal

pub returns-in-None : goal.returns-in-None
returns-in-None c = let a = c.args in rw c.in-None.is (put-none a.rule.rule a.start _ a.to)
