-- `lap_swap::swap::most_next` meets its contract: no commands have no most. Assumes nothing.
use Rattle.chain.specs.Chains.{cap}
use Rattle.lap_fit.proofs.Starts.{most_no_lap}
use Rattle.lap_swap.proofs.swap.most_next.Goals as goal

pub returns-in-None : goal.returns-in-None
unfolding cap
returns-in-None c = rw (c.in-None.is, most_no_lap)
