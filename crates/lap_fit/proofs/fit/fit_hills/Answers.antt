-- `lap_fit::fit::fit_hills` meets its contract: it is the fit by the hills' rule. Assumes nothing.
use Rattle.lap_fit.proofs.fit.fit_hills.Goals as goal

pub returns : goal.returns
returns c = rw c.of_hills.ensures at c.fit_by.ensures
