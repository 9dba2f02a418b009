-- `lap_fit::fit::fit_file` meets its contract: it is the fit by the laps' rule. Assumes nothing.
use Rattle.lap_fit.proofs.fit.fit_file.Goals as goal

pub returns : goal.returns
returns c = rw c.of_laps.ensures at c.fit_by.ensures
