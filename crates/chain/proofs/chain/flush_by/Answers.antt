-- `chain::chain::flush_by` meets its contract: by the case. Assumes nothing.
use Rattle.chain.specs.Chains.{flushed_by}
use Rattle.chain.proofs.chain.flush_by.Goals as goal

pub returns-in-Fitted : goal.returns-in-Fitted
unfolding flushed_by
returns-in-Fitted c = rw c.in-Fitted.is c.flush_chain.ensures

pub returns-in-AsItStands : goal.returns-in-AsItStands
returns-in-AsItStands c = rw c.in-AsItStands.is c.fit_chain.ensures

pub returns-in-Lines : goal.returns-in-Lines
returns-in-Lines c = rw c.in-Lines.is c.thin_chain.ensures
