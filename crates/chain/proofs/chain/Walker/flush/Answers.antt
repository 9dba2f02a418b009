-- `chain::chain::Walker::flush` meets its contract: it is what `flush_by` writes of the front of the buffer. Assumes nothing.
use Rattle.chain.proofs.chain.Walker.flush.Goals as goal

pub returns-clause-written : goal.returns-clause-written
returns-clause-written c = c.flush_by.ensures
