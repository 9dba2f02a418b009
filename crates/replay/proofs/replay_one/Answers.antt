-- `replay_one` is safe: a body is read only where the head says that it fits. Assumes nothing.
use Rattle.replay.proofs.replay_one.Goals as goal

pub invariant_of-whole : goal.invariant_of-whole
invariant_of-whole g c = record { fits = c.is_whole.ensures.whole c.if-is_whole.true }
