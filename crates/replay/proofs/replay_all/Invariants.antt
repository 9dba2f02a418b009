-- `replay_all` is safe and ends: it counts the records, and no more differ than were read. Assumes nothing.
use Rattle.std.proofs.Common.{◌≡◌, ◌≤◌, length}
use Rattle.replay.proofs.replay_all.Given as goal

abbrev pub invariant-loop-i : goal.invariant-loop-i
invariant-loop-i g l = (618400 ≡ length l.body) × (l.differ ≤ l.i)
