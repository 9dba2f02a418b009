-- `track::mark` meets its contract: a cut lies strictly inside its range, so that both ranges beside it are shorter; left, cut and right together are what the range keeps. The measure is hi - lo. Assumes nothing.
use Prim.Native.Nat.{◌-◌}
use Rattle.simplify.proofs.track.+mark.Given as goal

abbrev pub decreases-mark : goal.decreases-mark
decreases-mark g l = l.hi - l.lo
