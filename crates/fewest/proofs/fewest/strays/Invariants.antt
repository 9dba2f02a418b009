-- `fewest::fewest::strays` meets its contract: a point of the range whose root reaches the tolerance lies strictly between, and so the Line does not pass.  Assumes nothing.
use Prim.Native.Nat.{◌<◌}
use Rattle.fewest.proofs.fewest.strays.Given as goal

abbrev pub invariant-loop-i : goal.invariant-loop-i
invariant-loop-i l = l.between.start < l.i
