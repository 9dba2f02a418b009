-- `flatten::flatten::set_heights` meets its contract: the heights left, stored from here, give the whole. The measure is how many are left. Assumes nothing.
use Prim.Native.Nat.{◌-◌}
use Rattle.flatten.specs.Lines.{height_after}
use Rattle.flatten.proofs.Raising.{Raising}
use Rattle.flatten.proofs.flatten.set_heights.Given as goal

abbrev pub invariant-loop-i : goal.invariant-loop-i
invariant-loop-i l = Raising (height_after l.a l.b l.n) l.k l.initial.nums l.nums l.i

abbrev pub decreases-loop-i : goal.decreases-loop-i
decreases-loop-i l = l.k - l.i
