-- `chain::chain::put_lines` meets its contract: what is written, and what is left to write, are the whole. The measure is how many points are left. Assumes nothing.
use Prim.Native.Nat.{◌-◌}
use Rattle.chain.proofs.Chains.{Lining}
use Rattle.chain.proofs.chain.put_lines.Given as goal

abbrev pub invariant-loop-i : goal.invariant-loop-i
invariant-loop-i l = Lining l.points l.n l.at l.initial.kinds l.kinds l.initial.nums l.nums l.initial.steps l.steps l.i l.written

abbrev pub decreases-loop-i : goal.decreases-loop-i
decreases-loop-i l = l.n - l.i
