-- `bezier::bezier::put_ends` meets its contract: what is left to write, written from here, gives the whole. The measure is how many steps are left. Assumes nothing.
use Rattle.std.proofs.Common.{◌-◌, refl}
use Rattle.bezier.specs.Linearize.{step_end, step_at}
use Rattle.bezier.proofs.Ends.{WritingAt}
use Rattle.bezier.proofs.bezier.put_ends.Given as goal

abbrev pub invariant-loop-i : goal.invariant-loop-i
invariant-loop-i l = WritingAt step_end 3 (λ s. refl) (step_at l.fn.q.0 l.fn.q.1 l.fn.q.2 l.fn.q.3 l.n) l.n l.at l.initial.out l.out l.i

abbrev pub decreases-loop-i : goal.decreases-loop-i
decreases-loop-i l = l.n - l.i
