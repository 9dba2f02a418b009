-- `fit_cubic::fit_cubic::Pairs::sum_up` meets its contract: the loop's invariant is that the points left decide the whole sum. The measure is how many are left. Assumes nothing.
use Rattle.std.proofs.Common.{◌≡◌, ◌-◌}
use Rattle.geo.specs.Lent.{pair_at}
use Rattle.geo.specs.Walk.{fold}
use Rattle.fit_cubic.specs.FitCubic.{cubic_sums}
use Rattle.fit_cubic.proofs.Chords.{turn}
use Rattle.fit_cubic.proofs.fit_cubic.Pairs.sum_up.Given as goal

abbrev pub invariant-loop-j : goal.invariant-loop-j
invariant-loop-j l = fold (turn (pair_at l.self.nums.now) l.n) (l.n - l.j) l.j l.s ≡ cubic_sums (pair_at l.self.nums.now) l.n

abbrev pub decreases-loop-j : goal.decreases-loop-j
decreases-loop-j l = l.n - l.j
