-- `fit_cubic::fit_cubic::Pairs::sum_chords` meets its contract: the loop's invariant is that the lengths before i are filled in. The measure is n - i. Assumes nothing.
use mathlib.Core.Path.{◌≡◌}
use Prim.Native.Nat.{◌-◌, ◌≤◌}
use lib.ListN.{length}
use Rattle.geo.specs.Lent.{pair_at}
use Rattle.fit_cubic.proofs.Chords.{Filling}
use Rattle.fit_cubic.proofs.fit_cubic.Pairs.sum_chords.Given as goal

abbrev pub invariant-loop-i : goal.invariant-loop-i
invariant-loop-i l = Filling (pair_at l.self.nums.now) l.n l.chords l.last l.i × (l.i ≤ l.n) × (length l.chords ≡ length l.initial.chords)

abbrev pub decreases-loop-i : goal.decreases-loop-i
decreases-loop-i l = l.n - l.i
