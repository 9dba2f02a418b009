-- `geo::domain::all_coordinates` meets its contract: the loop's invariant is that what was found so far and the numbers left decide the whole answer. The measure is how many are left. Assumes nothing.
use mathlib.Core.Path.{◌≡◌}
use mathlib.Core.Bool.{◌&&◌}
use Prim.Native.Nat.{◌-◌}
use lib.ListN.{length, get_or}
use lib.Ieee.{nan}
use Rattle.geo.specs.Domain.{coordinate, every_from, numbers_in}
use Rattle.geo.proofs.domain.all_coordinates.Given as goal

abbrev pub invariant-loop-i : goal.invariant-loop-i
invariant-loop-i l = (l.all && every_from (λ k. coordinate (get_or l.nums k nan)) (length l.nums - l.i) l.i) ≡ numbers_in coordinate l.nums

abbrev pub decreases-loop-i : goal.decreases-loop-i
decreases-loop-i l = length l.nums - l.i
