-- `geo::domain::all_coordinates` meets its contract: the loop's invariant is that what was found so far and the numbers left decide the whole answer. The measure is how many are left. Assumes nothing.
use mathlib.Core.Path.{refl}
use mathlib.Core.Bool.{Bool}
use Prim.Native.Nat.{ℕ}
use lib.ListN.{length, get_or}
use lib.Ieee.{nan}
use Rattle.geo.specs.Domain.{coordinate, numbers_in}
use Rattle.geo.proofs.Every.{every_start, all_fail, all_pass, all_done}
use Rattle.geo.proofs.domain.all_coordinates.Goals as goal
use Rattle.geo.proofs.domain.all_coordinates.Goals.{then-not-is_coordinate, else-not-is_coordinate}
use Rattle.std.proofs.Common.{ap, not}

pub loop-i-init : goal.loop-i-init
unfolding numbers_in
loop-i-init c = every_start _ (length c.args.nums.now) _ refl

pub loop-i-preserved : goal.loop-i-preserved
loop-i-preserved c =
    let s = c.args.nums.now in
    let ok : ℕ → Bool = λ k. coordinate (get_or s k nan) in
    let all = c.loop-i.all in
    elim c.if-not-is_coordinate.branch [
      | then-not-is_coordinate k ↦ rw k.all-is (all_fail ok (length s) _ _ _ all c.loop-i-test.true c.is_coordinate.ensures (ap not k.if-not-is_coordinate.true) c.loop-i.invariant)
      | else-not-is_coordinate k ↦ rw k.all-is (all_pass ok (length s) _ _ _ all c.loop-i-test.true c.is_coordinate.ensures (ap not k.if-not-is_coordinate.false) c.loop-i.invariant)
    ]

pub returns : goal.returns
returns c = all_done _ (length c.args.nums.now) _ _ _ c.loop-i-test.false c.loop-i.invariant
