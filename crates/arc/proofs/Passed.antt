-- What an accepted call of `is_arc_clockwise` knows: there is a point. Assumes nothing.
use Prim.Native.Nat.{◌/◌, ◌≤◌}
use mathlib.Core.Path.{◌≡◌}
use mathlib.Core.List.{List}
use native.Mathlib.Omega.{arith}
use borrow.Author.Tests.{eqb-false}
use lib.ListN.{length}
use lib.Ieee.{Float}
use Rattle.geo.specs.declared.types.Point.{Point}
use Rattle.geo.specs.Outcome.{refusal}
use Rattle.geo.proofs.Rows.{row_passed}
use Rattle.arc.specs.Direction.{direction_rows}

pub direction_passed : (s : List Float) (m : Point) → 0 ≡ refusal (direction_rows s m) → 1 ≤ length s / 2
unfolding direction_rows
direction_passed s m h =
    let a = row_passed 0 _ _ h in
    let b = row_passed 1 _ _ a.1 in
    let c = row_passed 4 _ _ b.1 in
    let d = row_passed 6 _ _ c.1 in
    let e = eqb-false (length s / 2) 0 d.0 in
    omega arith
