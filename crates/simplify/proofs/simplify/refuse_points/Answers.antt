-- `simplify::simplify::refuse_points` meets its contract: each return is the row of the table that its tests led to. Assumes nothing.
use Rattle.std.proofs.Common.{ap}
use Prim.Native.Nat.{◌/◌}
use mathlib.Core.Path.{◌≡◌}
use mathlib.Core.Bool.{false, not}
use borrow.Author.Tests.{lt-ltb, le-ltb}
use lib.Dec.{ltb}
use lib.ListN.{length}
use Rattle.geo.specs.Outcome.{refusal}
use Rattle.geo.specs.Domain.{whole, coordinate, numbers_in, tolerance}
use Rattle.geo.proofs.Rows.{whole-passes, whole_fails, not_passes, not_fails}
use Rattle.simplify.proofs.simplify.refuse_points.Goals as goal
use Rattle.simplify.proofs.simplify.refuse_points.Goals.{Else-not-all_coordinates, Else-not-is_tolerance, Else-room-width-ne0, Else-size-width-gt-MOST_POINTS, Else-size-width-ne0}

-- what each row's test leaves where it passed
passed_1 : (c : Else-size-width-ne0) → not (whole c.args.width (length c.args.points.now)) ≡ false
passed_1 c = whole-passes _ _ c.if-size-width-ne0.false

passed_2 : (c : Else-room-width-ne0) → not (whole c.args.width c.args.room) ≡ false
passed_2 c = whole-passes _ _ c.if-room-width-ne0.false

passed_3 : (c : Else-size-width-gt-MOST_POINTS) → ltb 2048 (length c.args.points.now / c.args.width) ≡ false
passed_3 c = le-ltb _ _ c.if-size-width-gt-MOST_POINTS.false

passed_4 : (c : Else-not-all_coordinates) → not (numbers_in coordinate c.args.points.now) ≡ false
passed_4 c = not_passes _ _ c.all_coordinates.ensures (ap not c.if-not-all_coordinates.false)

passed_5 : (c : Else-not-is_tolerance) → not (tolerance c.args.tolerance) ≡ false
passed_5 c = not_passes _ _ c.is_tolerance.ensures (ap not c.if-not-is_tolerance.false)

pub returns-then-size-width-ne0 : goal.returns-then-size-width-ne0
unfolding refusal
returns-then-size-width-ne0 c = rw (whole_fails _ _ c.if-size-width-ne0.true)

pub returns-then-room-width-ne0 : goal.returns-then-room-width-ne0
unfolding refusal
returns-then-room-width-ne0 c = rw (passed_1 (goal.at.returns-then-room-width-ne0 c).Else-size-width-ne0, whole_fails _ _ c.if-room-width-ne0.true)

pub returns-then-size-width-gt-MOST_POINTS : goal.returns-then-size-width-gt-MOST_POINTS
unfolding refusal
returns-then-size-width-gt-MOST_POINTS c = rw (passed_1 (goal.at.returns-then-size-width-gt-MOST_POINTS c).Else-size-width-ne0, passed_2 (goal.at.returns-then-size-width-gt-MOST_POINTS c).Else-room-width-ne0, lt-ltb _ _ c.if-size-width-gt-MOST_POINTS.true)

pub returns-then-not-all_coordinates : goal.returns-then-not-all_coordinates
unfolding refusal
returns-then-not-all_coordinates c = rw (passed_1 (goal.at.returns-then-not-all_coordinates c).Else-size-width-ne0, passed_2 (goal.at.returns-then-not-all_coordinates c).Else-room-width-ne0, passed_3 (goal.at.returns-then-not-all_coordinates c).Else-size-width-gt-MOST_POINTS, not_fails _ _ c.all_coordinates.ensures (ap not c.if-not-all_coordinates.true))

pub returns-then-not-is_tolerance : goal.returns-then-not-is_tolerance
unfolding refusal
returns-then-not-is_tolerance c = rw (passed_1 (goal.at.returns-then-not-is_tolerance c).Else-size-width-ne0, passed_2 (goal.at.returns-then-not-is_tolerance c).Else-room-width-ne0, passed_3 (goal.at.returns-then-not-is_tolerance c).Else-size-width-gt-MOST_POINTS, passed_4 (goal.at.returns-then-not-is_tolerance c).Else-not-all_coordinates, not_fails _ _ c.is_tolerance.ensures (ap not c.if-not-is_tolerance.true))

pub returns-then-room-width : goal.returns-then-room-width
unfolding refusal
returns-then-room-width c = rw (passed_1 (goal.at.returns-then-room-width c).Else-size-width-ne0, passed_2 (goal.at.returns-then-room-width c).Else-room-width-ne0, passed_3 (goal.at.returns-then-room-width c).Else-size-width-gt-MOST_POINTS, passed_4 (goal.at.returns-then-room-width c).Else-not-all_coordinates, passed_5 (goal.at.returns-then-room-width c).Else-not-is_tolerance, lt-ltb _ _ c.if-room-width.true)

pub returns : goal.returns
unfolding refusal
returns c = rw (passed_1 (goal.at.returns c).Else-size-width-ne0, passed_2 (goal.at.returns c).Else-room-width-ne0, passed_3 (goal.at.returns c).Else-size-width-gt-MOST_POINTS, passed_4 (goal.at.returns c).Else-not-all_coordinates, passed_5 (goal.at.returns c).Else-not-is_tolerance, le-ltb _ _ c.if-room-width.false)
