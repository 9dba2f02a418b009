-- The direction in which points go round a centre. Definitions only.
use Rattle.std.specs.Prelude.{ℕ, ◌+◌, ◌-◌, ◌/◌, Bool, not, ◌&&◌, List, [], ◌∷◌, length, ltb, eqb, Float}
use Rattle.floats.specs.Ops.{◌⊕◌, ◌⊖◌, ◌≺◌, +0}
use Rattle.geo.specs.declared.types.Point.{Point}
use Rattle.geo.specs.Vector.{perp_dot}
use Rattle.geo.specs.Walk.{fold}
use Rattle.geo.specs.Lent.{pair_at}
use Rattle.geo.specs.Domain.{most_points, coordinate, centre, numbers_in, whole}
use Rattle.geo.specs.Outcome.{Row, row, refusal, Outcome, unless}

-- the cross product of the directions from m to p and to q
unfoldable pub turn_at : Point → Point → Point → Float
turn_at m p q = perp_dot (p.x ⊖ m.x) (p.y ⊖ m.y) (q.x ⊖ m.x) (q.y ⊖ m.y)

-- the cross products of each two neighbours among the points from lo to hi, added from the first on
unfoldable pub cross_sum : (ℕ → Point) → ℕ → ℕ → Point → Float
unfolding fold turn_at
cross_sum at lo hi m = fold (λ i sum. sum ⊕ turn_at m (at i) (at (i + 1))) (hi - lo) lo +0

-- clockwise is a sum below zero; of one point it is zero
unfoldable pub clockwise : (ℕ → Point) → ℕ → ℕ → Point → Bool
unfolding cross_sum
clockwise at lo hi m = cross_sum at lo hi m ≺ +0

-- ---- is_arc_clockwise
unfoldable pub direction_rows : List Float → Point → List Row
direction_rows s m =
    row 1 (not (whole 2 (length s)))
    ∷ row 2 (ltb most_points (length s / 2))
    ∷ row 5 (not (numbers_in coordinate s && centre m.x && centre m.y))
    ∷ row 7 (eqb (length s / 2) 0)
    ∷ []

unfoldable pub direction_call : List Float → Point → Outcome Bool
unfolding refusal unless direction_rows clockwise
direction_call s m = unless (refusal (direction_rows s m)) (clockwise (pair_at s) 0 (length s / 2 - 1) m)
