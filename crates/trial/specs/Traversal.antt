-- Whether points go round a centre by less than a whole turn: document 01's count W (its "Traversal"). Definitions only.
use Rattle.std.specs.Prelude.{ℕ, zero, suc, ◌+◌, ◌-◌, Bool, true, false, not, ◌&&◌, ℤ, pos, negsuc, ◌+ℤ◌, ◌-ℤ◌, Float, if◌then◌else◌}
use Rattle.std.specs.Float.Ieee.{neg, eq}
use Rattle.floats.specs.Limits.{thousandth}
use Rattle.floats.specs.Ops.{◌⊖◌, ◌⊗◌, ◌≺◌, ◌≼◌, +0}
use Rattle.geo.specs.declared.types.Point.{Point}
use Rattle.geo.specs.declared.types.Point3D.{Point3D}
use Rattle.geo.specs.Vector.{dot, perp_dot}
use Rattle.geo.specs.Walk.{fold}
use Rattle.geo.specs.Domain.{every_from}

-- how near the last point may come to the first, as a share of a radius
abbrev pub near_share : Float
near_share = thousandth

-- q: a point minus the centre m
unfoldable pub offset_of : Point → Point3D → Point
offset_of m p = record { x = p.x ⊖ m.x; y = p.y ⊖ m.y }

unfoldable pub cross2 : Point → Point → Float
cross2 p q = perp_dot p.x p.y q.x q.y

unfoldable pub dot2 : Point → Point → Float
dot2 p q = dot p.x p.y q.x q.y

-- q = (0, 0)
unfoldable pub at_centre : Point → Bool
at_centre q = eq q.x +0 && eq q.y +0

-- true: q is in half 0 as seen from q0, that is cross(q0, q) > 0, or it is 0 and dot(q0, q) > 0
unfoldable pub half_of : Point → Point → Bool
unfolding cross2 dot2
half_of q0 q = if +0 ≺ cross2 q0 q then true else if eq (cross2 q0 q) +0 then +0 ≺ dot2 q0 q else false

-- W, a whole number, after a step of cross c from one half to another, true being half 0: a step with cross ≥ 0 from half 1 to half 0 adds 1,
-- a step with cross < 0 from half 0 to half 1 takes 1 off
unfoldable pub turned : Bool → Bool → Float → ℤ → ℤ
turned false true c w = if +0 ≼ c then w +ℤ pos 1 else w
turned true false c w = if c ≺ +0 then w -ℤ pos 1 else w
turned true true c w = w
turned false false c w = w

-- W over the steps from lo to hi; q i is the offset of point i
unfoldable pub turns_of : (ℕ → Point) → ℕ → ℕ → ℤ
unfolding fold turned half_of
turns_of q lo hi =
    fold (λ i. turned (half_of (q lo) (q i)) (half_of (q lo) (q (i + 1))) (cross2 (q i) (q (i + 1)))) (hi - lo) lo (pos 0)

-- with c and d the cross and dot of q0 and the last q: d > 0, c < 0, −c ≤ 0.001 × d; and d > 0, c ≥ 0, c ≤ 0.001 × d
unfoldable pub just_behind : Float → Float → Bool
just_behind c d = (+0 ≺ d) && ((c ≺ +0) && (neg c ≼ near_share ⊗ d))

unfoldable pub just_ahead : Float → Float → Bool
just_ahead c d = (+0 ≺ d) && ((+0 ≼ c) && (c ≼ near_share ⊗ d))

-- W = 0 and not just behind, or W = −1 (`negsuc 0`) and not just ahead
unfoldable pub passes_by : ℤ → Point → Point → Bool
unfolding just_behind just_ahead
passes_by (pos zero) q0 q = not (just_behind (cross2 q0 q) (dot2 q0 q))
passes_by (negsuc zero) q0 q = not (just_ahead (cross2 q0 q) (dot2 q0 q))
passes_by (pos (suc n)) q0 q = false
passes_by (negsuc (suc n)) q0 q = false

-- no point is at the centre
unfoldable pub away_from : (ℕ → Point) → ℕ → ℕ → Bool
unfolding every_from
away_from q lo hi = every_from (λ i. not (at_centre (q i))) (hi + 1 - lo) lo

unfoldable pub traverses : Point → (ℕ → Point3D) → ℕ → ℕ → Bool
unfolding away_from passes_by turns_of
traverses m at lo hi =
    let q : ℕ → Point = λ i. offset_of m (at i) in
    if away_from q lo hi then passes_by (turns_of q lo hi) (q lo) (q hi) else false
