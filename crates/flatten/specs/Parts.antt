-- The parts of an Arc: exact quarter turns from its first vector on, each part halved until it is flat or took ten halvings (document 02, §6). Definitions only.
use Rattle.std.specs.Prelude.{ℕ, zero, suc, Bool, true, false, List, [], ◌∷◌, ◌++◌, Float, if◌then◌else◌}
use Rattle.std.specs.Float.Ieee.{neg}
use Rattle.floats.specs.Ops.{◌⊕◌, ◌⊖◌, ◌⊗◌, ◌⊘◌, ◌≺◌, +0, one, two}
use Rattle.floats.specs.Limits.{quarter}
use Rattle.floats.specs.Root.{root_of}
use Rattle.geo.specs.declared.types.Point.{Point}
use Rattle.geo.specs.declared.types.Point3D.{Point3D}
use Rattle.geo.specs.Vector.{length_of}
use Rattle.trial.specs.Traversal.{offset_of, cross2, dot2}

-- each quarter is halved at most so many times over
abbrev pub most_halvings : ℕ
most_halvings = 10

-- ---- centre and vectors; a vector is a point less the centre, `offset_of` of trial
-- the centre: the start plus the command's offset
unfoldable pub centre_of : Point3D → Point3D → Point
centre_of a o = record { x = a.x ⊕ o.x; y = a.y ⊕ o.y }

-- a vector's length
unfoldable pub length_by : Point → Float
length_by u = length_of u.x u.y

-- ---- quarter turns
-- an exact quarter turn, clockwise or not: the numbers exchanged, and one sign
unfoldable pub quarter_turn : Bool → Point → Point
quarter_turn true u = record { x = u.y; y = neg u.x }
quarter_turn false u = record { x = neg u.y; y = u.x }

-- the cross of two vectors as seen in the arc's direction
unfoldable pub onward : Bool → Point → Point → Float
onward true u w = neg (cross2 u w)
onward false u w = cross2 u w

-- with c that cross and d the dot of the first and the last vector: how many quarter turns of the first fall strictly before the last. Where c is 0, d above 0 means a full circle, else a half
unfoldable pub turns_by : Float → Float → ℕ
turns_by c d =
    if +0 ≺ c then (if d ≺ +0 then 1 else 0)
    else if c ≺ +0 then (if +0 ≺ d then 3 else 2)
    else (if +0 ≺ d then 3 else 1)

unfoldable pub turns_before : Bool → Point → Point → ℕ
turns_before clockwise u w = turns_by (onward clockwise u w) (dot2 u w)

-- ---- halving
-- the cosine of the angle between two vectors, as it comes out (it can be a little above 1)
unfoldable pub cosine_between : Point → Point → Float
cosine_between u w = dot2 u w ⊘ (length_by u ⊗ length_by w)

-- how far the arc of radius r bulges beyond the step from u to w
unfoldable pub bulge : Float → Point → Point → Float
bulge r u w = r ⊗ (one ⊖ root_of ((one ⊕ cosine_between u w) ⊘ two))

-- s divided by its length and then multiplied by r
unfoldable pub stretched : Float → Point → Point
stretched r s = record { x = s.x ⊘ length_by s ⊗ r; y = s.y ⊘ length_by s ⊗ r }

-- the vector that halves the part from u to w: their sum, made r long
unfoldable pub middle : Float → Point → Point → Point
middle r u w = stretched r (record { x = u.x ⊕ w.x; y = u.y ⊕ w.y })

-- a part of the arc: the vectors at which it starts and ends
pub record ArcPart : Type 0 where
  pub from : Point
  pub to : Point

abbrev pub arc_part : Point → Point → ArcPart
arc_part u w = record { from = u; to = w }

-- the parts from u to w with n halvings left: one where none is left or it bulges by less than the limit, else those of the first half and then those of the second
unfoldable pub halved : Float → Float → ℕ → Point → Point → List ArcPart
halved r limit zero u w = arc_part u w ∷ []
halved r limit (suc n) u w =
    if bulge r u w ≺ limit then arc_part u w ∷ []
    else (halved r limit n u (middle r u w) ++ halved r limit n (middle r u w) w)

-- ---- the whole arc
-- k quarter turns from u on, and then the rest up to w
unfoldable pub quartered : Bool → Float → Float → ℕ → Point → Point → List ArcPart
quartered clockwise r limit zero u w = halved r limit most_halvings u w
quartered clockwise r limit (suc k) u w = halved r limit most_halvings u (quarter_turn clockwise u) ++ quartered clockwise r limit k (quarter_turn clockwise u) w

-- from the first vector to the last: the radius is the first one's length, the limit a quarter of the tolerance
unfoldable pub parts_between : Bool → Float → Point → Point → List ArcPart
parts_between clockwise tol u w = quartered clockwise (length_by u) (tol ⊗ quarter) (turns_before clockwise u w) u w

-- of the Arc from a to b round the centre m
unfoldable pub parts_of : Bool → Float → Point → Point3D → Point3D → List ArcPart
parts_of clockwise tol m a b = parts_between clockwise tol (offset_of m a) (offset_of m b)
