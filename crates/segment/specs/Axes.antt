-- The code's own way: a point by the coordinates that count. What a reader has to believe stands in Segment.antt. Definitions, and a law of each choice of coordinates.
use Rattle.std.specs.Prelude.{◌≡◌, refl, List, [], ◌∷◌, T, Float}
use Rattle.std.specs.Float.{binary64}
use Rattle.std.specs.Float.Ieee.{fits}
use Rattle.geo.specs.declared.types.Point.{Point}
use Rattle.geo.specs.declared.types.Point3D.{Point3D}
use Rattle.segment.specs.Segment.{Axis, plane, spatial, segment_on, segment_sq, space_sq}

-- P holds of each of the coordinates
abbrev pub EachOn : List Axis → (Axis → Type 0) → Type 0
EachOn [] P = Unit
EachOn (c ∷ cs) P = P c × EachOn cs P

-- the coordinates of p are values of the format, as all that is lent is
abbrev pub HeldOn : List Axis → Point3D → Type 0
HeldOn cs p = EachOn cs (λ c. T (fits binary64 (c p)))

-- the point with these coordinates, in the plane and in space
abbrev pub plane_point : (Axis → Float) → Point
plane_point f = record { x = f (λ p. p.x); y = f (λ p. p.y) }

abbrev pub space_point : (Axis → Float) → Point3D
space_point f = record { x = f (λ p. p.x); y = f (λ p. p.y); z = f (λ p. p.z) }

-- the measures are those by x and y, and by x, y and z
pub plane_measured : (a b p : Point3D) → segment_sq a b p ≡ segment_on plane a b p
unfolding segment_sq
plane_measured a b p = refl

pub space_measured : (a b p : Point3D) → space_sq a b p ≡ segment_on spatial a b p
unfolding space_sq
space_measured a b p = refl
