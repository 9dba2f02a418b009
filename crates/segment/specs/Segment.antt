-- How far a point lies from the segment between two others, in the plane (document 02, §4) and in space (§14). Definitions only.
-- "Clamp the foot's parameter dot/chord² to 0..1, and measure from the point found, start + parameter × (end − start) in each coordinate."
use Rattle.std.specs.Prelude.{List, [], ◌∷◌, Float, if◌then◌else◌}
use Rattle.floats.specs.Limits.{pico}
use Rattle.floats.specs.Ops.{◌⊕◌, ◌⊖◌, ◌⊗◌, ◌⊘◌, ◌≺◌, +0, one}
use Rattle.floats.specs.Float.{clamp_of}
use Rattle.geo.specs.declared.types.Point3D.{Point3D}

-- a chord whose square is below 1e-12 counts as its start alone
abbrev pub degenerate : Float
degenerate = pico

-- ---- the coordinates that a measure goes by
abbrev pub Axis : Type 0
Axis = Point3D → Float

-- in the plane: x and y
abbrev pub plane : List Axis
plane = (λ p. p.x) ∷ (λ p. p.y) ∷ []

-- in space: x, y and z
abbrev pub spatial : List Axis
spatial = (λ p. p.x) ∷ (λ p. p.y) ∷ (λ p. p.z) ∷ []

-- a term for each coordinate, added up from left to right
abbrev pub sum_from : Float → List Axis → (Axis → Float) → Float
sum_from s [] f = s
sum_from s (c ∷ cs) f = sum_from (s ⊕ f c) cs f

abbrev pub sum_over : List Axis → (Axis → Float) → Float
sum_over [] f = +0
sum_over (c ∷ cs) f = sum_from (f c) cs f

-- ---- by any coordinates cs
-- the dot product of the offsets of p and of q from a
abbrev pub dot_on : List Axis → Point3D → Point3D → Point3D → Float
dot_on cs a p q = sum_over cs (λ c. (c p ⊖ c a) ⊗ (c q ⊖ c a))

-- the foot's parameter of a dot product, clamped to 0..1
unfoldable pub parameter_of : Float → Float → Float
parameter_of d square = clamp_of (d ⊘ square) +0 one

-- in one coordinate: how far p lies from the foot start + t × (end − start), dx being end − start
unfoldable pub off_foot : Float → Float → Float → Float → Float
off_foot t start dx p = p ⊖ (start ⊕ t ⊗ dx)

-- the squared distance of p from the foot with parameter t on the segment from a to b
abbrev pub from_foot : List Axis → Point3D → Point3D → Point3D → Float → Float
from_foot cs a b p t = sum_over cs (λ c. off_foot t (c a) (c b ⊖ c a) (c p) ⊗ off_foot t (c a) (c b ⊖ c a) (c p))

-- the squared distance of p from the segment from a to b, or from a where the chord is degenerate
unfoldable pub segment_on : List Axis → Point3D → Point3D → Point3D → Float
segment_on cs a b p =
    if dot_on cs a b b ≺ degenerate then dot_on cs a p p
    else from_foot cs a b p (parameter_of (dot_on cs a p b) (dot_on cs a b b))

-- the measure of the lap fit, the lap replacement and `fit_arcs`: in x and y
unfoldable pub segment_sq : Point3D → Point3D → Point3D → Float
unfolding segment_on
segment_sq = segment_on plane

-- "thinning and line test use x, y and z, to the segment as in the out-and-back ticket": the measure of the fit for hills
unfoldable pub space_sq : Point3D → Point3D → Point3D → Float
unfolding segment_on
space_sq = segment_on spatial
