-- A curve as steps of equal parameter. Definitions only.
use Rattle.std.specs.Prelude.{ℕ, ◌+◌, List, [], ◌∷◌, ◌++◌, pos, Float}
use Rattle.std.specs.Float.{binary64}
use Rattle.std.specs.Float.Ieee.{of_int, to_unsigned}
use Rattle.floats.specs.Ops.{◌⊕◌, ◌⊗◌, ◌⊘◌, one, two, three}
use Rattle.floats.specs.Float.{ceil_of, max_of}
use Rattle.geo.specs.declared.types.Point3D.{Point3D}
use Rattle.geo.specs.declared.types.CubicBezier.{CubicBezier}
use Rattle.geo.specs.Vector.{cubic, distance3}
use Rattle.geo.specs.Walk.{list_from}
use Rattle.geo.specs.Lent.{triple}
use Rattle.bezier.specs.Curve.{point_on3}

-- how many steps may be asked for
abbrev pub most_asked : ℕ
most_asked = 2048

-- i of n
unfoldable pub share : ℕ → ℕ → Float
unfolding of_int
share n i = of_int binary64 (pos i) ⊘ of_int binary64 (pos n)

-- from the point at one parameter to the point at the next
pub record Step : Type 0 where
  pub from : Point3D
  pub to : Point3D

-- six numbers
abbrev pub six : Step → List Float
six s = triple s.from ++ triple s.to

-- where it ends, three numbers
abbrev pub step_end : Step → List Float
step_end s = triple s.to

unfoldable pub step_at : Point3D → Point3D → Point3D → Point3D → ℕ → ℕ → Step
unfolding share point_on3
step_at p0 c1 c2 p1 n i = record { from = point_on3 p0 c1 c2 p1 (share n i); to = point_on3 p0 c1 c2 p1 (share n (i + 1)) }

-- n steps
unfoldable pub steps : Point3D → Point3D → Point3D → Point3D → ℕ → List Step
unfolding step_at list_from
steps p0 c1 c2 p1 n = list_from (step_at p0 c1 c2 p1 n) n 0

-- n steps of a curve
abbrev pub steps_of : CubicBezier Point3D → ℕ → List Step
steps_of q = steps q.0 q.1 q.2 q.3

-- the parameters at which the curve is evaluated for them: 0, 1/n, .. n/n
unfoldable pub step_parameters : ℕ → List Float
unfolding share list_from
step_parameters n = list_from (share n) (n + 1) 0

-- the steps through some points: from p on, each to the next
unfoldable pub steps_from : Point3D → List Point3D → List Step
steps_from p [] = []
steps_from p (q ∷ ps) = record { from = p; to = q } ∷ steps_from q ps

unfoldable pub steps_through : List Point3D → List Step
unfolding steps_from
steps_through [] = []
steps_through (p ∷ ps) = steps_from p ps

-- ---- from a command's parameters: the controls' z is replaced by thirds
unfoldable pub first_third : Point3D → Point3D → Point3D → Point3D
first_third start end c = record { x = c.x; y = c.y; z = start.z ⊗ (two ⊘ three) ⊕ end.z ⊗ (one ⊘ three) }

unfoldable pub last_third : Point3D → Point3D → Point3D → Point3D
last_third start end c = record { x = c.x; y = c.y; z = start.z ⊗ (one ⊘ three) ⊕ end.z ⊗ (two ⊘ three) }

-- the curve of a command, from where it starts
abbrev pub raised : Point3D → Point3D → Point3D → Point3D → CubicBezier Point3D
raised end c1 c2 start = cubic start (first_third start end c1) (last_third start end c2) end

-- the length of the control polygon
unfoldable pub polygon_length : Point3D → Point3D → Point3D → Point3D → Float
unfolding distance3
polygon_length p0 c1 c2 p1 = distance3 p0 c1 ⊕ distance3 c1 c2 ⊕ distance3 c2 p1

-- how many steps of the resolution the polygon has, at least 2
unfoldable pub step_count : Point3D → Point3D → Point3D → Point3D → Float → Float
unfolding polygon_length ceil_of max_of
step_count p0 c1 c2 p1 resolution = max_of (ceil_of (polygon_length p0 c1 c2 p1 ⊘ resolution)) two

unfoldable pub steps_needed : Point3D → Point3D → Point3D → Point3D → Float → Float
unfolding step_count first_third last_third
steps_needed end c1 c2 start resolution = step_count start (first_third start end c1) (last_third start end c2) end resolution

unfoldable pub param_steps : Point3D → Point3D → Point3D → Point3D → Float → List Step
unfolding steps steps_needed to_unsigned
param_steps end c1 c2 start resolution = steps start (first_third start end c1) (last_third start end c2) end (to_unsigned 64 (steps_needed end c1 c2 start resolution))
