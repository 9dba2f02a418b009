-- How far a chain of points is off an arc. The sagitta is taken by the root (document 01, "Two departures"). Definitions only.
use Rattle.std.specs.Prelude.{ℕ, ◌+◌, ◌-◌, Float, if◌then◌else◌}
use Rattle.std.specs.Float.Ieee.{neg}
use Rattle.floats.specs.Ops.{◌⊕◌, ◌⊖◌, ◌⊗◌, ◌⊘◌, ◌≺◌, +0, one, two}
use Rattle.floats.specs.Root.{root_of}
use Rattle.floats.specs.Float.{abs_of, max_of, clamp_of}
use Rattle.geo.specs.declared.types.Point.{Point}
use Rattle.geo.specs.declared.types.Point3D.{Point3D}
use Rattle.geo.specs.Vector.{dot, length_of}
use Rattle.circle.specs.declared.circle.Deviation.{Deviation}
use Rattle.floats.specs.Limits.{nano}
use Rattle.circle.specs.Worst.{worst}
use Rattle.trial.specs.declared.trial.Spoke.{Spoke}

-- a step or a spoke shorter than this has no direction
abbrev pub no_direction : Float
no_direction = nano

-- p seen from the centre m: its offset and its distance
unfoldable pub spoke_of : Point → Point3D → Spoke
spoke_of m p = record { x = p.x ⊖ m.x; y = p.y ⊖ m.y; len = length_of (p.x ⊖ m.x) (p.y ⊖ m.y) }

-- the cosine between two spokes, within −1..1
unfoldable pub cosine : Spoke → Spoke → Float
cosine s t = clamp_of (dot s.x s.y t.x t.y ⊘ (s.len ⊗ t.len)) (neg one) one

-- how far the arc of radius r bulges beyond the step between two spokes: r × (1 − root((1 + c)/2)); 0 where a spoke has no length
unfoldable pub sagitta_of : Float → Spoke → Spoke → Float
unfolding cosine
sagitta_of r s t =
    if s.len ≺ no_direction then +0
    else if t.len ≺ no_direction then +0
    else r ⊗ (one ⊖ root_of ((one ⊕ cosine s t) ⊘ two))

-- the greater distance of the two ends from the circle
unfoldable pub ends_of : Float → Spoke → Spoke → Float
ends_of r s t = max_of (abs_of (s.len ⊖ r)) (abs_of (t.len ⊖ r))

-- the deviation of a step whose length is len: of its first end where it has no length, of its ends where it is longer than the circle is wide
unfoldable pub step_of : Float → Float → Spoke → Spoke → Float
unfolding sagitta_of ends_of
step_of r len s t =
    if len ≺ no_direction then abs_of (s.len ⊖ r)
    else if two ⊗ r ≺ len then ends_of r s t
    else max_of (sagitta_of r s t) (ends_of r s t)

-- of the step from p to q
unfoldable pub step_between : Point → Float → Point3D → Point3D → Float
unfolding step_of spoke_of
step_between m r p q = step_of r (length_of (q.x ⊖ p.x) (q.y ⊖ p.y)) (spoke_of m p) (spoke_of m q)

-- The greatest deviation of a step of the points from lo to hi, and the index "of the first step that reaches" it, a step's index being that of the point it starts at:
-- "0 if there are no steps or it is 0" (document 02, §5). The walk begins with 0 at index 0, and only what is above takes its place.
unfoldable pub arc_deviation : Point → Float → (ℕ → Point3D) → ℕ → ℕ → Deviation
unfolding worst step_between
arc_deviation m r at lo hi = worst (λ i. step_between m r (at i) (at (i + 1))) (hi - lo) lo (record { dist = +0; index = 0 })
