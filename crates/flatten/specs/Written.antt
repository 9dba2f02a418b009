-- The code's own way: a vector with its length beside it, and what the two passes leave: first the Lines without heights, and then the heights.
-- What is drawn, and when a part is halved, is Parts.antt's and Lines.antt's. Definitions only.
use Rattle.std.specs.Prelude.{ℕ, zero, suc, ◌+◌, ◌*◌, List, map, set, Float}
use Rattle.floats.specs.Ops.{◌⊕◌, ◌⊖◌, ◌⊗◌, ◌⊘◌, +0, one, two}
use Rattle.floats.specs.Root.{root_of}
use Rattle.geo.specs.declared.types.Point.{Point}
use Rattle.geo.specs.declared.types.Command.{Command}
use Rattle.geo.specs.declared.types.Command.TheVariants.{Line}
use Rattle.trial.specs.Traversal.{dot2}
use Rattle.flatten.specs.declared.flatten.Ray.{Ray}
use Rattle.flatten.specs.Parts.{length_by, ArcPart}

-- ---- lengths that are worked out once
unfoldable pub ray_of : Point → Ray
ray_of u = record { to = u; len = length_by u }

-- the bulge by the lengths at hand
unfoldable pub bulge_of : Float → Ray → Ray → Float
bulge_of r u w = r ⊗ (one ⊖ root_of ((one ⊕ dot2 u.to w.to ⊘ (u.len ⊗ w.len)) ⊘ two))

-- ---- two passes
-- the Line to the centre m plus the vector v, at height +0
unfoldable pub low_line : Point → Point → Command
low_line m v = Line (record { x = m.x ⊕ v.x; y = m.y ⊕ v.y; z = +0 })

-- the Lines of parts, before their heights are set
unfoldable pub low_lines : Point → List ArcPart → List Command
low_lines m ps = map (λ p. low_line m p.to) ps

-- the heights of k Lines from place i on, stored among the numbers l: h i is the one after part i, counted from 1
unfoldable pub heightened : (ℕ → Float) → ℕ → ℕ → List Float → List Float
heightened h zero i l = l
heightened h (suc k) i l = heightened h k (i + 1) (set l (9 * i + 2) (h (i + 1)))
