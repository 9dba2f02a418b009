-- The code's own way: one walk for both courses, and what a command adds to the most. Definitions only.
use Rattle.std.specs.Prelude.{ℕ, ◌+◌, ◌/◌, Bool, true, false, List, [], ◌∷◌, length, Float}
use Rattle.geo.specs.declared.types.Point3D.{Point3D}
use Rattle.geo.specs.declared.types.Command.{Command}
use Rattle.geo.specs.Lent.{triple, end_of}
use Rattle.pieces.specs.declared.pieces.Rule.{Rule}
use Rattle.pieces.specs.Written.{Noted, chain_noted}
use Rattle.chain.specs.declared.chain.Flush.{Flush}
use Rattle.chain.specs.declared.chain.Flush.TheVariants.{AsItStands, Lines}
use Rattle.chain.specs.Parts.{Part, Join, adds, ends, parts_from}
use Rattle.chain.specs.Chains.{joined_by, flushed_by, noted_of}
use Rattle.course.specs.Course.{parts_on}

-- ---- the most
-- a command that adds points counts as these, one that is kept as one
unfoldable pub weight_of : Join → ℕ
weight_of (adds ps) = length ps / 3
weight_of ends = 1

-- of several commands, the first behind the position `last`
unfoldable pub weights_from : (Point3D → Command → Join) → Point3D → List Command → ℕ
weights_from join last [] = 0
weights_from join last (c ∷ cs) = weight_of (join last c) + weights_from join (end_of c) cs

-- ---- both courses in one: a path is fitted as it stands where arcs are asked for, else thinned to Lines
unfoldable pub path_flush : Bool → Flush
path_flush true = AsItStands
path_flush false = Lines

-- from the start p
unfoldable pub parts_by : Flush → Float → Point3D → List Command → List Part
parts_by f tol p cs = parts_from (joined_by f tol) p (triple p) cs

unfoldable pub fit_by : Flush → Rule → Point3D → List Command → List Noted
fit_by f r p cs = noted_of (flushed_by f r) (parts_by f r.tolerance p cs)

-- the fit of a course from the start p
unfoldable pub noted_on : Rule → Point3D → List Command → List Noted
noted_on r p cs = noted_of (chain_noted r) (parts_on r.tolerance p cs)
