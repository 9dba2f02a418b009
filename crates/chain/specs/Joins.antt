-- What each command of a course does to the chain under way. Definitions only.
use Rattle.std.specs.Prelude.{Float}
use Rattle.floats.specs.Limits.{quarter}
use Rattle.floats.specs.Ops.{◌⊗◌}
use Rattle.geo.specs.declared.types.Point3D.{Point3D}
use Rattle.geo.specs.declared.types.Command.{Command}
use Rattle.geo.specs.declared.types.Command.TheVariants.{Move, Line, Arc, Bezier}
use Rattle.geo.specs.Lent.{triple, flat}
use Rattle.bezier.specs.Linearize.{step_end, param_steps}
use Rattle.chain.specs.Parts.{Join, adds, ends}

-- ---- fit_arcs: a Line adds its end to the chain, a Bezier the ends of its steps, linearised at a quarter of the tolerance from where the last command ended
unfoldable pub joined : Float → Point3D → Command → Join
joined tol last (Move p) = ends
joined tol last (Line p) = adds (triple p)
joined tol last (Arc p o n) = ends
joined tol last (Bezier p c d) = adds (flat step_end (param_steps p c d last (tol ⊗ quarter)))

-- ---- optimize_path_from_array: only a Line adds to a chain
unfoldable pub lines_joined : Point3D → Command → Join
lines_joined last (Move p) = ends
lines_joined last (Line p) = adds (triple p)
lines_joined last (Arc p o n) = ends
lines_joined last (Bezier p c d) = ends
