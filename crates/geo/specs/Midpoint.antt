-- The public midpoint. Definitions only.
use Rattle.std.specs.Prelude.{not, ◌&&◌, [], ◌∷◌}
use Rattle.geo.specs.declared.types.Point3D.{Point3D}
use Rattle.geo.specs.Outcome.{row, refusal, Outcome, unless}
use Rattle.geo.specs.Vector.{midpoint}
use Rattle.geo.specs.Domain.{point3_in}

unfoldable pub midpoint_call : Point3D → Point3D → Outcome Point3D
unfolding refusal unless midpoint
midpoint_call a b = unless (refusal (row 5 (not (point3_in a && point3_in b)) ∷ [])) (midpoint a b)
