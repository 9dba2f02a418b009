-- `course::course::walk_course` meets its contract: the walk holds its start alone, and goes along. Assumes nothing.
use native.Mathlib.Omega.{arith}
use mathlib.Core.Path.{refl, ap, ◌∙◌}
use lib.ListN.{take}
use Rattle.geo.specs.Lent.{triple}
use Rattle.chain.proofs.Stepping.{take_sets}
use Rattle.course.proofs.course.walk_course.Goals as goal

pub put_point-requires : goal.put_point-requires
put_point-requires c = omega arith

pub walk_along-requires-clause-begun : goal.walk_along-requires-clause-begun
walk_along-requires-clause-begun c = let a = c.args in
    rw c.new.ensures (refl, ap (take 3) c.put_point.ensures ∙ take_sets a.chain.now 0 3 (triple a.start) refl (omega arith))
