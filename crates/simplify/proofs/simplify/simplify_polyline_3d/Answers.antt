-- `simplify::simplify::simplify_polyline_3d` meets its contract: what its form's call promises. Assumes nothing.
use Rattle.simplify.specs.Simplify.{simplify_polyline3d}
use Rattle.simplify.proofs.simplify.simplify_polyline_3d.Goals as goal

pub returns : goal.returns
unfolding simplify_polyline3d
returns c = c.simplify_form.ensures
