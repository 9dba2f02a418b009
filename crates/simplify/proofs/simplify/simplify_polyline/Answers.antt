-- `simplify::simplify::simplify_polyline` meets its contract: what its form's call promises. Assumes nothing.
use Rattle.simplify.specs.Simplify.{simplify_polyline}
use Rattle.simplify.proofs.simplify.simplify_polyline.Goals as goal

pub returns : goal.returns
unfolding simplify_polyline
returns c = c.simplify_form.ensures
