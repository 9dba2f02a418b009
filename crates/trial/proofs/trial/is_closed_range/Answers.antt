-- `trial::trial::is_closed_range` meets its contract: a square from 1e-11 up has a root above 1e-6, and of any other the root is taken. Assumes nothing.
use mathlib.Core.Path.{sym}
use Rattle.geo.specs.Vector.{length_of}
use Rattle.trial.specs.Trial.{closed_range}
use Rattle.trial.proofs.Squares.{not_closed}
use Rattle.trial.proofs.trial.is_closed_range.Goals as goal

pub returns-then-l : goal.returns-then-l
unfolding closed_range
returns-then-l c = sym (not_closed _ _ c.if-l.true)

pub returns : goal.returns
unfolding closed_range length_of
returns c = rw c.sqrt.ensures.value
