-- `geo::types::Command::end_point` meets its contract: by the command's case. Assumes nothing.
use Rattle.geo.specs.Lent.{end_of}
use Rattle.geo.proofs.types.Command.end_point.Goals as goal

pub returns-in-Move : goal.returns-in-Move
unfolding end_of
returns-in-Move c = rw c.in-Move.is

pub returns-in-Line : goal.returns-in-Line
unfolding end_of
returns-in-Line c = rw c.in-Line.is

pub returns-in-Arc : goal.returns-in-Arc
unfolding end_of
returns-in-Arc c = rw c.in-Arc.is

pub returns-in-Bezier : goal.returns-in-Bezier
unfolding end_of
returns-in-Bezier c = rw c.in-Bezier.is
