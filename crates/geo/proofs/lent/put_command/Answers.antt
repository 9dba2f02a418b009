-- `geo::lent::put_command` meets its contract: by the command's case: its kind is stored, and its three points as one run. Assumes nothing.
use mathlib.Core.Path.{refl}
use Rattle.geo.specs.Lent.{kind_of, numbers_of}
use Rattle.geo.proofs.lent.put_command.Goals as goal

pub returns-in-Move : goal.returns-in-Move
unfolding kind_of numbers_of
returns-in-Move c = rw c.in-Move.is record { kinds = refl; numbers = c.put_points.ensures }

pub returns-in-Line : goal.returns-in-Line
unfolding kind_of numbers_of
returns-in-Line c = rw c.in-Line.is record { kinds = refl; numbers = c.put_points-in-Line.ensures }

pub returns-in-Arc : goal.returns-in-Arc
unfolding kind_of numbers_of
returns-in-Arc c = rw c.in-Arc.is record { kinds = refl; numbers = c.put_points-in-Arc.ensures }

pub returns-in-Bezier : goal.returns-in-Bezier
unfolding kind_of numbers_of
returns-in-Bezier c = rw c.in-Bezier.is record { kinds = refl; numbers = c.put_points-in-Bezier.ensures }
