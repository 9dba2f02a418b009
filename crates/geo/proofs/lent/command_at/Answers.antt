-- `geo::lent::command_at` meets its contract: three points read, and a command made of them. Assumes nothing.
use Rattle.geo.specs.Lent.{command_at}
use Rattle.geo.proofs.lent.command_at.Goals as goal

pub returns : goal.returns
unfolding command_at
returns c = rw (← c.point_at-p.ensures, ← c.point_at-q.ensures, ← c.point_at-r.ensures) c.make_command.ensures
