-- `file::command::Encoded::curve` meets its contract: a kind and three points. Assumes nothing.
use Rattle.file.proofs.command.Encoded.curve.Goals as goal

pub returns : goal.returns
returns c = rw (← c.point_from-q.ensures, ← c.point_from-r.ensures) c.make_command.ensures
