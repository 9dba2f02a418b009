-- `geo::lent::make_command` meets its contract: by the kind. Assumes nothing.
use native.Mathlib.Omega.{arith}
use Rattle.geo.proofs.Formed.{bezier_of}
use Rattle.geo.specs.Lent.{command_of}
use Rattle.geo.proofs.lent.make_command.Goals as goal

pub returns-in-0 : goal.returns-in-0
unfolding command_of
returns-in-0 c = rw c.in-0.is

pub returns-in-1 : goal.returns-in-1
unfolding command_of
returns-in-1 c = rw c.in-1.is

pub returns-in-2 : goal.returns-in-2
unfolding command_of
returns-in-2 c = rw c.in-2.is

pub returns-in_default : goal.returns-in_default
returns-in_default c = bezier_of c.args.kind _ _ _ (omega arith)
