-- `lapfit::main` meets its contract: what is printed lies in the output. Assumes nothing.
use native.Mathlib.Omega.{arith}
use lib.ListN.{length, length-append}
use mathlib.Core.Path.{ap}
use Rattle.lapfit.proofs.main.Goals as goal

pub run-requires-clause-within : goal.run-requires-clause-within
run-requires-clause-within c input out n out' e p = omega (arith, p.0, simp length-append at (ap length p.1))
