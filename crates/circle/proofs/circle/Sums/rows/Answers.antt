-- `circle::circle::Sums::rows` meets its contract: so few points are a float. Assumes nothing.
use native.Mathlib.Omega.{arith}
use Rattle.floats.proofs.float.Ceiling.{whole-fits}
use Rattle.circle.proofs.circle.Sums.rows.Goals as goal

pub int_to_float-result : goal.int_to_float-result
int_to_float-result c = whole-fits _ (omega arith)
