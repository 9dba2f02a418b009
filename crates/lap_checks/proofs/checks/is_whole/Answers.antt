-- `lap_checks::checks::is_whole` meets its contract: nine numbers for each kind, told by division. Assumes nothing.
use Prim.Native.Nat.{◌*◌}
use mathlib.Core.Path.{sym}
use native.Mathlib.Omega.{arith}
use borrow.Author.Tests.{ne_eqb}
use lib.ListN.{length}
use Rattle.laps.proofs.Rows.{nines}
use Rattle.lap_checks.specs.Checks.{lent_whole}
use Rattle.lap_checks.proofs.checks.is_whole.Goals as goal

pub returns-then-size-eq0 : goal.returns-then-size-eq0
unfolding lent_whole
returns-then-size-eq0 c = let a = c.args in nines (length a.nums.now) (length a.kinds.now) c.if-size-eq0.true

pub returns-else-size-eq0 : goal.returns-else-size-eq0
unfolding lent_whole
returns-else-size-eq0 c = let a = c.args in rw (ne_eqb _ _ c.if-size-eq0.false) (sym (ne_eqb (length a.nums.now) (9 * length a.kinds.now) (λ e. c.if-size-eq0.false (omega (arith, e)))))
