-- `flatten::flatten::turns_before` meets its contract: by the direction, as `turns_by` promises. Assumes nothing.
use Prim.Native.Nat.{◌≤◌, ℕ}
use mathlib.Core.Path.{subst, sym}
use Rattle.flatten.specs.Parts.{turns_before, onward}
use Rattle.flatten.proofs.Parts.{turns-few}
use Rattle.flatten.proofs.flatten.turns_before.Goals as goal

pub returns-then-clockwise : goal.returns-then-clockwise
unfolding turns_before onward
returns-then-clockwise c = record { count = rw (c.if-clockwise.true, ← c.cross-c.ensures, ← c.dot-d.ensures) c.turns_by.ensures; few = subst (λ (n : ℕ). n ≤ 3) (sym c.turns_by.ensures) (turns-few _ _) }

pub returns : goal.returns
unfolding turns_before onward
returns c = record { count = rw (c.if-clockwise.false, ← c.cross-c.ensures, ← c.dot-d.ensures) c.turns_by-2.ensures; few = subst (λ (n : ℕ). n ≤ 3) (sym c.turns_by-2.ensures) (turns-few _ _) }
