-- A Move is told by its kind. Assumes nothing.
use Prim.Native.Nat.{ℕ, zero, suc}
use mathlib.Core.Path.{◌≡◌, refl}
use native.Mathlib.Omega.{arith}
use borrow.Author.Tests.{ne_eqb}
use lib.Dec.{eqb}
use Rattle.geo.specs.declared.types.Point3D.{Point3D}
use Rattle.geo.specs.Lent.{command_of}
use Rattle.farthest.specs.Ends.{is_move}

pub move_told : (k : ℕ) (p q r : Point3D) → eqb k 0 ≡ is_move (command_of k p q r)
unfolding is_move command_of
move_told zero p q r = refl
move_told (suc zero) p q r = ne_eqb 1 0 (λ z. omega arith)
move_told (suc (suc zero)) p q r = ne_eqb 2 0 (λ z. omega arith)
move_told (suc (suc (suc k))) p q r = ne_eqb (suc (suc (suc k))) 0 (λ z. omega arith)
