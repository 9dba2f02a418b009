-- `command_of` by the tests that the code makes on a kind. Assumes nothing.
use Prim.Native.Nat.{ℕ, zero, suc, ◌≤◌}
use mathlib.Core.Path.{◌≡◌, refl}
use native.Mathlib.Omega.{arith}
use Rattle.geo.specs.declared.types.Point3D.{Point3D}
use Rattle.geo.specs.declared.types.Command.TheVariants.{Bezier}
use Rattle.geo.specs.Lent.{command_of, end_of}

-- the command of a kind above 2
pub bezier_of : (k : ℕ) (p q r : Point3D) → 3 ≤ k → Bezier p q r ≡ command_of k p q r
unfolding command_of
bezier_of zero p q r h = absurd (omega arith)
bezier_of (suc zero) p q r h = absurd (omega arith)
bezier_of (suc (suc zero)) p q r h = absurd (omega arith)
bezier_of (suc (suc (suc k))) p q r h = refl

-- a command ends at the first of its points, whatever its kind
pub ends_first : (k : ℕ) (p q r : Point3D) → end_of (command_of k p q r) ≡ p
unfolding end_of command_of
ends_first zero p q r = refl
ends_first (suc zero) p q r = refl
ends_first (suc (suc zero)) p q r = refl
ends_first (suc (suc (suc k))) p q r = refl
