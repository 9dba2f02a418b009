-- Points that do not lie on one line are three or more. Assumes nothing.
use Prim.Native.Nat.{ℕ, ◌+◌, ◌-◌, ◌≤◌}
use mathlib.Core.Path.{◌≡◌, refl, sym}
use mathlib.Core.Bool.{Bool, true, false}
use native.Mathlib.Omega.{arith}
use borrow.Author.Tests.{ltb-false}
use lib.Ieee.{Float}
use Rattle.std.specs.Prelude.{if◌then◌else◌, ltb}
use Rattle.floats.proofs.Order.{clash}
use Rattle.geo.specs.declared.types.Point3D.{Point3D}
use Rattle.circle.specs.Collinear.{collinear, collinear_by, ends_chord}

few_fails : (few by : Bool) → (if few then true else by) ≡ false → few ≡ false
few_fails true by h = clash (sym h)
few_fails false by h = refl

pub apart : (tol : Float) (at : ℕ → Point3D) (lo hi : ℕ) → collinear tol at lo hi ≡ false → lo + 2 ≤ hi
unfolding collinear
apart tol at lo hi h = let e = ltb-false (hi - lo) 2 (few_fails (ltb (hi - lo) 2) (collinear_by (ends_chord (at lo) (at hi)) tol at lo hi) h) in omega arith
