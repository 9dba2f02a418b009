-- What is said of an arc that a trial found, as propositions. Definitions only; proofs/Tried.antt shows that they hold.
use Rattle.std.specs.Prelude.{ℕ, ◌≡◌, Bool, true, Float}
use Rattle.floats.specs.Ops.{◌≺◌}
use Rattle.geo.specs.declared.types.Point.{Point}
use Rattle.geo.specs.declared.types.Point3D.{Point3D}
use Rattle.geo.specs.Vector.{flatten}
use Rattle.arc.specs.Direction.{clockwise}
use Rattle.circle.specs.Three.{radius_from}
use Rattle.trial.specs.Deviation.{arc_deviation}
use Rattle.trial.specs.Traversal.{traverses}

-- The arc of the points from lo to hi round the centre c, in the direction d, passes: its deviation, with the radius measured from c to the first point, is below the
-- tolerance; it goes less than a whole turn; and its direction is that in which the points go round c.
pub record ArcPasses (tol : Float) (at : ℕ → Point3D) (lo hi : ℕ) (c : Point) (d : Bool) : Type 0 where
  pub deviation : ((arc_deviation c (radius_from c (at lo)) at lo hi).dist ≺ tol) ≡ true
  pub traversal : traverses c at lo hi ≡ true
  pub direction : d ≡ clockwise (λ i. flatten (at i)) lo hi c
