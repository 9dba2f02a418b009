-- The two arc trials of a range from lo to hi, whose Line's first farthest point is k. Definitions only.
use Rattle.std.specs.Prelude.{ℕ, ◌+◌, ◌-◌, Bool, ◌&&◌, ltb, eqb, Option, None, Some, Float, if◌then◌else◌}
use Rattle.floats.specs.Ops.{◌⊖◌, ◌⊗◌, ◌⊘◌, ◌≺◌, half}
use Rattle.geo.specs.declared.types.Point.{Point}
use Rattle.geo.specs.declared.types.Point3D.{Point3D}
use Rattle.geo.specs.Vector.{dot, length_of, flatten}
use Rattle.arc.specs.Direction.{clockwise}
use Rattle.circle.specs.declared.circle.Center.{Center}
use Rattle.circle.specs.declared.circle.Circle.{Circle}
use Rattle.floats.specs.Limits.{millionth}
use Rattle.circle.specs.Three.{radius_from, through_three}
use Rattle.circle.specs.Kasa.{kasa_center}
use Rattle.circle.specs.Bisector.{projected}
use Rattle.circle.specs.declared.circle.Deviation.{Deviation}
use Rattle.trial.specs.declared.trial.Trial.{Trial}
use Rattle.trial.specs.Deviation.{no_direction, arc_deviation}
use Rattle.trial.specs.Traversal.{traverses}

-- the cosine of a sharp turn is below this
abbrev pub sharp_cosine : Float
sharp_cosine = half

-- the ends of a closed range are nearer than this
abbrev pub closed_within : Float
closed_within = millionth

-- the cosine of the turn from one step to the next is below 0.5, and both steps have a length
unfoldable pub sharp_turn : Point3D → Point3D → Point3D → Bool
sharp_turn a b c =
    let dx1 = b.x ⊖ a.x in
    let dy1 = b.y ⊖ a.y in
    let dx2 = c.x ⊖ b.x in
    let dy2 = c.y ⊖ b.y in
    (no_direction ≺ length_of dx1 dy1)
    && ((no_direction ≺ length_of dx2 dy2) && (dot dx1 dy1 dx2 dy2 ⊘ (length_of dx1 dy1 ⊗ length_of dx2 dy2) ≺ sharp_cosine))

-- at the split point k, where it lies strictly inside the range
unfoldable pub sharp_at : (ℕ → Point3D) → ℕ → ℕ → ℕ → Bool
sharp_at at lo hi k = ltb lo k && (ltb k hi && sharp_turn (at (k - 1)) (at k) (at (k + 1)))

-- a range whose ends are nearer than 1e-6 is closed
unfoldable pub closed_range : Point3D → Point3D → Bool
closed_range a b = length_of (a.x ⊖ b.x) (a.y ⊖ b.y) ≺ closed_within

-- the worst step of a deviation w below the tolerance
unfoldable pub measured_by : Deviation → Float → Option ℕ
measured_by w tol = if w.dist ≺ tol then Some w.index else None

-- a trial that found the arc round m, in the direction d, whose worst step is k
abbrev pub Arc : Point → Bool → ℕ → Option Trial
Arc m d k = Some (record { center = m; clockwise = d; worst = k })

-- the arc round m whose worst step is k: it passes where it goes less than a whole turn
unfoldable pub going_round : (ℕ → Point3D) → ℕ → ℕ → Point → ℕ → Option Trial
going_round at lo hi m k = if traverses m at lo hi then Arc m (clockwise (λ i. flatten (at i)) lo hi m) k else None

-- a measured arc round m
unfoldable pub of_measured : (ℕ → Point3D) → ℕ → ℕ → Point → Option ℕ → Option Trial
of_measured at lo hi m (Some k) = going_round at lo hi m k
of_measured at lo hi m None = None

-- the arc round m, which is on the bisector already: its deviation is below the tolerance, and it goes less than a whole turn.
-- The radius is measured again, from m to the first point.
unfoldable pub trial_round : (ℕ → Point3D) → ℕ → ℕ → Float → Point → Option Trial
trial_round at lo hi tol m = of_measured at lo hi m (measured_by (arc_deviation m (radius_from m (at lo)) at lo hi) tol)

-- the arc round a fitted centre, projected to the bisector of the range's ends
unfoldable pub trial_of : (ℕ → Point3D) → ℕ → ℕ → Float → Point → Option Trial
trial_of at lo hi tol m = trial_round at lo hi tol (projected (at lo) (at hi) m)

-- where there is a circle: its own radius is not used
unfoldable pub of_circle : (ℕ → Point3D) → ℕ → ℕ → Float → Option Circle → Option Trial
of_circle at lo hi tol (Some c) = trial_of at lo hi tol c.center
of_circle at lo hi tol None = None

unfoldable pub of_center : (ℕ → Point3D) → ℕ → ℕ → Float → Option Center → Option Trial
of_center at lo hi tol (Some c) = trial_of at lo hi tol c.center
of_center at lo hi tol None = None

-- the trial by the circle through three points, and the one by least squares
unfoldable pub trial_three : (ℕ → Point3D) → ℕ → ℕ → Float → Option Trial
trial_three at lo hi tol = of_circle at lo hi tol (through_three (at lo) (at (lo + 1)) (at hi))

unfoldable pub trial_least : (ℕ → Point3D) → ℕ → ℕ → Float → Option Trial
trial_least at lo hi tol = of_center at lo hi tol (kasa_center at lo hi)

-- ---- the two trials as they are made: a sharp turn or a closed range blocks both, and the trial by three points is made for three points only.
-- "An arc trial that the Rust does not make counts as failed" (document 01, below its table of causes).
unfoldable pub three_tried : (ℕ → Point3D) → ℕ → ℕ → ℕ → Float → Option Trial
three_tried at lo hi k tol =
    if sharp_at at lo hi k then None
    else if closed_range (at lo) (at hi) then None
    else if eqb (hi - lo) 2 then trial_three at lo hi tol
    else None

unfoldable pub least_tried : (ℕ → Point3D) → ℕ → ℕ → ℕ → Float → Option Trial
least_tried at lo hi k tol =
    if sharp_at at lo hi k then None
    else if closed_range (at lo) (at hi) then None
    else trial_least at lo hi tol

-- ---- both, the first that passes
unfoldable pub or_else : Option Trial → Option Trial → Option Trial
or_else (Some t) u = Some t
or_else None u = u

-- The arc of the first trial that passes. A sharp turn or a closed range blocks both; the trial by three points is made for three points only.
unfoldable pub try_arcs : (ℕ → Point3D) → ℕ → ℕ → ℕ → Float → Option Trial
try_arcs at lo hi k tol =
    if sharp_at at lo hi k then None
    else if closed_range (at lo) (at hi) then None
    else if eqb (hi - lo) 2 then or_else (trial_three at lo hi tol) (trial_least at lo hi tol)
    else trial_least at lo hi tol
