-- Whether points lie on a line. Definitions only.
use Rattle.std.specs.Prelude.{ℕ, ◌+◌, ◌-◌, Bool, true, not, ltb, Float, if◌then◌else◌}
use Rattle.floats.specs.Limits.{nano}
use Rattle.floats.specs.Float.{abs_of}
use Rattle.floats.specs.Ops.{◌⊖◌, ◌⊘◌, ◌≺◌}
use Rattle.geo.specs.Vector.{perp_dot, length_of}
use Rattle.geo.specs.declared.types.Point3D.{Point3D}
use Rattle.geo.specs.Domain.{every_from}
use Rattle.circle.specs.declared.circle.Chord.{Chord}

-- a chord shorter than this has no line
abbrev pub short_chord : Float
short_chord = nano

unfoldable pub ends_chord : Point3D → Point3D → Chord
ends_chord a b =
    let dx = b.x ⊖ a.x in
    let dy = b.y ⊖ a.y in
    record { a = a; dx = dx; dy = dy; len = length_of dx dy }

-- nearer than tol to the chord's first point
unfoldable pub near_to : Chord → Float → Point3D → Bool
near_to c tol p = length_of (p.x ⊖ c.a.x) (p.y ⊖ c.a.y) ≺ tol

-- no farther than tol from the endless line
unfoldable pub beside_of : Chord → Float → Point3D → Bool
beside_of c tol p = not (tol ≺ abs_of (perp_dot (p.x ⊖ c.a.x) (p.y ⊖ c.a.y) c.dx c.dy) ⊘ c.len)

-- of the points from lo to hi
unfoldable pub all_near : Chord → Float → (ℕ → Point3D) → ℕ → ℕ → Bool
all_near c tol at lo hi = every_from (λ i. near_to c tol (at i)) (hi + 1 - lo) lo

-- of the points strictly between lo and hi
unfoldable pub all_beside : Chord → Float → (ℕ → Point3D) → ℕ → ℕ → Bool
all_beside c tol at lo hi = every_from (λ i. beside_of c tol (at i)) (hi - (lo + 1)) (lo + 1)

-- by the chord of the ends
unfoldable pub collinear_by : Chord → Float → (ℕ → Point3D) → ℕ → ℕ → Bool
collinear_by c tol at lo hi = if c.len ≺ short_chord then all_near c tol at lo hi else all_beside c tol at lo hi

unfoldable pub collinear : Float → (ℕ → Point3D) → ℕ → ℕ → Bool
collinear tol at lo hi = if ltb (hi - lo) 2 then true else collinear_by (ends_chord (at lo) (at hi)) tol at lo hi
