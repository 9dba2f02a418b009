-- A curve as a polyline: halved until it is flat, or as often as is allowed. Definitions only.
use Rattle.std.specs.Prelude.{ℕ, zero, suc, Bool, ◌&&◌, List, [], ◌∷◌, ◌++◌, Float, if◌then◌else◌}
use Rattle.floats.specs.Ops.{◌⊖◌, ◌⊘◌, ◌≺◌, ◌≼◌, half}
use Rattle.floats.specs.Limits.{nano}
use Rattle.floats.specs.Float.{max_of}
use Rattle.geo.specs.declared.types.Point.{Point}
use Rattle.geo.specs.declared.types.Point3D.{Point3D}
use Rattle.geo.specs.declared.types.CubicBezier.{CubicBezier}
use Rattle.geo.specs.Vector.{cubic, length_sq, perp_dot, distance_sq, length_sq3, cross3, midpoint}
use Rattle.subdivision.specs.declared.subdivision.Chord.{Chord}
use Rattle.bezier.specs.declared.bezier.Halves.{Halves}
use Rattle.bezier.specs.Curve.{square, parts_at}

-- a chord whose square is below 1e-9 counts as a point
abbrev pub point_sq : Float
point_sq = nano

-- ---- in the plane

-- the chord from p0 to p1
unfoldable pub curve_chord : Point → Point → Chord
curve_chord p0 p1 = record { start = p0; vx = p1.x ⊖ p0.x; vy = p1.y ⊖ p0.y; norm = length_sq (p1.x ⊖ p0.x) (p1.y ⊖ p0.y) }

-- the squared distance of c to the chord's endless line, or to its start where the chord is degenerate
unfoldable pub off_chord : Chord → Point → Float
unfolding distance_sq
off_chord k c =
    if k.norm ≺ point_sq
    then distance_sq c k.start
    else square (perp_dot k.vx k.vy (c.x ⊖ k.start.x) (c.y ⊖ k.start.y)) ⊘ k.norm

-- both controls are at most so far off the chord; limit is squared
unfoldable pub is_flat : CubicBezier Point → Float → Bool
unfolding curve_chord off_chord
is_flat q limit = (off_chord (curve_chord q.0 q.3) q.1 ≼ limit) && (off_chord (curve_chord q.0 q.3) q.2 ≼ limit)

abbrev pub halves : CubicBezier Point → Halves Point
halves q = parts_at q half

-- ---- in space
unfoldable pub minus : Point3D → Point3D → Point3D
minus p q = record { x = p.x ⊖ q.x; y = p.y ⊖ q.y; z = p.z ⊖ q.z }

unfoldable pub norm_sq : Point3D → Float
norm_sq p = length_sq3 p.x p.y p.z

-- the squared distance of p to the endless line from o along v, whose square is n
unfoldable pub perpendicular_sq : Point3D → Point3D → Point3D → Float → Float
perpendicular_sq p o v n = norm_sq (cross3 (minus p o) v) ⊘ n

-- the greater of the controls' two
unfoldable pub flatness_sq : Point3D → Point3D → Point3D → Point3D → Float
unfolding perpendicular_sq max_of
flatness_sq a b c d =
    if norm_sq (minus d a) ≺ point_sq
    then max_of (norm_sq (minus b a)) (norm_sq (minus c a))
    else max_of (perpendicular_sq b a (minus d a) (norm_sq (minus d a))) (perpendicular_sq c a (minus d a) (norm_sq (minus d a)))

-- that is at most so far; limit is squared
unfoldable pub is_flat3 : CubicBezier Point3D → Float → Bool
unfolding flatness_sq
is_flat3 q limit = flatness_sq q.0 q.1 q.2 q.3 ≼ limit

unfoldable pub halves3 : CubicBezier Point3D → Halves Point3D
unfolding midpoint
halves3 q =
    let ab = midpoint q.0 q.1 in
    let bc = midpoint q.1 q.2 in
    let cd = midpoint q.2 q.3 in
    let abc = midpoint ab bc in
    let bcd = midpoint bc cd in
    let m = midpoint abc bcd in record { left = cubic q.0 ab abc m; right = cubic m bcd cd q.3 }

-- ---- in both, the ends of the parts, the left half's first
unfoldable pub parts : {P : Type 0} → (CubicBezier P → Float → Bool) → (CubicBezier P → Halves P) → ℕ → Float → CubicBezier P → List P
parts flat halved zero limit q = q.3 ∷ []
parts flat halved (suc depth) limit q =
    if flat q limit
    then q.3 ∷ []
    else (parts flat halved depth limit (halved q).left ++ parts flat halved depth limit (halved q).right)

abbrev pub subdivided : ℕ → Float → CubicBezier Point → List Point
subdivided = parts is_flat halves

abbrev pub flattened : ℕ → Float → Point3D → Point3D → Point3D → Point3D → List Point3D
flattened depth limit a b c d = parts is_flat3 halves3 depth limit (cubic a b c d)
