-- The cubic curve fitted to points: the ends are fixed, the two controls are least squares over parameters by chord length. Definitions only.
use Rattle.std.specs.Prelude.{ℕ, zero, suc, ◌-◌, ◌<◌, ◌≡◌, List, ltb, eqb, get_or, Float, Option, Some, None, if◌then◌else◌}
use Rattle.std.specs.Float.{nan}
use Rattle.floats.specs.Ops.{◌⊕◌, ◌⊖◌, ◌⊗◌, ◌⊘◌, ◌≺◌, +0, one, two, three}
use Rattle.floats.specs.Limits.{pico, atto}
use Rattle.floats.specs.Float.{abs_of}
use Rattle.geo.specs.declared.types.Point.{Point}
use Rattle.geo.specs.declared.types.CubicBezier.{CubicBezier}
use Rattle.geo.specs.Vector.{cubic, distance, lerp}
use Rattle.geo.specs.Walk.{fold}
use Rattle.fit_cubic.specs.declared.fit_cubic.Sums.{Sums}
use Rattle.bezier.specs.Curve.{cube}

-- a total length below 1e-12, and a determinant below 1e-18, give no system to solve
abbrev pub no_length : Float
no_length = pico

abbrev pub no_determinant : Float
no_determinant = atto

-- the length of the polyline up to point i
unfoldable pub chord_sum : (ℕ → Point) → ℕ → Float
unfolding distance
chord_sum at zero = +0
chord_sum at (suc i) = chord_sum at i ⊕ distance (at (suc i)) (at i)

-- l holds the lengths up to each of n points
pub record Chords (at : ℕ → Point) (n : ℕ) (l : List Float) : Type 0 where
  pub at_each : (i : ℕ) → i < n → get_or l i nan ≡ chord_sum at i

-- what one point q at parameter t adds to the normal equations
unfoldable pub add_point : Point → Point → Float → Point → Sums → Sums
add_point p0 p3 t q s =
    let mt = one ⊖ t in
    let w1 = three ⊗ mt ⊗ mt ⊗ t in
    let w2 = three ⊗ mt ⊗ t ⊗ t in
    let rx = q.x ⊖ cube mt ⊗ p0.x ⊖ cube t ⊗ p3.x in
    let ry = q.y ⊖ cube mt ⊗ p0.y ⊖ cube t ⊗ p3.y in
    record {
      a11 = s.a11 ⊕ w1 ⊗ w1;
      a12 = s.a12 ⊕ w1 ⊗ w2;
      a22 = s.a22 ⊕ w2 ⊗ w2;
      b1x = s.b1x ⊕ w1 ⊗ rx;
      b1y = s.b1y ⊕ w1 ⊗ ry;
      b2x = s.b2x ⊕ w2 ⊗ rx;
      b2y = s.b2y ⊕ w2 ⊗ ry;
    }

abbrev pub no_cubic_sums : Sums
no_cubic_sums = record { a11 = +0; a12 = +0; a22 = +0; b1x = +0; b1y = +0; b2x = +0; b2y = +0 }

-- the sums over n points
unfoldable pub cubic_sums : (ℕ → Point) → ℕ → Sums
unfolding fold add_point chord_sum
cubic_sums at n = fold (λ j. add_point (at 0) (at (n - 1)) (chord_sum at j ⊘ chord_sum at (n - 1)) (at j)) n 0 no_cubic_sums

-- the controls that solve the equations; evenly along the chord where the determinant is too small
unfoldable pub cubic_solved : Point → Point → Sums → CubicBezier Point
unfolding lerp abs_of
cubic_solved p0 p3 s =
    let det = s.a11 ⊗ s.a22 ⊖ s.a12 ⊗ s.a12 in
    let inv = one ⊘ det in
    if abs_of det ≺ no_determinant
    then cubic p0 (lerp p0 p3 (one ⊘ three)) (lerp p0 p3 (two ⊘ three)) p3
    else cubic
    p0
    (record { x = (s.a22 ⊗ s.b1x ⊖ s.a12 ⊗ s.b2x) ⊗ inv; y = (s.a22 ⊗ s.b1y ⊖ s.a12 ⊗ s.b2y) ⊗ inv })
    (record { x = (s.a11 ⊗ s.b2x ⊖ s.a12 ⊗ s.b1x) ⊗ inv; y = (s.a11 ⊗ s.b2y ⊖ s.a12 ⊗ s.b1y) ⊗ inv })
    p3

-- a curve along the chord
abbrev pub straight : Point → Point → CubicBezier Point
straight p0 p3 = cubic p0 p0 p3 p3

-- the curve of n points; none below 2
unfoldable pub cubic_fitted : (ℕ → Point) → ℕ → Option (CubicBezier Point)
unfolding cubic_sums cubic_solved chord_sum
cubic_fitted at n =
    if ltb n 2 then None
    else if eqb n 2 then Some (straight (at 0) (at (n - 1)))
    else if chord_sum at (n - 1) ≺ no_length then Some (straight (at 0) (at (n - 1)))
    else Some (cubic_solved (at 0) (at (n - 1)) (cubic_sums at n))
