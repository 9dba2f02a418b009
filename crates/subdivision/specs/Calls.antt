-- The public calls: which row of document 01's table refuses them, else what they give. Definitions only.
use Rattle.std.specs.Prelude.{ℕ, ◌+◌, ◌*◌, ◌^◌, Bool, not, List, [], ◌∷◌, ltb, Float, Option, unwrap_or}
use Rattle.floats.specs.Limits.{hundredth}
use Rattle.floats.specs.Ops.{◌⊗◌}
use Rattle.geo.specs.declared.types.Point.{Point}
use Rattle.geo.specs.declared.types.Point3D.{Point3D}
use Rattle.geo.specs.declared.types.CubicBezier.{CubicBezier}
use Rattle.geo.specs.Vector.{cubic}
use Rattle.geo.specs.Outcome.{Row, row, refusal, Outcome, unless}
use Rattle.geo.specs.Domain.{tolerance, tolerance_sq, whole}
use Rattle.bezier.specs.Curve.{curve_in, curve3_in}
use Rattle.subdivision.specs.Flatten.{is_flat, subdivided, flattened}

-- ---- is_bezier_flat
unfoldable pub flat_call : Point → Point → Point → Point → Float → Outcome Bool
unfolding refusal unless is_flat
flat_call p0 c1 c2 p1 limit =
    unless (refusal (row 5 (not (curve_in (cubic p0 c1 c2 p1))) ∷ row 6 (not (tolerance_sq limit)) ∷ [])) (is_flat (cubic p0 c1 c2 p1) limit)

-- ---- how often a curve may be halved
abbrev pub most_depth : ℕ
most_depth = 10

-- ---- linearize_bezier_adaptive: its most is 1 + 2^depth points, a pair of numbers each
unfoldable pub adaptive_rows : CubicBezier Point → Float → ℕ → ℕ → List Row
adaptive_rows q limit depth room =
    row 1 (not (whole 2 room))
    ∷ row 2 (ltb most_depth depth)
    ∷ row 5 (not (curve_in q))
    ∷ row 6 (not (tolerance_sq limit))
    ∷ row 9 (ltb room (2 * (1 + 2 ^ depth)))
    ∷ []

unfoldable pub adaptive_call : Point → Point → Point → Point → Float → ℕ → ℕ → Outcome (List Point)
unfolding refusal unless adaptive_rows
adaptive_call p0 c1 c2 p1 limit depth room =
    unless (refusal (adaptive_rows (cubic p0 c1 c2 p1) limit depth room)) (p0 ∷ subdivided depth limit (cubic p0 c1 c2 p1))

-- ---- linearize_bezier_segment: a tolerance is given, or 0.01; its depth is the most
abbrev pub tolerance_of : Option Float → Float
tolerance_of t = unwrap_or t hundredth

unfoldable pub segment_rows : Point3D → Point3D → Point3D → Point3D → Float → ℕ → List Row
segment_rows p0 c1 c2 p1 t room =
    row 1 (not (whole 3 room))
    ∷ row 5 (not (curve3_in p0 c1 c2 p1))
    ∷ row 6 (not (tolerance t))
    ∷ row 9 (ltb room (3 * (1 + 2 ^ most_depth)))
    ∷ []

unfoldable pub segment_call : Point3D → Point3D → Point3D → Point3D → Option Float → ℕ → Outcome (List Point3D)
unfolding refusal unless segment_rows
segment_call p0 c1 c2 p1 t room =
    unless (refusal (segment_rows p0 c1 c2 p1 (tolerance_of t) room)) (p0 ∷ flattened most_depth (tolerance_of t ⊗ tolerance_of t) p0 c1 c2 p1)
