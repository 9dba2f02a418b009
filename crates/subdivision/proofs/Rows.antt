-- What an accepted call knows, by the rows that it passed. Assumes nothing.
use Prim.Native.Nat.{ℕ, ◌+◌, ◌*◌, ◌^◌, ◌≤◌}
use mathlib.Core.Path.{◌≡◌, ap}
use mathlib.Core.List.{◌∷◌}
use borrow.Author.Tests.{ltb-false}
use lib.Ieee.{Float}
use Rattle.floats.specs.Ops.{◌⊗◌}
use Rattle.geo.specs.declared.types.Point.{Point}
use Rattle.geo.specs.declared.types.Point3D.{Point3D}
use Rattle.geo.specs.declared.types.CubicBezier.{CubicBezier}
use Rattle.geo.specs.Outcome.{refusal, unless}
use Rattle.geo.proofs.Rows.{row_passed}
use Rattle.std.specs.Prelude.{Option}
use Rattle.subdivision.specs.Flatten.{flattened}
use Rattle.subdivision.specs.Calls.{most_depth, adaptive_rows, tolerance_of, segment_rows, segment_call}

pub adaptive_passed : (q : CubicBezier Point) (limit : Float) (depth room : ℕ) → 0 ≡ refusal (adaptive_rows q limit depth room) → (depth ≤ most_depth) × (2 * (1 + 2 ^ depth) ≤ room)
unfolding adaptive_rows
adaptive_passed q limit depth room h =
    let a = row_passed 0 _ _ h in
    let b = row_passed 1 _ _ a.1 in
    let c = row_passed 4 _ _ b.1 in
    let d = row_passed 5 _ _ c.1 in
    let e = row_passed 8 _ _ d.1 in
    (ltb-false most_depth depth b.0, ltb-false room (2 * (1 + 2 ^ depth)) e.0)

pub segment_passed : (p0 c1 c2 p1 : Point3D) (t : Float) (room : ℕ) → 0 ≡ refusal (segment_rows p0 c1 c2 p1 t room) → 3 * (1 + 2 ^ most_depth) ≤ room
unfolding segment_rows
segment_passed p0 c1 c2 p1 t room h =
    let a = row_passed 0 _ _ h in
    let b = row_passed 4 _ _ a.1 in
    let c = row_passed 5 _ _ b.1 in
    let d = row_passed 8 _ _ c.1 in
    ltb-false room (3 * (1 + 2 ^ most_depth)) d.0

-- with the tolerance's value worked out
pub segment_at : (p0 c1 c2 p1 : Point3D) (tol : Option Float) (t : Float) (room : ℕ) → t ≡ tolerance_of tol
    → unless (refusal (segment_rows p0 c1 c2 p1 t room)) (p0 ∷ flattened most_depth (t ⊗ t) p0 c1 c2 p1) ≡ segment_call p0 c1 c2 p1 tol room
unfolding segment_call
segment_at p0 c1 c2 p1 tol t room e = ap (λ (x : Float). unless (refusal (segment_rows p0 c1 c2 p1 x room)) (p0 ∷ flattened most_depth (x ⊗ x) p0 c1 c2 p1)) e
