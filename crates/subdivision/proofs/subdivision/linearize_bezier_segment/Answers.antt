-- `subdivision::subdivision::linearize_bezier_segment` meets its contract: a refusal by the check's cause, else the start and the ends of the parts. Assumes nothing.
use Rattle.std.proofs.Common.{rules, ◌∷◌, length, refl, arith}
use Rattle.floats.specs.Ops.{◌⊗◌}
use Rattle.geo.specs.Vector.{cubic}
use Rattle.geo.specs.Lent.{triple, flat}
use Rattle.geo.proofs.Flat.{flat_length}
use Rattle.geo.proofs.Wrote.{wrote-refused, wrote-given, wrote-same}
use Rattle.subdivision.specs.Flatten.{is_flat3, halves3, flattened}
use Rattle.subdivision.specs.Calls.{most_depth}
use Rattle.subdivision.proofs.Halving.{parts_length}
use Rattle.subdivision.proofs.Rows.{segment_passed, segment_at}
use Rattle.subdivision.proofs.subdivision.linearize_bezier_segment.Goals as goal

pub returns-in_err-check_segment : goal.returns-in_err-check_segment
returns-in_err-check_segment c = let a = c.args in
    let t = c.unwrap_or-t.result in
    wrote-same (flat triple) _ _ _ _ _ (segment_at a.p0 a.c1 a.c2 a.p1 a.tolerance t (length a.out.now) c.unwrap_or-t.ensures)
    (wrote-refused _ _ c.in_err-check_segment.ensures (flat triple) (a.p0 ∷ flattened most_depth (t ⊗ t) a.p0 a.c1 a.c2 a.p1) _ _ (search rules))

pub put_polyline-requires : goal.put_polyline-requires
put_polyline-requires c = let a = c.args in
    let f = segment_passed a.p0 a.c1 a.c2 a.p1 c.unwrap_or-t.result _ c.in_ok-check_segment.ensures in
    (omega arith, omega arith)

pub returns : goal.returns
returns c = let a = c.args in
    let t = c.unwrap_or-t.result in
    let f = segment_passed a.p0 a.c1 a.c2 a.p1 t _ c.in_ok-check_segment.ensures in
    let items = a.p0 ∷ flattened most_depth (t ⊗ t) a.p0 a.c1 a.c2 a.p1 in
    wrote-same (flat triple) _ _ _ _ _ (segment_at a.p0 a.c1 a.c2 a.p1 a.tolerance t (length a.out.now) c.unwrap_or-t.ensures)
    (wrote-given _ c.in_ok-check_segment.ensures (flat triple) items _ _ _ c.put_polyline.ensures.count
    (omega (arith, f, flat_length triple 3 (λ x. refl) items, parts_length is_flat3 halves3 most_depth (t ⊗ t) (cubic a.p0 a.c1 a.c2 a.p1)))
    c.put_polyline.ensures.stored)
