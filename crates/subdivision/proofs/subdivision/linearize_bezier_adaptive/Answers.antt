-- `subdivision::subdivision::linearize_bezier_adaptive` meets its contract: a refusal by the check's cause, else the start and the ends of the parts. Assumes nothing.
use Rattle.std.proofs.Common.{rules, ◌∷◌, refl, arith}
use Rattle.geo.specs.Vector.{cubic}
use Rattle.geo.specs.Lent.{pair, flat}
use Rattle.geo.proofs.Flat.{flat_length}
use Rattle.geo.proofs.Wrote.{wrote-refused, wrote-given}
use Rattle.subdivision.specs.Flatten.{is_flat, halves, subdivided}
use Rattle.subdivision.specs.Calls.{adaptive_call}
use Rattle.subdivision.proofs.Halving.{parts_length}
use Rattle.subdivision.proofs.Rows.{adaptive_passed}
use Rattle.subdivision.proofs.subdivision.linearize_bezier_adaptive.Goals as goal

pub returns-in_err-check_adaptive : goal.returns-in_err-check_adaptive
unfolding adaptive_call
returns-in_err-check_adaptive c = let a = c.args in
    wrote-refused _ _ c.in_err-check_adaptive.ensures (flat pair) (a.p0 ∷ subdivided a.max_depth a.tolerance_sq (cubic a.p0 a.c1 a.c2 a.p1)) _ _ (search rules)

pub put_polyline-requires : goal.put_polyline-requires
put_polyline-requires c = let a = c.args in adaptive_passed (cubic a.p0 a.c1 a.c2 a.p1) a.tolerance_sq a.max_depth _ c.in_ok-check_adaptive.ensures

pub returns : goal.returns
unfolding adaptive_call
returns c = let a = c.args in
    let q = cubic a.p0 a.c1 a.c2 a.p1 in
    let f = adaptive_passed q a.tolerance_sq a.max_depth _ c.in_ok-check_adaptive.ensures in
    let items = a.p0 ∷ subdivided a.max_depth a.tolerance_sq q in
    wrote-given _ c.in_ok-check_adaptive.ensures (flat pair) items _ _ _ c.put_polyline.ensures.count
    (omega (arith, f, flat_length pair 2 (λ x. refl) items, parts_length is_flat halves a.max_depth a.tolerance_sq q))
    c.put_polyline.ensures.stored
