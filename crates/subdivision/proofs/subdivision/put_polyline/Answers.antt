-- `subdivision::subdivision::put_polyline` meets its contract: one point at the front, and the ends of the parts behind it. Assumes nothing.
use Rattle.std.proofs.Common.{◌+◌, ◌^◌, [], ◌∷◌, length, refl, arith}
use Rattle.geo.proofs.Placed.{placed_one, placed-both}
use Rattle.subdivision.proofs.Halving.{place, parts-few}
use Rattle.subdivision.proofs.subdivision.put_polyline.Goals as goal

pub overflow_add-result : goal.overflow_add-result
overflow_add-result g c = let a = c.args in
    let p = place g.P.Part.width (1 + 2 ^ a.depth) (length a.out.now) g.met.P.Part.some c.requires.1 in
    omega (arith, parts-few g.P.Part.flat g.P.Part.halved _ _ _ c.subdivide-n.ensures)

pub returns : goal.returns
returns g c = let a = c.args in
    let p = g.P.Part in
    placed-both p.lay p.width g.met.P.Part.as_wide (a.q.0 ∷ []) _ _ 0 _ _ a.out.now _ _ refl (placed_one p.lay p.width a.q.0 _ 0 a.out.now _ refl c.put.ensures) c.subdivide-n.ensures
