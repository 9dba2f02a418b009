-- `InPlace::place` meets its contract: one point more at the front. Assumes nothing.
use Prim.Native.Nat.{◌*◌}
use mathlib.Core.Path.{refl, ap, ◌∙◌}
use native.Mathlib.Omega.{arith}
use lib.Seq.{sets}
use Rattle.geo.specs.declared.types.Point3D.{Point3D}
use Rattle.geo.specs.Lent.{triple}
use Rattle.simplify.specs.Placed.{one_placed, placed_ahead}
use Rattle.simplify.proofs.tracks.InPlaceTrack.place.Goals as goal

pub returns : goal.returns
returns c = λ s xs w h. let a = c.args in
    let l = a.self.now.points.now in
    let e = placed_ahead s.points.now l xs w.1 a.from (omega arith) in
    (w.0, one_placed triple 3 (λ p. refl) s.points.now l _ xs _ a.to w.1 h (c.move_point.ensures ∙ ap (λ (q : Point3D). sets l (3 * a.to) (triple q)) e))
