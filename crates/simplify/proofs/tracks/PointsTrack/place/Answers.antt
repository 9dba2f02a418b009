-- `Points::place` meets its contract: one point more at the output's front. Assumes nothing.
use Prim.Native.Nat.{◌*◌}
use mathlib.Core.List.{List}
use lib.Ieee.{Float}
use lib.Seq.{sets}
use mathlib.Core.Path.{ap, ◌∙◌}
use Rattle.simplify.specs.Placed.{one_placed}
use Rattle.simplify.proofs.tracks.PointsTrack.place.Goals as goal

pub returns : goal.returns
returns g c = λ s xs w h. let a = c.args in
    let e = c.read.ensures ∙ ap (λ (l : List Float). g.P.Form.form.read l a.from) w.0 in
    (w.0, w.1, one_placed g.P.Form.form.lay g.P.Form.WIDTH g.met.P.Form.wide.each _ _ _ xs _ a.to w.2 h (c.write.ensures ∙ ap (λ q. sets a.self.now.out.now (g.P.Form.WIDTH * a.to) (g.P.Form.form.lay q)) e))
