-- `flatten::flatten::draw_quarters` meets its contract: the Lines of the first quarter, and behind them those of the rest. The measure is the number of quarter turns left. Assumes nothing.
use native.Mathlib.Omega.{arith}
use Rattle.flatten.proofs.Passes.{ray_to, ray_len, same-placed, both-low, last-quarter, more_quarters}
use Rattle.flatten.proofs.flatten.+draw_quarters.Goals as goal

pub returns-then-k-eq0 : goal.returns-then-k-eq0
returns-then-k-eq0 t c = let a = c.args in
    let f = c.draw_part.ensures.few in record { lines = same-placed a.g.center a.at a.kinds.now a.nums.now _ _ _ _ _ (last-quarter a.clockwise a.g.radius a.g.limit a.k a.u.to a.w.to c.if-k-eq0.true) c.draw_part.ensures.lines; few = (omega (arith, f), omega (arith, f)) }

pub draw_part-n-requires : goal.draw_part-n-requires
draw_part-n-requires t c = let h = c.if-k-eq0.false in
    let p = c.requires in
    (p.0, ray_len _ _ c.turn-v.ensures, omega (arith, p.2, h), omega (arith, p.3, h))

pub draw_quarters-j-requires : goal.draw_quarters-j-requires
draw_quarters-j-requires t c = let h = c.if-k-eq0.false in
    let p = c.requires in
    let f = c.draw_part-n.ensures.few in
    let k = c.draw_part-n.auto.kinds in
    let l = c.draw_part-n.auto.nums in
    (omega (arith, h), (ray_len _ _ c.turn-v.ensures, p.1, omega (arith, p.2, h, f, k), omega (arith, p.3, h, f, l)))

pub returns : goal.returns
returns t c = let a = c.args in
    let h = c.if-k-eq0.false in
    let f = c.draw_part-n.ensures.few in
    let g = c.draw_quarters-j.ensures.few in record {
      lines = both-low a.g.center a.at a.kinds.now a.nums.now _ _ _ _ _ _ _ _ _
          (more_quarters a.clockwise a.g.radius a.g.limit a.k a.u.to a.w.to _ (ray_to _ _ c.turn-v.ensures) h)
          c.draw_part-n.ensures.lines c.draw_quarters-j.ensures.lines;
      few = (omega (arith, f, g), omega (arith, h, f, g));
    }
