-- `flatten::flatten::draw_part` meets its contract: one Line where no halving is left or the part is flat, else those of its two halves, one behind the other. The measure is the number of halvings left. Assumes nothing.
use mathlib.Core.Path.{◌∙◌}
use native.Mathlib.Omega.{arith}
use lib.Pow.{pow_pos}
use Rattle.flatten.proofs.Passes.{bulge-is, ray_to, ray_len, half_power, none_left, stays_whole, is_cut, whole-placed, both-low}
use Rattle.flatten.proofs.flatten.+draw_part.Goals as goal

pub returns-then-left-eq0 : goal.returns-then-left-eq0
returns-then-left-eq0 t c = let a = c.args in record { lines = whole-placed a.g.center a.at a.kinds.now a.nums.now _ a.u.to a.w.to _ _ (none_left a.g.radius a.g.limit a.left a.u.to a.w.to c.if-left-eq0.true) c.put_line.ensures; few = (omega arith, omega (arith, pow_pos a.left)) }

pub returns-then-bulge_of-g : goal.returns-then-bulge_of-g
returns-then-bulge_of-g t c = let a = c.args in
    let e = c.bulge_of.ensures ∙ bulge-is a.g.radius a.u a.w c.requires.0 c.requires.1 in record { lines = whole-placed a.g.center a.at a.kinds.now a.nums.now _ a.u.to a.w.to _ _ (stays_whole a.g.radius a.g.limit a.left a.u.to a.w.to _ e c.if-bulge_of-g.true) c.put_line-then-bulge_of-g.ensures; few = (omega arith, omega (arith, pow_pos a.left)) }

pub draw_part-n-requires : goal.draw_part-n-requires
draw_part-n-requires t c = let h = c.if-left-eq0.false in
    let p = c.requires in
    let q = half_power c.args.left h in
    (omega (arith, h), (p.0, ray_len _ _ c.halfway-v.ensures, omega (arith, p.2, q), omega (arith, p.3, q)))

pub overflow_add-at : goal.overflow_add-at
overflow_add-at t c = let h = c.if-left-eq0.false in
    omega (arith, c, half_power c.args.left h, c.draw_part-n.ensures.few)

pub draw_part-k-requires : goal.draw_part-k-requires
draw_part-k-requires t c = let h = c.if-left-eq0.false in
    let p = c.requires in
    let q = half_power c.args.left h in
    let k = c.draw_part-n.auto.kinds in
    let l = c.draw_part-n.auto.nums in
    let f = c.draw_part-n.ensures.few in
    (omega (arith, h), (ray_len _ _ c.halfway-v.ensures, p.1, omega (arith, p.2, q, f, k), omega (arith, p.3, q, f, l)))

pub overflow_add-result : goal.overflow_add-result
overflow_add-result t c = let h = c.if-left-eq0.false in
    omega (arith, c, half_power c.args.left h, c.draw_part-n.ensures.few, c.draw_part-k.ensures.few)

pub returns : goal.returns
returns t c = let a = c.args in
    let h = c.if-left-eq0.false in
    let q = half_power a.left h in
    let f = c.draw_part-n.ensures.few in
    let g = c.draw_part-k.ensures.few in
    let e = c.bulge_of.ensures ∙ bulge-is a.g.radius a.u a.w c.requires.0 c.requires.1 in record {
      lines = both-low a.g.center a.at a.kinds.now a.nums.now _ _ _ _ _ _ _ _ _
          (is_cut a.g.radius a.g.limit a.left a.u.to a.w.to _ _ e (ray_to _ _ c.halfway-v.ensures) h c.if-bulge_of-g.false)
          c.draw_part-n.ensures.lines c.draw_part-k.ensures.lines;
      few = (omega (arith, f, g), omega (arith, q, f, g));
    }
