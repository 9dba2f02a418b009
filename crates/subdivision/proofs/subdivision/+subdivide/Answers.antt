-- `subdivision::subdivision::subdivide` meets its contract: one end where it stops, else the left half's ends and the right half's behind them. The measure is the depth. Assumes nothing.
use Rattle.std.proofs.Common.{ℕ, ◌+◌, ◌-◌, ◌*◌, ◌^◌, ◌≤◌, length, sym, subst, arith}
use Rattle.geo.proofs.Placed.{placed_one, placed-both}
use Rattle.subdivision.proofs.Halving.{room, place, parts-few, parts-end, parts-flat, parts_halves, half_power}
use Rattle.subdivision.proofs.subdivision.+subdivide.Goals as goal
use Rattle.subdivision.proofs.subdivision.+subdivide.Goals.{then-depth-eq0-via-then-depth-eq0, then-depth-eq0-via-else-depth-eq0+then-is_flat}

pub returns-then-depth-eq0 : goal.returns-then-depth-eq0
returns-then-depth-eq0 g t c = let a = c.args in
    let p = g.P.Part in
    elim c.then-depth-eq0.branch [
      | then-depth-eq0-via-then-depth-eq0 w ↦ placed_one p.lay p.width a.q.3 _ a.at a.out.now _ (parts-end p.flat p.halved a.depth a.tolerance_sq a.q w.if-depth-eq0.true) c.put.ensures
      | then-depth-eq0-via-else-depth-eq0+then-is_flat w ↦ placed_one p.lay p.width a.q.3 _ a.at a.out.now _ (parts-flat p.flat p.halved a.depth a.tolerance_sq a.q w.if-depth-eq0.false _ w.is_flat.ensures w.if-is_flat.true) c.put.ensures
    ]

pub subdivide-n-requires : goal.subdivide-n-requires
subdivide-n-requires g t c κs within = let a = c.args in
    let h = c.if-depth-eq0.false in
    let e = half_power a.depth h in
    (omega arith, (within, (omega arith, room g.P.Part.width (a.at + 2 ^ (a.depth - 1)) (a.at + 2 ^ a.depth) (length a.out.now) c.requires.1 (omega arith))))

pub overflow_add-at : goal.overflow_add-at
overflow_add-at g t c = let a = c.args in
    let h = c.if-depth-eq0.false in
    let p = place g.P.Part.width (a.at + 2 ^ a.depth) (length a.out.now) g.met.P.Part.some c.requires.1 in
    omega (arith, half_power a.depth h, parts-few g.P.Part.flat g.P.Part.halved _ _ _ c.subdivide-n.ensures)

pub subdivide-m-requires : goal.subdivide-m-requires
subdivide-m-requires g t c κs within = let a = c.args in
    let h = c.if-depth-eq0.false in
    let e = half_power a.depth h in
    let n = parts-few g.P.Part.flat g.P.Part.halved _ _ _ c.subdivide-n.ensures in
    (omega arith, (within, (omega arith, room g.P.Part.width (a.at + c.subdivide-n.result + 2 ^ (a.depth - 1)) (a.at + 2 ^ a.depth) _ (subst (λ (k : ℕ). g.P.Part.width * (a.at + 2 ^ a.depth) ≤ k) (sym c.subdivide-n.auto.out) c.requires.1) (omega arith))))

pub overflow_add-result : goal.overflow_add-result
overflow_add-result g t c = let a = c.args in
    let h = c.if-depth-eq0.false in
    let p = place g.P.Part.width (a.at + 2 ^ a.depth) (length a.out.now) g.met.P.Part.some c.requires.1 in
    omega (arith, half_power a.depth h, parts-few g.P.Part.flat g.P.Part.halved _ _ _ c.subdivide-n.ensures, parts-few g.P.Part.flat g.P.Part.halved _ _ _ c.subdivide-m.ensures)

pub returns : goal.returns
returns g t c = let a = c.args in
    let p = g.P.Part in
    placed-both p.lay p.width g.met.P.Part.as_wide _ _ _ a.at _ _ a.out.now _ _ (parts_halves p.flat p.halved a.depth a.tolerance_sq a.q c.if-depth-eq0.false _ _ c.is_flat.ensures c.if-is_flat.false c.halve-h.ensures) c.subdivide-n.ensures c.subdivide-m.ensures
