-- `fewest::fewest::Task::cut` meets its contract: a cut lies strictly inside its range, so that both parts are shorter, and the left leaves room for the right. The measure is hi - lo. Assumes nothing.
use mathlib.Core.Path.{refl}
use native.Mathlib.Omega.{arith}
use Rattle.geo.proofs.Placed.{placed_one, placed-both}
use Rattle.fewest.specs.Straights.{numbers_at}
use Rattle.fewest.proofs.Cut.{parted, cut-none, cut-two}
use Rattle.fewest.proofs.fewest.Task.+cut.Goals as goal

pub returns-then-w-self : goal.returns-then-w-self
returns-then-w-self t c = let a = c.args in let s = a.self.now in
    placed_one (numbers_at s.points.now) 3 a.hi _ a.at a.out.now _ (cut-none s.points.now s.tolerance s.positive a.lo a.hi c.requires.0 _ c.line_deviation-w.ensures c.if-w-self.true) (rw c.last.ensures at c.put_point.ensures)

pub cut-n-requires : goal.cut-n-requires
cut-n-requires t c = let a = c.args in let s = a.self.now in
    let i = parted s.points.now s.tolerance s.positive a.lo a.hi _ c.line_deviation-w.ensures c.if-w-self.false in
    (omega (arith, i), (i.after, omega (arith, i, c.requires), omega (arith, i, c.requires)))

pub overflow_add-at : goal.overflow_add-at
overflow_add-at t c = let a = c.args in let s = a.self.now in
    let i = parted s.points.now s.tolerance s.positive a.lo a.hi _ c.line_deviation-w.ensures c.if-w-self.false in
    omega (arith, i, c.cut-n.ensures.count, c.requires)

pub cut-m-requires : goal.cut-m-requires
cut-m-requires t c = let a = c.args in let s = a.self.now in
    let i = parted s.points.now s.tolerance s.positive a.lo a.hi _ c.line_deviation-w.ensures c.if-w-self.false in
    (omega (arith, i), (i.before, c.requires.1, omega (arith, i, c.requires, c.cut-n.ensures.count, c.cut-n.auto.out)))

pub overflow_add-result : goal.overflow_add-result
overflow_add-result t c = let a = c.args in let s = a.self.now in
    let i = parted s.points.now s.tolerance s.positive a.lo a.hi _ c.line_deviation-w.ensures c.if-w-self.false in
    omega (arith, i, c.cut-n.ensures.count, c.cut-m.ensures.count, c.requires)

pub returns : goal.returns
returns t c = let a = c.args in let s = a.self.now in
    placed-both (numbers_at s.points.now) 3 (λ k. refl) _ _ _ a.at _ _ a.out.now _ _ (cut-two s.points.now s.tolerance s.positive a.lo a.hi c.requires.0 _ c.line_deviation-w.ensures c.if-w-self.false) c.cut-n.ensures c.cut-m.ensures
