-- `ranges::ranges::Sheet::fit_parts` meets its contract: see its invariant. Assumes nothing.
use mathlib.Core.Path.{refl, ◌∙◌}
use native.Mathlib.Omega.{arith}
use Rattle.geo.specs.Lent.{point_at}
use Rattle.pieces.specs.Written.{noted_in}
use Rattle.pieces.proofs.Writing.{progress_done, placed-kinds, placed-numbers}
use Rattle.ranges.proofs.Waiting.{few_ahead, stands-first, progress_first, left-none, turn_stands, turn_progress, turn_less}
use Rattle.ranges.proofs.ranges.Sheet.fit_parts.Goals as goal

pub loop-w-init : goal.loop-w-init
loop-w-init c = let a = c.args in
    let f = a.fit.now in
    let t = f.route in
    let s = a.self.now in (
      stands-first f.rule.rule (point_at t.points.now) t.start t.end a.at a.ends.now f.some,
      progress_first f.rule.rule (point_at t.points.now) t.start t.end a.at a.ends.now s.kinds.now s.nums.now s.notes.now,
      refl,
      record { kinds = refl; nums = refl; notes = refl },
    )

pub fit_next-w-requires : goal.fit_next-w-requires
fit_next-w-requires c = let p = c.requires in
    let a = c.args in
    let t = a.fit.now.route in
    let i = c.loop-w.invariant in
    let b = few_ahead t.start t.end a.at _ _ i.0 in
    let l = i.2 in
    let s = i.0.some c.loop-w-test.true in
    let g = i.0.from in
    let w = i.0.few in
    let k = placed-kinds _ _ _ _ _ _ _ _ _ i.1.wrote in
    let n = placed-numbers _ _ _ _ _ _ _ _ _ i.1.wrote in
    (s, omega (arith, b), omega (arith, p), omega (arith, p), omega (arith, p))

pub loop-w-smaller : goal.loop-w-smaller
loop-w-smaller c = let a = c.args in
    let f = a.fit.now in
    let s = a.self.now in
    let i = c.loop-w.invariant in
    turn_less f.rule.rule f.rule.positive (point_at f.route.points.now) f.route.start f.route.end a.at _ _ _ _ s.kinds.now _ _ s.nums.now _ _ s.notes.now _ _ c.fit_next-w.ensures.looked i.0 c.loop-w-test.true (omega (arith, i.2, c.requires)) f.few

pub loop-w-preserved : goal.loop-w-preserved
loop-w-preserved c = let a = c.args in
    let f = a.fit.now in
    let s = a.self.now in
    let i = c.loop-w.invariant in
    let q = c.fit_next-w.ensures.looked in
    let o = c.fit_next-w.ensures.lent in (
      turn_stands f.rule.rule f.rule.positive (point_at f.route.points.now) f.route.start f.route.end a.at _ _ _ _ s.kinds.now _ _ s.nums.now _ _ s.notes.now _ _ q i.0 c.loop-w-test.true (omega (arith, i.2, c.requires)) f.few,
      turn_progress f.rule.rule f.rule.positive (point_at f.route.points.now) f.route.start f.route.end a.at _ _ _ _ s.kinds.now _ _ s.nums.now _ _ s.notes.now _ _ q i.0 c.loop-w-test.true (omega (arith, i.2, c.requires)) f.few i.1,
      c.fit_next-w.auto.ends ∙ i.2,
      record { kinds = o.kinds ∙ i.3.kinds; nums = o.nums ∙ i.3.nums; notes = o.notes ∙ i.3.notes },
    )

pub returns : goal.returns
returns c = let a = c.args in
    let f = a.fit.now in
    let s = a.self.now in
    let t = f.route in
    let i = c.loop-w.invariant in
    record {
      lent = i.3;
      wrote = progress_done (noted_in f.rule.rule (point_at t.points.now) t.start t.end) _ a.at s.kinds.now s.nums.now s.notes.now _ _ _ _ i.1
          (left-none f.rule.rule (point_at t.points.now) t.start t.end a.at _ _ i.0 c.loop-w-test.false);
    }
