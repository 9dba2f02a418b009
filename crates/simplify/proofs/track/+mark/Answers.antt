-- `track::mark` meets its contract: a cut lies strictly inside its range, so that both ranges beside it are shorter; left, cut and right together are what the range keeps. The measure is hi - lo. Assumes nothing.
use mathlib.Core.Path.{sym, ◌∙◌}
use native.Mathlib.Omega.{arith}
use lib.ListN.{length-set}
use Rattle.simplify.proofs.Kept.{found_inside}
use Rattle.simplify.proofs.Flags.{mark-cut, mark-none}
use Rattle.simplify.proofs.track.+mark.Goals as goal

pub mark-requires : goal.mark-requires
mark-requires g t c κs within = let a = c.args in
    let r = found_inside (g.T.Track.measure a.track.now) a.limit c.requires.0 (g.T.Track.item a.track.now) a.lo a.hi _ c.farthest-w.ensures (sym c.cuts.ensures ∙ c.if-cuts.true) in
    (omega (arith, r, c.requires, c.decreases), (within.0, (within.1, (c.requires.0, omega (arith, r, c.requires)))))

pub bounds-keep-k : goal.bounds-keep-k
bounds-keep-k g t c = let a = c.args in
    let r = found_inside (g.T.Track.measure a.track.now) a.limit c.requires.0 (g.T.Track.item a.track.now) a.lo a.hi _ c.farthest-w.ensures (sym c.cuts.ensures ∙ c.if-cuts.true) in
    omega (arith, r, c.requires, c.mark.auto.keep)

pub mark-requires-then-cuts : goal.mark-requires-then-cuts
mark-requires-then-cuts g t c κs within = let a = c.args in
    let r = found_inside (g.T.Track.measure a.track.now) a.limit c.requires.0 (g.T.Track.item a.track.now) a.lo a.hi _ c.farthest-w.ensures (sym c.cuts.ensures ∙ c.if-cuts.true) in
    (omega (arith, r, c.requires, c.decreases), (within.0, (within.1, (c.requires.0, simp length-set (omega (arith, r, c.requires, c.mark.auto.keep))))))

pub returns-then-cuts : goal.returns-then-cuts
returns-then-cuts g t c = let a = c.args in
    mark-cut (g.T.Track.measure a.track.now) a.limit c.requires.0 (g.T.Track.item a.track.now) a.lo a.hi _ c.farthest-w.ensures _ _ _ (sym c.cuts.ensures ∙ c.if-cuts.true) c.mark.ensures c.mark-then-cuts.ensures

pub returns-else-cuts : goal.returns-else-cuts
returns-else-cuts g t c = let a = c.args in
    mark-none (g.T.Track.measure a.track.now) a.limit c.requires.0 (g.T.Track.item a.track.now) a.lo a.hi _ c.farthest-w.ensures _ (sym c.cuts.ensures ∙ c.if-cuts.false)
