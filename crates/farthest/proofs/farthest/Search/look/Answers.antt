-- `farthest::farthest::Search::look` meets its contract: a point whose spread is not above the top is no farther than the best, since division keeps the order. Assumes nothing.
use mathlib.Core.Path.{refl}
use Rattle.farthest.proofs.Search.{look_past, look_at, sound_at}
use Rattle.farthest.proofs.farthest.Search.look.Goals as goal

pub invariant_of-result : goal.invariant_of-result
invariant_of-result c = let s = c.args.self in
    record { sound = sound_at s.chord s.top s.best s.sound c.args.p c.args.i _ c.spread-spread.ensures _ _ c.if-spread-self.true c.distance_squared.ensures c.or-best.ensures }

pub returns-then-spread-self : goal.returns-then-spread-self
returns-then-spread-self c = let s = c.args.self in
    (refl, look_at s.chord s.top s.best s.sound c.args.p c.args.i _ c.spread-spread.ensures _ _ c.if-spread-self.true c.distance_squared.ensures c.or-best.ensures)

pub returns : goal.returns
returns c = let s = c.args.self in
    (refl, look_past s.chord s.top s.best s.sound c.args.p c.args.i _ c.spread-spread.ensures c.if-spread-self.false)
