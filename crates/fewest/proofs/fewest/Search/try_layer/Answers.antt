-- `fewest::fewest::Search::try_layer` meets its contract: the points left from u on give the whole. Assumes nothing.
use Prim.Native.Nat.{◌+◌}
use native.Mathlib.Omega.{arith}
use Rattle.ways.proofs.Steps.{points-steady}
use Rattle.ways.proofs.Told.{stopped, goes_on}
use Rattle.fewest.specs.Search.{test_of, point_of}
use Rattle.fewest.proofs.Search.{walk_start, walk_on, walk_next, walk_stop, walk_done}
use Rattle.fewest.proofs.fewest.Search.try_layer.Goals as goal

pub loop-u-init : goal.loop-u-init
loop-u-init c = let a = c.args in
    walk_start (λ t. point_of t) (λ t. t.last + 1) 0 (a.self.now.task.last + 1) a.self.now c.requires (omega arith)

pub try_point-requires : goal.try_point-requires
try_point-requires c = let a = c.args in let w = c.loop-u.invariant in
    (rw w.task (omega (arith, c.loop-u-test.true)), walk_on (λ t. point_of t) (λ t. t.last + 1) 0 (a.self.now.task.last + 1) a.self.now c.requires _ _ w)

pub returns-then-ne : goal.returns-then-ne
returns-then-ne c = let a = c.args in let t = a.self.now.task in
    walk_stop (λ t. point_of t) (λ t. t.last + 1) 0 (a.self.now.task.last + 1) a.self.now c.requires _ _ c.loop-u.invariant
    (points-steady (test_of t) t.last t.budget) _ (omega (arith, c.loop-u-test.true)) c.try_point.ensures (stopped _ _ c.ne.ensures c.if-ne.true)

pub loop-u-preserved : goal.loop-u-preserved
loop-u-preserved c = let a = c.args in let t = a.self.now.task in
    walk_next (λ t. point_of t) (λ t. t.last + 1) 0 (a.self.now.task.last + 1) a.self.now c.requires _ _ c.loop-u.invariant
    (points-steady (test_of t) t.last t.budget) _ (omega (arith, c.loop-u-test.true)) c.try_point.ensures (goes_on _ _ c.ne.ensures c.if-ne.false)

pub returns : goal.returns
returns c = let a = c.args in
    walk_done (λ t. point_of t) (λ t. t.last + 1) 0 (a.self.now.task.last + 1) a.self.now c.requires _ _ c.loop-u.invariant (omega (arith, c.loop-u-test.false))
