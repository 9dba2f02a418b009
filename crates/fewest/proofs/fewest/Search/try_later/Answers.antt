-- `fewest::fewest::Search::try_later` meets its contract: the pairs left from v on give the whole. Assumes nothing.
use Prim.Native.Nat.{◌+◌, ◌-◌}
use native.Mathlib.Omega.{arith}
use Rattle.ways.proofs.Steps.{pairs-steady}
use Rattle.ways.proofs.Told.{stopped, goes_on}
use Rattle.fewest.specs.Search.{test_of, pair_of}
use Rattle.fewest.proofs.Search.{walk_start, walk_on, walk_next, walk_stop, walk_done}
use Rattle.fewest.proofs.fewest.Search.try_later.Goals as goal

pub loop-v-init : goal.loop-v-init
loop-v-init c = let a = c.args in
    walk_start (λ t. pair_of t a.u) (λ t. t.last - a.u) (a.u + 1) (a.self.now.task.last + 1) a.self.now c.requires.1 (omega (arith, c.requires.0))

pub try_pair-requires : goal.try_pair-requires
try_pair-requires c = let a = c.args in let w = c.loop-v.invariant in
    (omega arith, rw w.task (omega (arith, c.loop-v-test.true)), walk_on (λ t. pair_of t a.u) (λ t. t.last - a.u) (a.u + 1) (a.self.now.task.last + 1) a.self.now c.requires.1 _ _ w)

pub returns-then-ne : goal.returns-then-ne
returns-then-ne c = let a = c.args in let t = a.self.now.task in
    walk_stop (λ t. pair_of t a.u) (λ t. t.last - a.u) (a.u + 1) (a.self.now.task.last + 1) a.self.now c.requires.1 _ _ c.loop-v.invariant
    (pairs-steady (test_of t) t.last t.budget a.u) _ (omega (arith, c.loop-v-test.true)) c.try_pair.ensures (stopped _ _ c.ne.ensures c.if-ne.true)

pub loop-v-preserved : goal.loop-v-preserved
loop-v-preserved c = let a = c.args in let t = a.self.now.task in
    walk_next (λ t. pair_of t a.u) (λ t. t.last - a.u) (a.u + 1) (a.self.now.task.last + 1) a.self.now c.requires.1 _ _ c.loop-v.invariant
    (pairs-steady (test_of t) t.last t.budget a.u) _ (omega (arith, c.loop-v-test.true)) c.try_pair.ensures (goes_on _ _ c.ne.ensures c.if-ne.false)

pub returns : goal.returns
returns c = let a = c.args in
    walk_done (λ t. pair_of t a.u) (λ t. t.last - a.u) (a.u + 1) (a.self.now.task.last + 1) a.self.now c.requires.1 _ _ c.loop-v.invariant (omega (arith, c.loop-v-test.false))
