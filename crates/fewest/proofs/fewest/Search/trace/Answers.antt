-- `fewest::fewest::Search::trace` meets its contract: the ends from the k-th on are written, and the parents before lead to the rest. Assumes nothing.
use mathlib.Core.Path.{sym, ◌∙◌}
use native.Mathlib.Omega.{arith}
use Rattle.fewest.specs.Search.{parents}
use Rattle.fewest.proofs.Search.{parent-at}
use Rattle.fewest.proofs.Trace.{trace_start, trace_next, trace_done}
use Rattle.fewest.proofs.fewest.Search.trace.Goals as goal

pub loop-k-init : goal.loop-k-init
loop-k-init c = let a = c.args in let t = a.self.now.task in (omega arith, trace_start t.points.now (parents a.self.now.reached) a.out.now a.count t.last)

pub loop-k-preserved : goal.loop-k-preserved
loop-k-preserved c = let a = c.args in let l = c.loop-k in let s = a.self.now in
    let e = c.from-v.ensures ∙ sym (parent-at s.reached l.v) in
    let t = trace_next s.task.points.now (parents s.reached) a.out.now _ l.out _ l.k l.v l.invariant.1 c.loop-k-test.true (rw c.point_at.ensures at c.put_point.ensures) in
    (omega (arith, e, c.requires.1 l.v), rw e t)

pub returns : goal.returns
returns c = let a = c.args in let s = a.self.now in trace_done s.task.points.now (parents s.reached) a.out.now _ _ _ _ c.loop-k.invariant.1 c.loop-k-test.false
