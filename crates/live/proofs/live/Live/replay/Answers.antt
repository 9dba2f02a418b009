-- `live::live::Live::replay` meets its contract: the loop's invariant is that what is left to feed, fed from here, gives the whole (Replaying). Assumes nothing.
use Rattle.geo.specs.declared.types.Point3D.{Point3D}
use Rattle.live.specs.Thinner.{Next}
use Rattle.live.specs.Replay.{Pushed}
use Prim.Native.Nat.{◌≤◌}
use mathlib.Core.Path.{◌≡◌, sym, subst}
use native.Mathlib.Omega.{arith}
use borrow.Author.Rules.{rules}
use lib.ListN.{length}
use Rattle.geo.specs.Lent.{point_at}
use Rattle.live.proofs.Counts.{retune-most}
use Rattle.live.proofs.Replaying.{forgotten-few, replaying_start, replaying_room, replaying_turn, replaying_done, replay_whole}
use Rattle.live.proofs.live.Live.replay.Goals as goal

pub loop-i-init : goal.loop-i-init
loop-i-init c = let a = c.args in
    let l : length a.self.now.points ≡ 195 = search rules in
    let e = c.forget.ensures in
    (l, c.requires.0, subst (λ (r : Next). length r.ends ≤ 63) (sym (replay_whole a.self.now a.tolerance _ e)) (retune-most a.self.now a.tolerance c.requires.0), omega arith, replaying_start (point_at a.self.now.points) a.self.now.count a.out.now _ (rw e (forgotten-few a.self.now a.tolerance)))

pub put_end-count-requires : goal.put_end-count-requires
put_end-count-requires c = let w = c.loop-i.invariant in
    replaying_room (point_at c.args.self.now.points) c.args.self.now.count _ _ _ _ _ _ w.4 c.loop-i-test.true w.2 c.requires.1 _ _ (subst (λ (p : Point3D). Pushed c.loop-i.self c.push-end.new.self p c.push-end.result) c.point_at.ensures c.push-end.ensures)

pub loop-i-preserved : goal.loop-i-preserved
loop-i-preserved c = let w = c.loop-i.invariant in
    (w.0, w.1, w.2, omega arith, replaying_turn (point_at c.args.self.now.points) c.args.self.now.count _ _ _ _ _ _ w.4 c.loop-i-test.true _ _ _ _ (subst (λ (p : Point3D). Pushed c.loop-i.self c.push-end.new.self p c.push-end.result) c.point_at.ensures c.push-end.ensures) c.put_end-count.ensures.0 c.put_end-count.ensures.1)

pub returns : goal.returns
returns c = let a = c.args in
    replaying_done (point_at a.self.now.points) a.self.now.count _ _ _ _ _ _ c.loop-i.invariant.4 a.self.now a.tolerance (replay_whole a.self.now a.tolerance _ c.forget.ensures) c.loop-i-test.false
