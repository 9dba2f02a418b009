-- `live::live::Live::push` meets its contract: by the two tests, each return is the definition's (Pushing). Assumes nothing.
use Prim.Native.Nat.{◌-◌}
use mathlib.Core.Path.{◌≡◌, subst}
use Rattle.live.specs.declared.live.Live.{Live}
use Rattle.live.specs.Thinner.{slot, cutting}
use Rattle.live.proofs.Pushing.{longer_few, longer_two, push_full, push_longer, push-cut_off, let_go}
use Rattle.live.proofs.live.Live.push.Goals as goal

pub returns-then-self-ge-SLOTS : goal.returns-then-self-ge-SLOTS
returns-then-self-ge-SLOTS c = push_full c.args.self.now c.args.p c.if-self-ge-SLOTS.true _ _ c.cut.ensures

pub goes_on-requires : goal.goes_on-requires
goes_on-requires c = longer_few c.args.self.now c.args.p _ c.if-self-ge-SLOTS.false c.hold.ensures

pub returns-then-goes_on : goal.returns-then-goes_on
returns-then-goes_on c = push_longer c.args.self.now c.args.p _ _ c.if-self-ge-SLOTS.false c.hold.ensures c.goes_on.ensures c.if-goes_on.true

pub cut-requires-2 : goal.cut-requires-2
cut-requires-2 c = (longer_two c.args.self.now c.args.p _ _ c.if-self-ge-SLOTS.false c.hold.ensures c.goes_on.ensures c.if-goes_on.false, c.requires)

pub returns : goal.returns
returns c = let a = c.args in
    push-cut_off a.self.now a.p _ _ c.if-self-ge-SLOTS.false c.hold.ensures c.goes_on.ensures c.if-goes_on.false _ _
    (subst (λ (t : Live). (c.cut-2.result ≡ slot t (t.count - 1)) × (c.cut-2.new.self ≡ cutting t a.p)) (let_go a.self.now a.p _ _ _ c.hold.ensures c.point_at-free.ensures c.put_point.ensures) c.cut-2.ensures)
