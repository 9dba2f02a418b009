-- `segment::segment::Segment::distance_squared` meets its contract: each return is the measure, by the tests that led there. Assumes nothing.
use mathlib.Core.Path.{sym, ◌∙◌}
use Rattle.segment.specs.Segment.{parameter_of}
use Rattle.segment.proofs.Saved.{start-is, chord-is, end-is, on-start, inside, past, before, nowhere}
use Rattle.segment.proofs.segment.Segment.distance_squared.Goals as goal

pub returns-then-self : goal.returns-then-self
returns-then-self g c = λ a b l.
    let off = c.minus-off.ensures _ _ c.of-p.ensures.made (start-is l) in
    on-start l c.args.p c.if-self.true (c.dot.ensures _ _ off off) ∙ sym (g.met.V.Coordinates.measured a b c.args.p)

pub returns-then-along-self-2 : goal.returns-then-along-self-2
returns-then-along-self-2 g c = λ a b l.
    let off = c.minus-off.ensures _ _ c.of-p.ensures.made (start-is l) in
    let along = c.dot-along.ensures _ _ off (chord-is l) in
    inside l c.args.p c.if-self.false along c.if-along-self.true c.if-along-self-2.true (c.from_foot.ensures a b c.args.p l c.of-p.ensures.made)
    ∙ sym (g.met.V.Coordinates.measured a b c.args.p)

pub returns-then-along-self : goal.returns-then-along-self
returns-then-along-self g c = λ a b l.
    let off = c.minus-off.ensures _ _ c.of-p.ensures.made (start-is l) in
    let along = c.dot-along.ensures _ _ off (chord-is l) in
    let beyond = c.minus-off-then-along-self.ensures _ _ c.of-p.ensures.made (end-is l) in
    past l c.args.p c.if-self.false along c.if-along-self.true c.if-along-self-2.false (c.dot-then-along-self.ensures _ _ beyond beyond)
    ∙ sym (g.met.V.Coordinates.measured a b c.args.p)

pub returns-then-along-self-3 : goal.returns-then-along-self-3
returns-then-along-self-3 g c = λ a b l.
    let off = c.minus-off.ensures _ _ c.of-p.ensures.made (start-is l) in
    let along = c.dot-along.ensures _ _ off (chord-is l) in
    before l c.args.p c.if-self.false along c.if-along-self.false c.if-along-self-3.true (c.dot-then-along-self-3.ensures _ _ off off)
    ∙ sym (g.met.V.Coordinates.measured a b c.args.p)

pub returns : goal.returns
unfolding parameter_of
returns g c = λ a b l.
    let off = c.minus-off.ensures _ _ c.of-p.ensures.made (start-is l) in
    let along = c.dot-along.ensures _ _ off (chord-is l) in
    nowhere l c.args.p c.if-self.false along c.if-along-self.false c.if-along-self-3.false
    (c.from_foot-2.ensures a b c.args.p l c.of-p.ensures.made ∙ rw c.clamp.ensures)
    ∙ sym (g.met.V.Coordinates.measured a b c.args.p)
