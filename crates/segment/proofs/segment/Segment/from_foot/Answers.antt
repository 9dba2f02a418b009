-- `segment::segment::Segment::from_foot` meets its contract: the definition's operations, coordinate by coordinate. Assumes nothing.
use Rattle.segment.specs.Segment.{off_foot}
use Rattle.segment.proofs.Saved.{start-is, chord-is}
use Rattle.segment.proofs.segment.Segment.from_foot.Goals as goal

pub returns : goal.returns
unfolding off_foot
returns g c = λ a b q l e.
    let off = c.minus-off.ensures _ _ e (c.beyond.ensures _ _ (start-is l) (chord-is l)) in
    c.dot.ensures _ _ off off
