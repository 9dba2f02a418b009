-- `segment::segment::Segment::along` meets its contract: the definition's operations, coordinate by coordinate. Assumes nothing.
use Rattle.segment.proofs.Saved.{start-is, chord-is}
use Rattle.segment.proofs.segment.Segment.along.Goals as goal

pub returns : goal.returns
returns g c = λ a b q l e. c.dot.ensures _ _ (c.minus.ensures _ _ e (start-is l)) (chord-is l)
