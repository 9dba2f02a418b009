-- `segment::segment::Segment::new` meets its contract: the definition's operations, coordinate by coordinate. Assumes nothing.
use Rattle.segment.proofs.segment.Segment.new.Goals as goal

pub returns : goal.returns
returns g c =
    let start = c.of-start.ensures.made in
    let chord = c.minus-chord.ensures _ _ c.of.ensures.made start in
    let square = c.dot-square.ensures _ _ chord chord in
    record { is = rw (c.plus.ensures _ _ start chord, square, chord, start); held = c.of-start.ensures.held }
