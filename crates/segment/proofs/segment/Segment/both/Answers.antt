-- `segment::segment::Segment::both` meets its contract: two feet strictly inside, else each point by itself. Assumes nothing.
use mathlib.Core.Path.{sym, ◌∙◌}
use Rattle.segment.proofs.Saved.{inside, tests_of}
use Rattle.segment.proofs.segment.Segment.both.Goals as goal

pub returns-then-is_inside-2 : goal.returns-then-is_inside-2
returns-then-is_inside-2 g c = λ a b l.
    let s = tests_of _ _ _ (sym c.if-is_inside.true ∙ c.is_inside.ensures) in
    let t = tests_of _ _ _ (sym c.if-is_inside-2.true ∙ c.is_inside-then-is_inside.ensures) in (
      inside l c.args.p s.0 (c.along-s.ensures a b _ l c.of-v.ensures.made) s.1 s.2 (c.from_foot.ensures a b _ l c.of-v.ensures.made) ∙ sym (g.met.V.Coordinates.measured a b c.args.p),
      inside l c.args.q t.0 (c.along-t.ensures a b _ l c.of-w.ensures.made) t.1 t.2 (c.from_foot-then-is_inside-2.ensures a b _ l c.of-w.ensures.made) ∙ sym (g.met.V.Coordinates.measured a b c.args.q),
    )
