-- `farthest::farthest::farthest_from_line` meets its contract. The invariant: the search is off the chord of the two ends, and the items left, searched from the best so far, end where the whole search ends. The measure is how many are left. Assumes nothing.
use mathlib.Core.Path.{ap, ◌∙◌}
use Rattle.farthest.proofs.Scan.{onward-start, onward_turn, onward_past, onward-done, by_end, by_none}
use Rattle.farthest.proofs.farthest.farthest_from_line.Goals as goal
use Rattle.farthest.proofs.farthest.farthest_from_line.Goals.{in-Some, in_default}

pub loop-i-init : goal.loop-i-init
loop-i-init g c = let a = c.args in
    let e = g.T.Ends in (
      c.new-search.ensures.0 ∙ c.new-chord.ensures ∙ rw (c.end.ensures.is, c.end-2.ensures.is),
      onward-start e.measure (e.item a.track) a.start a.end _ c.new-search.ensures.1,
    )

pub loop-i-preserved : goal.loop-i-preserved
loop-i-preserved g c = let a = c.args in
    let e = g.T.Ends in
    let v = c.loop-i.invariant in
    elim c.match-candidate.branch [
      | in-Some w ↦ (ap (λ s. s.chord) w.search-is ∙ w.look-search.ensures.0 ∙ v.0, onward_turn e.measure (e.item a.track) a.start a.end _ _ _ _ c.loop-i-test.true (by_end e.measure e.end_of e.candidate_of g.met.T.Ends.measured _ _ _ v.0 _ c.candidate.ensures _ w.in-Some.is) (ap (λ s. s.best) w.search-is ∙ w.look-search.ensures.1) v.1)
      | in_default w ↦ (ap (λ s. s.chord) w.search-is ∙ v.0, onward_past e.measure (e.item a.track) a.start a.end _ _ _ c.loop-i-test.true (by_none e.measure e.end_of e.candidate_of g.met.T.Ends.measured _ _ _ _ c.candidate.ensures w.in_default.is) c.loop-i.search.sound.positive (ap (λ s. s.best) w.search-is) v.1)
    ]

pub returns : goal.returns
returns g c = let a = c.args in
    onward-done g.T.Ends.measure (g.T.Ends.item a.track) a.start a.end _ _ c.loop-i-test.false c.loop-i.invariant.1
