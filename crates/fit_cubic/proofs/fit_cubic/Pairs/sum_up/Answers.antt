-- `fit_cubic::fit_cubic::Pairs::sum_up` meets its contract: the loop's invariant is that the points left decide the whole sum. The measure is how many are left. Assumes nothing.
use Rattle.std.proofs.Common.{◌≡◌, ◌-◌, ap, ◌∙◌, arith}
use Rattle.geo.specs.Lent.{pair_at}
use Rattle.geo.proofs.Walk.{fold_turn, fold_done}
use Rattle.fit_cubic.specs.FitCubic.{cubic_sums}
use Rattle.fit_cubic.proofs.Chords.{zero_sums, turn}
use Rattle.fit_cubic.proofs.fit_cubic.Pairs.sum_up.Goals as goal

pub loop-j-init : goal.loop-j-init
unfolding cubic_sums
loop-j-init c = let e : c.len-n.result - 0 ≡ c.len-n.result = omega arith in
    let d = c.default-s.ensures in let z = zero_sums c.default-s.result d.0 d.1.0 d.1.1.0 d.1.1.1.0 d.1.1.1.1.0 d.1.1.1.1.1.0 d.1.1.1.1.1.1 in rw (e, z)

pub loop-j-preserved : goal.loop-j-preserved
loop-j-preserved c = let a = c.args in
    let chords = c.requires.filled.at_each in
    fold_turn (turn (pair_at a.self.nums.now) c.len-n.result) c.len-n.result _ _ _ _ c.loop-j-test.true (c.add-s.ensures ∙ rw (c.at-p0.ensures, c.at-p3.ensures, c.at.ensures, chords c.loop-j.j (omega arith), chords (c.len-n.result - 1) (omega arith))) c.loop-j.invariant

pub returns : goal.returns
returns c = fold_done _ c.len-n.result _ _ _ c.loop-j-test.false c.loop-j.invariant ∙ ap (cubic_sums (pair_at c.args.self.nums.now)) c.len-n.ensures
