-- `fit_cubic::fit_cubic::Pairs::curve` meets its contract: by the tests on the number of points and on the whole length. Assumes nothing.
use Rattle.std.proofs.Common.{◌-◌, arith}
use Rattle.geo.specs.Lent.{pair_at}
use Rattle.fit_cubic.proofs.Chords.{fitted_none, fitted-two, fitted_short, fitted-solved}
use Rattle.fit_cubic.proofs.fit_cubic.Pairs.curve.Goals as goal

pub returns-then-n-lt2 : goal.returns-then-n-lt2
returns-then-n-lt2 c = fitted_none _ _ (omega arith)

pub returns-then-n-eq2 : goal.returns-then-n-eq2
returns-then-n-eq2 c = rw (c.at-p0.ensures, c.at-p3.ensures, c.len-n.ensures) (fitted-two _ _ (omega arith) (omega arith))

pub returns-then-chords-n : goal.returns-then-chords-n
returns-then-chords-n c =
    rw (c.at-p0.ensures, c.at-p3.ensures, ← c.len-n.ensures) (fitted_short _ _ c.if-n-lt2.false c.if-n-eq2.false _ (c.sum_chords.ensures.at_each (c.len-n.result - 1) (omega arith)) c.if-chords-n.true)

pub returns : goal.returns
returns c =
    rw (c.solve.ensures, c.at-p0.ensures, c.at-p3.ensures, c.sum_up-s.ensures, ← c.len-n.ensures)
    (fitted-solved (pair_at c.args.self.nums.now) c.len-n.result c.if-n-lt2.false c.if-n-eq2.false _ (c.sum_chords.ensures.at_each (c.len-n.result - 1) (omega arith)) c.if-chords-n.false)
