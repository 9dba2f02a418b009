-- `fit_cubic::fit_cubic::Pairs::sum_chords` meets its contract: the loop's invariant is that the lengths before i are filled in. The measure is n - i. Assumes nothing.
use Rattle.std.proofs.Common.{◌≡◌, ℕ, ◌/◌, length, refl, ap, ◌∙◌, subst, arith}
use lib.ListN.{length-set}
use lib.Ieee.{Float, binary64, add}
use Rattle.geo.specs.Lent.{pair_at}
use Rattle.fit_cubic.specs.FitCubic.{Chords}
use Rattle.fit_cubic.proofs.Chords.{filling_start, filling_step}
use Rattle.fit_cubic.proofs.fit_cubic.Pairs.sum_chords.Goals as goal

pub loop-i-init : goal.loop-i-init
loop-i-init c = (filling_start (pair_at c.args.self.nums.now) c.len-n.result c.args.chords.now (omega arith) c.requires.starts_at_zero, omega arith, refl)

pub loop-i-preserved : goal.loop-i-preserved
loop-i-preserved c = let p = c.args.self.nums.now in
    let v = c.loop-i.invariant in
    (filling_step (pair_at p) c.len-n.result c.loop-i.chords c.loop-i.last _ c.loop-i.i c.loop-i-test.true v.0 (ap (λ (d : Float). add binary64 c.loop-i.last d) (c.get_distance-last.ensures ∙ rw (c.at.ensures, c.at-in-loop-i.ensures))), omega arith, simp length-set v.2)

pub returns : goal.returns
returns c = let v = c.loop-i.invariant in
    let e : c.loop-i.i ≡ length c.args.self.nums.now / 2 = omega arith in
    subst (λ (k : ℕ). Chords (pair_at c.args.self.nums.now) k c.loop-i.chords) e v.0.so_far
