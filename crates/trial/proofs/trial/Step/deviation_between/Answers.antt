-- `trial::trial::Step::deviation_between` meets its contract: of a step that is not short and no longer than the radius, the squares decide both tests on its length. Assumes nothing.
use mathlib.Core.Path.{sym, subst}
use lib.Dec.{T}
use lib.Ieee.{binary64, fits}
use Rattle.geo.specs.Vector.{length_of}
use Rattle.trial.proofs.Squares.{step_inside}
use Rattle.trial.proofs.trial.Step.deviation_between.Goals as goal
use Rattle.trial.proofs.trial.Step.deviation_between.Goals.{Start}

pub returns : goal.returns
unfolding length_of
returns c = rw (c.deviation.ensures, c.sqrt.ensures.value)

-- what owning an `f64` tells: the format holds it
held : (c : Start) → T (fits binary64 c.args.square)
held c = subst T (sym c.well_formed.1.1.1.0.1) tt

pub returns-then-l-square : goal.returns-then-l-square
returns-then-l-square c =
    let a = c.args in
    rw (c.max.ensures, c.sagitta.ensures, c.ends_off.ensures)
    (sym (step_inside _ _ a.square a.self.r a.self.s a.self.t (held (goal.at.returns-then-l-square c).Start) c.requires c.if-l.true c.if-l-square.true))
