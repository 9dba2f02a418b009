-- `trial::trial::Step::strays` meets its contract: of a step that is not short the end decides, and of a short one it says nothing. Assumes nothing.
use mathlib.Core.Path.{sym, ap, ◌∙◌}
use lib.Ieee.{Float, le}
use Rattle.trial.proofs.Squares.{end_decides}
use Rattle.trial.proofs.trial.Step.strays.Goals as goal

pub returns-then-dx-dy : goal.returns-then-dx-dy
returns-then-dx-dy c = λ h. let a = c.args in end_decides _ _ a.self.r a.tolerance a.self.s a.self.t c.if-dx-dy.true (ap (λ (x : Float). le a.tolerance x) (sym c.abs.ensures) ∙ h)
