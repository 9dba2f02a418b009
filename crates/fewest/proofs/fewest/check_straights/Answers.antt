-- `fewest::fewest::check_straights` meets its contract: an accepted tolerance lies above 0. Assumes nothing.
use mathlib.Core.Path.{sym, ◌∙◌}
use Rattle.geo.proofs.Tolerance.{tolerance-positive}
use Rattle.fewest.proofs.fewest.check_straights.Goals as goal

pub invariant_of-result-clause-positive : goal.invariant_of-result-clause-positive
invariant_of-result-clause-positive c = tolerance-positive c.args.tolerance (sym c.is_tolerance.ensures ∙ c.if-not-is_tolerance.false)
