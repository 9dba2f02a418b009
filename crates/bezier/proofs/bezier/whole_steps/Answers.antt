-- `bezier::bezier::whole_steps` meets its contract: a float from -1 to 800 is cut to a whole number exactly. Assumes nothing.
use Rattle.std.proofs.Common.{ℕ, ◌≤◌, sym, subst}
use Rattle.bezier.proofs.Count.{steps_small}
use Rattle.bezier.proofs.bezier.whole_steps.Goals as goal

pub returns : goal.returns
returns c = let s = c in
    (c.truncating_f64_to_u64.ensures, subst (λ (n : ℕ). n ≤ 800) (sym c.truncating_f64_to_u64.ensures) (steps_small s.args.needed s.requires.above_minus_one s.requires.at_most_all).1)
