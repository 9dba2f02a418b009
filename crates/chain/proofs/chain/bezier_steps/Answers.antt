-- `chain::chain::bezier_steps` meets its contract: a count of at most 800 as a float is the whole number; one that is not is above 800. Assumes nothing.
use Rattle.chain.proofs.Steps.{needed_above, few-steps, over-steps}
use Rattle.chain.proofs.chain.bezier_steps.Goals as goal

pub whole_steps-requires : goal.whole_steps-requires
whole_steps-requires c = record { above_minus_one = needed_above c.args.q c.args.resolution _ c.steps_needed-needed.ensures; at_most_all = c.if-needed.true }

pub returns-then-needed : goal.returns-then-needed
returns-then-needed c = few-steps c.args.q c.args.resolution _ c.steps_needed-needed.ensures _ c.whole_steps.ensures.0 c.whole_steps.ensures.1

pub returns : goal.returns
returns c = over-steps c.args.q c.args.resolution _ c.steps_needed-needed.ensures c.if-needed.false
