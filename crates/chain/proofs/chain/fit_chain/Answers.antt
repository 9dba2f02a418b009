-- `chain::chain::fit_chain` meets its contract: a chain with a step is a range of points. Assumes nothing.
use native.Mathlib.Omega.{arith}
use Rattle.pieces.proofs.Writing.{none-noted}
use Rattle.chain.specs.Chains.{flushed_by}
use Rattle.chain.proofs.Chains.{no_steps}
use Rattle.chain.proofs.chain.fit_chain.Goals as goal

pub returns-then-n-lt2 : goal.returns-then-n-lt2
returns-then-n-lt2 c = let a = c.args in none-noted _ (no_steps a.rule.rule a.chain.now c.if-n-lt2.true) a.at a.kinds.now a.nums.now a.steps.now

pub fit_range-requires : goal.fit_range-requires
fit_range-requires c = let p = c.requires in let l = c.if-n-lt2.false in (omega (arith, l), omega (arith, p), omega (arith, p, l), omega (arith, p, l))

pub returns : goal.returns
unfolding flushed_by
returns c = c.fit_range.ensures
