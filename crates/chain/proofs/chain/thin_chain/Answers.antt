-- `chain::chain::thin_chain` meets its contract: what `thin_in_place` leaves at the front of the chain is the chain, thinned. Assumes nothing.
use native.Mathlib.Omega.{arith}
use mathlib.Core.Path.{sym}
use Rattle.floats.proofs.Unsigned.{square_not_negative}
use Rattle.pieces.proofs.Writing.{same_noted}
use Rattle.ranges.proofs.Chain.{kept-few, kept-fits, kept_wide}
use Rattle.chain.proofs.Chains.{thinned-lines}
use Rattle.chain.proofs.chain.thin_chain.Goals as goal

pub thin_in_place-k-requires : goal.thin_in_place-k-requires
thin_in_place-k-requires c = (square_not_negative c.args.rule.tolerance, omega (arith, c.requires))

pub overflow_mul-k : goal.overflow_mul-k
overflow_mul-k c = let a = c.args in
    let f = kept-few a.rule a.chain.now in
    let e = c.thin_in_place-k.ensures.count in omega (arith, c.requires)

pub slice_bounds-put_lines-end : goal.slice_bounds-put_lines-end
slice_bounds-put_lines-end c = let a = c.args in kept-fits a.rule a.chain.now _ _ _ c.thin_in_place-k.ensures (omega arith)

pub slice_bounds-put_lines-end-2 : goal.slice_bounds-put_lines-end-2
slice_bounds-put_lines-end-2 c = let a = c.args in sym (kept_wide a.rule a.chain.now _ _ _ c.thin_in_place-k.ensures (omega arith))

pub put_lines-requires : goal.put_lines-requires
put_lines-requires c = let a = c.args in
    let f = kept-few a.rule a.chain.now in
    let e = c.thin_in_place-k.ensures.count in
    let w = kept_wide a.rule a.chain.now _ _ _ c.thin_in_place-k.ensures (omega arith) in
    let p = c.requires in (omega arith, omega (arith, p), omega (arith, p))

pub returns : goal.returns
returns c = let a = c.args in
    same_noted _ _ a.at _ a.kinds.now _ a.nums.now _ a.steps.now _ (thinned-lines a.rule a.chain.now _ _ _ c.thin_in_place-k.ensures (omega arith)) c.put_lines.ensures
