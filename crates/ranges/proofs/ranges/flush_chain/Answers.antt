-- `ranges::ranges::flush_chain` meets its contract: what `thin_in_place` leaves at the front of the chain is the chain, thinned, and `fit_range` fits it. Assumes nothing.
use native.Mathlib.Omega.{arith}
use mathlib.Core.Path.{sym}
use Rattle.floats.proofs.Unsigned.{square_not_negative}
use Rattle.pieces.proofs.Writing.{none-noted}
use Rattle.ranges.proofs.Chain.{kept-few, kept-some, kept-fits, kept_wide, fitted-chain, no_noted}
use Rattle.ranges.proofs.ranges.flush_chain.Goals as goal

pub returns-then-n-lt2 : goal.returns-then-n-lt2
returns-then-n-lt2 c = let a = c.args in none-noted _ (no_noted a.rule.rule a.chain.now c.if-n-lt2.true) a.at a.kinds.now a.nums.now a.notes.now

pub thin_in_place-k-requires : goal.thin_in_place-k-requires
thin_in_place-k-requires c = (square_not_negative c.args.rule.rule.tolerance, omega (arith, c.requires))

pub overflow_mul-kept : goal.overflow_mul-kept
overflow_mul-kept c = let a = c.args in
    let f = kept-few a.rule.rule a.chain.now in
    let e = c.thin_in_place-k.ensures.count in omega (arith, c.requires)

pub slice_bounds-kept-end : goal.slice_bounds-kept-end
slice_bounds-kept-end c = let a = c.args in kept-fits a.rule.rule a.chain.now _ _ _ c.thin_in_place-k.ensures (omega arith)

pub slice_bounds-kept-end-2 : goal.slice_bounds-kept-end-2
slice_bounds-kept-end-2 c = let a = c.args in sym (kept_wide a.rule.rule a.chain.now _ _ _ c.thin_in_place-k.ensures (omega arith))

pub overflow_sub-kept : goal.overflow_sub-kept
overflow_sub-kept c = let a = c.args in
    let f = kept-some a.rule.rule a.chain.now (omega (arith, c.if-n-lt2.false)) in
    let e = c.thin_in_place-k.ensures.count in omega arith

pub invariant_of-kept : goal.invariant_of-kept
invariant_of-kept c = let a = c.args in
    let l = kept-some a.rule.rule a.chain.now (omega (arith, c.if-n-lt2.false)) in
    let e = c.thin_in_place-k.ensures.count in
    let w = kept_wide a.rule.rule a.chain.now _ _ _ c.thin_in_place-k.ensures (omega arith) in
    record { start_inside = omega arith; end_inside = omega arith }

pub fit_range-requires : goal.fit_range-requires
fit_range-requires c = let a = c.args in
    let l = kept-some a.rule.rule a.chain.now (omega (arith, c.if-n-lt2.false)) in
    let f = kept-few a.rule.rule a.chain.now in
    let e = c.thin_in_place-k.ensures.count in
    let w = kept_wide a.rule.rule a.chain.now _ _ _ c.thin_in_place-k.ensures (omega arith) in
    let p = c.requires in
    (omega arith, omega (arith, p), omega (arith, p), omega (arith, p))

pub returns : goal.returns
returns c = let a = c.args in
    fitted-chain a.rule.rule a.chain.now _ _ _ c.thin_in_place-k.ensures (omega arith) a.at _ a.kinds.now _ a.nums.now _ a.notes.now _ c.fit_range.ensures
