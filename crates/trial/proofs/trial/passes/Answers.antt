-- `trial::trial::passes` meets its contract: by the tests on W. Assumes nothing.
use Rattle.trial.specs.Traversal.{passes_by}
use Rattle.trial.proofs.Whole.{is_zero, is-minus-one, is_neither}
use Rattle.trial.proofs.trial.passes.Goals as goal

pub returns-then-w-eq0 : goal.returns-then-w-eq0
unfolding passes_by
returns-then-w-eq0 c = let e = c in
    rw (is_zero e.args.w e.ranges.w c.if-w-eq0.true, c.just_behind.ensures, c.cross-c.ensures, c.dot-d.ensures)

pub returns-then-w-eqminus1 : goal.returns-then-w-eqminus1
unfolding passes_by
returns-then-w-eqminus1 c = let e = c in
    rw (is-minus-one e.args.w e.ranges.w c.if-w-eqminus1.true, c.just_ahead.ensures, c.cross-c.ensures, c.dot-d.ensures)

pub returns : goal.returns
returns c = let e = c in is_neither e.args.w _ _ c.if-w-eq0.false c.if-w-eqminus1.false
