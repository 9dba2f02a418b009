-- `live::live::Live::refuse_retune` meets its contract: each return is the row that its tests led to, the state's rows between. Assumes nothing.
use borrow.Author.Rules.{rules}
use mathlib.Core.Path.{◌≡◌}
use Rattle.std.specs.Prelude.{Err}
use Rattle.live.proofs.Answers.{tuned_1, tuned_state, tuned_9, tuned_0}
use Rattle.live.proofs.live.Live.refuse_retune.Goals as goal

pub returns-then-room-ne0 : goal.returns-then-room-ne0
returns-then-room-ne0 c = tuned_1 _ _ _ c.if-room-ne0.true

pub returns-in_err-refuse : goal.returns-in_err-refuse
returns-in_err-refuse c = let e : c.from_residual.result ≡ Err c.in_err-refuse.field-0.0 = search rules in
    rw e (tuned_state _ _ _ _ c.if-room-ne0.false c.is_tolerance.ensures _ c.in_err-refuse.ensures)

pub returns-then-room-lt-MOST : goal.returns-then-room-lt-MOST
returns-then-room-lt-MOST c = tuned_9 _ _ _ _ c.if-room-ne0.false c.is_tolerance.ensures c.in_ok-refuse.ensures c.if-room-lt-MOST.true

pub returns : goal.returns
returns c = tuned_0 _ _ _ _ c.if-room-ne0.false c.is_tolerance.ensures c.in_ok-refuse.ensures c.if-room-lt-MOST.false
