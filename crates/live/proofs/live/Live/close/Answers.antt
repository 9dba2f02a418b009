-- `live::live::Live::close` meets its contract: the last point is handed out where there are two, by the rows' number. Assumes nothing.
use borrow.Author.Rules.{rules}
use native.Mathlib.Omega.{arith}
use mathlib.Core.Path.{refl}
use Rattle.live.specs.Thinner.{shut, slot}
use Rattle.live.specs.Calls.{close, live_rows, next_of}
use Rattle.live.proofs.Answers.{fed_refused, fed_given, few-accepted, shut_none, shut-last}
use Rattle.live.proofs.live.Live.close.Goals as goal

pub returns-in_err-refuse : goal.returns-in_err-refuse
unfolding live_rows
returns-in_err-refuse c = fed_refused c.args.self.now close _ c.in_err-refuse.ensures _ (search rules)

pub returns-then-self-lt2 : goal.returns-then-self-lt2
unfolding live_rows next_of shut
returns-then-self-lt2 c = fed_given c.args.self.now close c.in_ok-refuse.ensures _ _ (shut_none c.args.self.now c.if-self-lt2.true) refl

pub last-requires : goal.last-requires
last-requires c = let l = few-accepted _ _ _ c.in_ok-refuse.ensures in (omega arith, l)

pub returns : goal.returns
unfolding live_rows next_of shut slot
returns c = fed_given c.args.self.now close c.in_ok-refuse.ensures _ _ (shut-last c.args.self.now _ c.if-self-lt2.false c.last.ensures) refl
