-- `live::live::Live::retune` meets its contract: the rows decide, and then the replay (Tuned). Assumes nothing.
use borrow.Author.Rules.{rules}
use Rattle.live.proofs.Tuned.{tuned_accepted, tuned_refused, tuned_given}
use Rattle.live.proofs.live.Live.retune.Goals as goal

pub returns-in_err-refuse_retune : goal.returns-in_err-refuse_retune
returns-in_err-refuse_retune c = tuned_refused c.args.self.now c.args.tolerance c.args.out.now _ c.in_err-refuse_retune.ensures _ (search rules)

pub replay-requires : goal.replay-requires
replay-requires c = tuned_accepted c.args.self.now c.args.tolerance c.args.out.now c.in_ok-refuse_retune.ensures

pub returns : goal.returns
returns c = tuned_given c.args.self.now c.args.tolerance c.args.out.now c.in_ok-refuse_retune.ensures _ _ _ c.replay.ensures
