-- `live::live::Live::feed` meets its contract: the rows decide, and then the push. Assumes nothing.
use borrow.Author.Rules.{rules}
use mathlib.Core.Path.{ap, ◌∙◌}
use mathlib.Core.Bool.{Bool, true}
use Rattle.geo.specs.Outcome.{refusal}
use Rattle.live.specs.Calls.{feed, state_rows, live_rows, next_of}
use Rattle.live.proofs.Answers.{fed_refused, fed_given, few-accepted}
use Rattle.live.proofs.live.Live.feed.Goals as goal

pub returns-in_err-refuse : goal.returns-in_err-refuse
unfolding live_rows
returns-in_err-refuse c = fed_refused c.args.self.now (feed c.args.p) _ (c.in_err-refuse.ensures ∙ ap (λ (b : Bool). refusal (state_rows c.args.self.now b true)) c.point3_in.ensures) _ (search rules)

pub push-requires : goal.push-requires
push-requires c = few-accepted _ _ _ c.in_ok-refuse.ensures

pub returns : goal.returns
unfolding live_rows next_of
returns c = fed_given c.args.self.now (feed c.args.p) (c.in_ok-refuse.ensures ∙ ap (λ (b : Bool). refusal (state_rows c.args.self.now b true)) c.point3_in.ensures) _ _ c.push.ensures.end c.push.ensures.state
