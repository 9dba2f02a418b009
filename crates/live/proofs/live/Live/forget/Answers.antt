-- `live::live::Live::forget` meets its contract: by the count's two cases. Assumes nothing.
use native.Mathlib.Omega.{arith}
use Rattle.live.proofs.Answers.{forgotten-none, forgotten-some}
use Rattle.live.proofs.live.Live.forget.Goals as goal

pub returns-then-self-gt0 : goal.returns-then-self-gt0
returns-then-self-gt0 c = forgotten-some c.args.self.now c.args.tolerance c.if-self-gt0.true

pub returns-else-self-gt0 : goal.returns-else-self-gt0
returns-else-self-gt0 c = forgotten-none c.args.self.now c.args.tolerance (omega arith)
