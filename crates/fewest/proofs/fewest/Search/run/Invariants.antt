-- `fewest::fewest::Search::run` meets its contract: the layers left give the whole; the measure is what is left of `last`. Assumes nothing.
use Prim.Native.Nat.{◌-◌}
use mathlib.Core.Path.{◌≡◌}
use Rattle.ways.specs.Layers.{in_order}
use Rattle.ways.proofs.Steps.{Loop}
use Rattle.fewest.specs.Search.{state_of, layer_of}
use Rattle.fewest.proofs.fewest.Search.run.Given as goal

abbrev pub invariant-loop-self : goal.invariant-loop-self
invariant-loop-self l = let s = l.initial.self in
    (l.self.task ≡ s.task) × Loop (λ i. layer_of s.task) s.task.last s.task.budget (in_order (λ i. layer_of s.task) s.task.last 0 (state_of s)) (state_of l.self) l.self.finished

abbrev pub decreases-loop-self : goal.decreases-loop-self
decreases-loop-self l = l.self.task.last - l.self.finished
