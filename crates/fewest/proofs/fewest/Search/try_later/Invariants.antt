-- `fewest::fewest::Search::try_later` meets its contract: the pairs left from v on give the whole. Assumes nothing.
use Prim.Native.Nat.{◌+◌, ◌-◌}
use Rattle.ways.specs.Layers.{in_order}
use Rattle.fewest.specs.Search.{state_of, pair_of}
use Rattle.fewest.proofs.Search.{Walked}
use Rattle.fewest.proofs.fewest.Search.try_later.Given as goal

abbrev pub invariant-loop-v : goal.invariant-loop-v
invariant-loop-v l = let s = l.initial.self in
    Walked (λ t. pair_of t l.u) (s.task.last + 1) (in_order (pair_of s.task l.u) (s.task.last - l.u) (l.u + 1) (state_of s)) s l.self l.v
