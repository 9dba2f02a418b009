-- `fewest::fewest::Search::try_layer` meets its contract: the points left from u on give the whole. Assumes nothing.
use Prim.Native.Nat.{◌+◌}
use Rattle.ways.specs.Layers.{in_order}
use Rattle.fewest.specs.Search.{state_of, point_of}
use Rattle.fewest.proofs.Search.{Walked}
use Rattle.fewest.proofs.fewest.Search.try_layer.Given as goal

abbrev pub invariant-loop-u : goal.invariant-loop-u
invariant-loop-u l = let s = l.initial.self in
    Walked (λ t. point_of t) (s.task.last + 1) (in_order (point_of s.task) (s.task.last + 1) 0 (state_of s)) s l.self l.u
