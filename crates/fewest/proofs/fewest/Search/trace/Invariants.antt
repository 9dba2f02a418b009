-- `fewest::fewest::Search::trace` meets its contract: the ends from the k-th on are written, and the parents before lead to the rest. Assumes nothing.
use Prim.Native.Nat.{◌≤◌}
use mathlib.Core.List.{[]}
use Rattle.ways.specs.Layers.{back}
use Rattle.fewest.specs.Search.{parents}
use Rattle.fewest.proofs.Trace.{Traced}
use Rattle.fewest.proofs.fewest.Search.trace.Given as goal

abbrev pub invariant-loop-k : goal.invariant-loop-k
invariant-loop-k l = (l.v ≤ l.self.task.last) × Traced l.self.task.points.now (parents l.self.reached) l.initial.out (back (parents l.self.reached) l.count l.self.task.last []) l.out l.k l.v
