-- `records::are_left` meets its contract: the values that are not looked at yet decide the whole answer. Assumes nothing.
use mathlib.Core.Path.{◌≡◌}
use Prim.Native.Nat.{◌-◌}
use lib.ListN.{get_or}
use Rattle.geo.specs.Domain.{every_from}
use Rattle.records.proofs.are_left.Given as goal

abbrev pub invariant-loop-i : goal.invariant-loop-i
invariant-loop-i g l = (none : g.row.T.Denot) → every_from (λ k. g.T.PartialEq.eq (get_or l.out k none) l.known) (l.to - l.i) l.i ≡ every_from (λ k. g.T.PartialEq.eq (get_or l.out k none) l.known) (l.to - l.from) l.from
