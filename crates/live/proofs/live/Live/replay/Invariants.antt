-- `live::live::Live::replay` meets its contract: the loop's invariant is that what is left to feed, fed from here, gives the whole (Replaying). Assumes nothing.
use Rattle.live.specs.Thinner.{feed_again}
use Prim.Native.Nat.{◌-◌, ◌≤◌}
use mathlib.Core.Path.{◌≡◌}
use lib.ListN.{length}
use Rattle.geo.specs.Lent.{point_at}
use Rattle.live.proofs.Replaying.{Replaying}
use Rattle.live.proofs.live.Live.replay.Given as goal

abbrev pub invariant-loop-i : goal.invariant-loop-i
invariant-loop-i l = (length l.points ≡ 195) × (l.n ≤ 65) × (length (feed_again (point_at l.points) (l.n - 1) 1 l.initial.self).ends ≤ 63) × (1 ≤ l.i) × Replaying (point_at l.points) l.n (feed_again (point_at l.points) (l.n - 1) 1 l.initial.self) l.initial.out l.out l.self l.count l.i
