-- `track::close_up` meets its contract. The invariant: what the flags before i keep is counted and written. The measure is how many items are left. Assumes nothing.
use Prim.Native.Nat.{◌-◌}
use mathlib.Core.Bool.{false, ◌||◌}
use lib.ListN.{get_or}
use Rattle.simplify.proofs.Close.{Closing}
use Rattle.simplify.proofs.track.close_up.Given as goal

abbrev pub invariant-loop-i : goal.invariant-loop-i
invariant-loop-i g l =
    let e = g.T.Track in
    Closing e.Placed (e.item l.initial.track) (λ j. e.always (e.item l.initial.track j) || get_or l.keep j false) l.initial.track l.track l.count l.i

abbrev pub decreases-loop-i : goal.decreases-loop-i
decreases-loop-i g l = g.T.Track.size l.initial.track - l.i
