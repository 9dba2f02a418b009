-- `track::close_up` meets its contract. The invariant: what the flags before i keep is counted and written. The measure is how many items are left. Assumes nothing.
use mathlib.Core.Path.{◌≡◌, sym, ap, ◌∙◌}
use mathlib.Core.Bool.{true, false, ◌||◌}
use native.Mathlib.Omega.{arith}
use lib.ListN.{get_or}
use Rattle.simplify.proofs.Close.{closing_start, closing_take, closing_skip, chosen_always, chosen_by_flag, not_chosen}
use Rattle.simplify.proofs.track.close_up.Goals as goal
use Rattle.simplify.proofs.track.close_up.Goals.{then-stays, then-stays-via-then-stays, then-stays-via-else-stays+then-keep-i, else-stays+else-keep-i}

pub loop-i-init : goal.loop-i-init
loop-i-init g c = closing_start g.T.Track.Placed _ _ _ (g.met.T.Track.begun _)

pub loop-i-preserved : goal.loop-i-preserved
loop-i-preserved g c =
    let e = g.T.Track in
    let s = c.args.track.now in
    let v = c.loop-i.invariant in
    let same = g.met.T.Track.ahead s c.loop-i.track _ v.placed c.loop-i.i (omega (arith, v.counted, v.below)) in
    let stays : e.always (e.item s c.loop-i.i) ≡ c.stays.result = sym (c.stays.ensures ∙ ap e.always same) in
    elim c.if-stays.branch [
      | then-stays w ↦
          let chosen : (e.always (e.item s c.loop-i.i) || get_or c.args.keep.now c.loop-i.i false) ≡ true =
          elim w.then-stays.branch [
            | then-stays-via-then-stays w' ↦ chosen_always _ _ _ stays w'.if-stays.true
            | then-stays-via-else-stays+then-keep-i w' ↦ chosen_by_flag _ _ _ stays w'.if-stays.false w'.if-keep-i.true
          ] in
          closing_take e.Placed _ _ _ _ _ _ _ _ v chosen (rw w.track-is (w.place.ensures _ _ v.placed v.counted)) w.count-is
      | else-stays+else-keep-i w ↦ closing_skip e.Placed _ _ _ _ _ _ _ _ v (not_chosen _ _ _ stays w.if-stays.false w.if-keep-i.false) w.track-is w.count-is
    ]
