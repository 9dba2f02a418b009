-- Laps that all have their Move are fitted, counted and tested as before they could lack it. Assumes nothing.
use Prim.Native.Nat.{ℕ, zero, suc}
use mathlib.Core.Path.{◌≡◌, refl}
use mathlib.Core.Bool.{Bool, true, false, not, ◌||◌}
use mathlib.Core.List.{List, [], ◌∷◌}
use lib.ListN.{get_or}
use lib.Ieee.{Float}
use Rattle.geo.specs.declared.types.Point3D.{Point3D}
use Rattle.geo.specs.Lent.{origin}
use Rattle.pieces.specs.Pieces.{laps_rule}
use Rattle.laps.specs.File.{Lap, lacks, form_ok, lap_tested, laps_ok}
use Rattle.lap_fit.specs.Fit.{lap_end, fit_lap, fit_laps, most_lap, laps_most}
use Rattle.lap_fit.proofs.Starts.{start_not_asked, most-start_not_asked}
use Rattle.lap_swap.specs.Swap.{next_lacks}
use Rattle.lap_replace.specs.Demand.{HaveMoves, fits_apart, most_apart, formed_apart, NothingChanged}

fits_apart_lem : (tol : Float) (p : Point3D) (ls : List Lap) → HaveMoves ls → fit_laps (laps_rule tol) p ls ≡ fits_apart tol ls
unfolding fit_laps fits_apart
fits_apart_lem tol p [] h = refl
fits_apart_lem tol p (l ∷ ls) h = rw (start_not_asked (laps_rule tol) p origin l h.0, fits_apart_lem tol (lap_end p l) ls h.1) (unfold fit_lap in refl)

most_apart_lem : (tol : Float) (p : Point3D) (ls : List Lap) → HaveMoves ls → laps_most tol p ls ≡ most_apart tol ls
unfolding laps_most most_apart
most_apart_lem tol p [] h = refl
most_apart_lem tol p (l ∷ ls) h = rw (most-start_not_asked tol p origin l h.0, most_apart_lem tol (lap_end p l) ls h.1) (unfold most_lap in refl)

either : (m t : Bool) → t ≡ false → (m || not t) ≡ true
either true t e = refl
either false t e = rw e

formed_apart_lem : (must : Bool) (ls : List Lap) → HaveMoves ls → laps_ok form_ok must ls ≡ formed_apart ls
unfolding laps_ok formed_apart lap_tested
formed_apart_lem must [] h = refl
formed_apart_lem must (l ∷ ls) h = rw (either must (lacks l) h.0, formed_apart_lem false ls h.1)

alone_at : (ls : List Lap) (k : ℕ) → HaveMoves ls → lacks (get_or ls k []) ≡ false
alone_at [] k h = unfold lacks in refl
alone_at (l ∷ ls) zero h = h.0
alone_at (l ∷ ls) (suc k) h = alone_at ls k h.1

-- Nothing changed for laps that all have their Move.
pub nothing_changed : NothingChanged
nothing_changed tol ls h =
    record { fits = fits_apart_lem tol origin ls h; most = most_apart_lem tol origin ls h; formed = formed_apart_lem true ls h; alone = λ k. unfold next_lacks in alone_at ls k h }
