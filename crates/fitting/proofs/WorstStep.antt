-- The worst step beside each command of a fit is that of its piece. Assumes nothing.
use Prim.Native.Nat.{ℕ, ◌-◌, ◌≤◌, ◌<◌}
use mathlib.Core.Path.{◌≡◌, refl, subst}
use mathlib.Core.Logic.{⊎_elim}
use mathlib.Core.List.{List, [], ◌∷◌, map}
use native.Mathlib.Omega.{arith}
use lib.Ieee.{Float}
use Rattle.floats.proofs.Order.{lt_or_ge}
use Rattle.geo.specs.declared.types.Point3D.{Point3D}
use Rattle.geo.specs.declared.types.Command as command
use Rattle.geo.specs.Lent.{point_at}
use Rattle.geo.specs.Outcome.{refusal}
use Rattle.geo.proofs.Rows.{unless-given}
use Rattle.circle.specs.Three.{radius_from}
use Rattle.trial.specs.Deviation.{arc_deviation}
use Rattle.deviations.proofs.Own.{arc-answered}
use Rattle.deviations.proofs.WorstStep.{arc-worst}
use Rattle.pieces.specs.Pieces.{points_rule, Shape, line, arc, Piece, pieces_by, pieces_in}
use Rattle.pieces.specs.Commands.{shaped, piece_command, fit_in, worst_step, piece_worst, worst_in}
use Rattle.pieces.specs.Laws.{Covers}
use Rattle.pieces.proofs.Laws.{pieces_cover}
use Rattle.fitting.specs.Calls.{fit_rows, fit_call, worst_call}
use Rattle.fitting.specs.WorstStep.{Beside, beside_line, beside_arc, AllBeside, FitWorst}
use Rattle.fitting.proofs.Accepted.{fit-accepted}

-- ---- beside the commands of pieces that follow one another
module _ (at : ℕ → Point3D) where
  beside : (lo hi : ℕ) → lo < hi → (s : Shape) → Beside at lo hi (shaped (at lo) (at hi) s) (worst_step at lo hi s)
  unfolding shaped worst_step
  beside lo hi h line = beside_line refl refl
  beside lo hi h (arc c d) =
      beside_arc c d refl (arc_deviation c (radius_from c (at lo)) at lo hi) refl (arc-worst c (radius_from c (at lo)) at lo hi (omega arith))
      (λ v e. arc-answered at lo hi h c (radius_from c (at lo)) v e)

  all_beside : (lo hi : ℕ) (ps : List Piece) → Covers lo ps hi → AllBeside at ps (map (piece_command at) ps) (map (piece_worst at) ps)
  unfolding piece_command piece_worst
  all_beside lo hi [] v = tt
  all_beside lo hi (p ∷ ps) v = let e = v.0 in let g = v.1 in (beside p.from p.to (omega arith) p.shape, all_beside p.to hi ps v.2)

-- Of every accepted call of `fit_points_recursive`.
pub worst_of_the_fit : FitWorst
unfolding fit_call worst_call fit_in worst_in pieces_by
worst_of_the_fit s tol lo hi kinds numbers places xs ns e g =
    let n = refusal (fit_rows s tol lo hi kinds numbers places) in
    let at = point_at s in
    let ps = pieces_in (points_rule tol) at lo hi in
    let x = unless-given n _ xs e in
    let y = unless-given n _ ns g in
    let pos = (fit-accepted s tol lo hi kinds numbers places x.0).above_zero in
    subst (λ (zs : List command.Command). AllBeside at ps zs ns) x.1 (subst (AllBeside at ps (map (piece_command at) ps)) y.1
    (⊎_elim (λ h. all_beside at lo hi ps (pieces_cover (points_rule tol) pos at lo hi h)) (λ h. none at tol lo hi h) (lt_or_ge lo hi)))
  where
    none : (at : ℕ → Point3D) (tol : Float) (lo hi : ℕ) → hi ≤ lo
        → AllBeside at (pieces_in (points_rule tol) at lo hi) (map (piece_command at) (pieces_in (points_rule tol) at lo hi)) (map (piece_worst at) (pieces_in (points_rule tol) at lo hi))
    none at tol lo hi h = let z : hi - lo ≡ 0 = omega arith in rw z tt
