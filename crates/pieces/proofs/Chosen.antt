-- What a range comes to, by the tests that the code makes. Assumes nothing.
use Rattle.std.specs.Prelude.{Option, None, if◌then◌else◌}
use Prim.Native.Nat.{ℕ, ◌≤◌, ◌<◌}
use mathlib.Core.Path.{◌≡◌, refl, sym, ap, ◌∙◌}
use mathlib.Core.Logic.{⊎_elim}
use mathlib.Core.Bool.{Bool, true, false}
use native.Mathlib.Omega.{arith}
use lib.Ieee.{lt}
use Rattle.floats.specs.Ops.{◌≺◌, +0}
use Rattle.floats.proofs.Order.{either}
use Rattle.geo.specs.declared.types.Point.{Point}
use Rattle.geo.specs.declared.types.Point3D.{Point3D}
use Rattle.circle.specs.Three.{radius_from}
use Rattle.trial.specs.declared.trial.Trial.{Trial}
use Rattle.trial.specs.Trial.{Arc, try_arcs}
use Rattle.trial.proofs.Tried.{tried_worst}
use Rattle.deviations.specs.Line.{line_deviation}
use Rattle.deviations.proofs.WorstStep.{worst-few}
use Rattle.pieces.specs.declared.pieces.Rule.{Rule}
use Rattle.pieces.specs.declared.pieces.Tested.{Tested}
use Rattle.pieces.specs.Pieces.{distance, Shape, line, arc, whole, cut_at, counted, arc_or_cut, choose_by, choice}
use Rattle.pieces.specs.Commands.{worst_step}
use Rattle.pieces.specs.Tested.{line_tested}
use Rattle.pieces.proofs.Recursion.{farthest_inside}

-- ---- the choice by the tests that the code makes: d is what the Line comes to
module _ (r : Rule) (at : ℕ → Point3D) (lo hi : ℕ) (d : Tested) (e : d ≡ line_tested r at lo hi) where
  passed : (b : Bool) → d.passes ≡ b → lt (line_deviation (distance r) at lo hi).dist r.tolerance ≡ b
  unfolding line_tested
  passed b h = sym (ap (λ (v : Tested). v.passes) e) ∙ h

  first : d.index ≡ (line_deviation (distance r) at lo hi).index
  unfolding line_tested
  first = ap (λ (v : Tested). v.index) e

  -- where it fails, the first farthest point lies strictly inside
  pub fails_inside : (+0 ≺ r.tolerance) ≡ true → d.passes ≡ false → (lo < d.index) × (d.index < hi)
  fails_inside pos h = rw first (farthest_inside r pos at lo hi (line_deviation (distance r) at lo hi) refl (passed false h))

  pub takes_line : d.passes ≡ true → choice r at lo hi ≡ whole line
  unfolding choice choose_by
  takes_line h = rw (passed true h)

  -- t is the trial that the rule counts
  module _ (t : Option Trial) (is : t ≡ counted r (try_arcs at lo hi d.index r.tolerance)) (h : d.passes ≡ false) where
    takes : choice r at lo hi ≡ arc_or_cut t d.index
    unfolding choice choose_by
    takes = rw (passed false h, ← first, ← is)

    pub takes_arc : (c : Point) (b : Bool) (k : ℕ) → t ≡ Arc c b k → choice r at lo hi ≡ whole (arc c b)
    unfolding arc_or_cut
    takes_arc c b k z = takes ∙ rw z

    -- its worst step is that of the piece
    pub takes_worst : (c : Point) (b : Bool) (k : ℕ) → t ≡ Arc c b k → k ≡ worst_step at lo hi (arc c b)
    unfolding worst_step
    takes_worst c b k z =
        ⊎_elim (λ a. tried_worst at lo hi d.index r.tolerance c b k (sym (ap (λ (x : Bool). if x then try_arcs at lo hi d.index r.tolerance else None) a) ∙ sym is ∙ z))
        (λ a. let g : None ≡ Arc c b k = sym (ap (λ (x : Bool). if x then try_arcs at lo hi d.index r.tolerance else None) a) ∙ sym is ∙ z in
        let q : ◌≡◌ {A = ℕ} 0 1 = cc in absurd (omega arith)) (either r.arcs)

    pub takes_cut : t ≡ None → choice r at lo hi ≡ cut_at d.index
    unfolding arc_or_cut
    takes_cut z = takes ∙ rw z

-- the worst step of a piece has an index that is at most its last point's
pub worst_step_few : (at : ℕ → Point3D) (lo hi : ℕ) → lo < hi → (s : Shape) → worst_step at lo hi s ≤ hi
unfolding worst_step
worst_step_few at lo hi h line = omega arith
worst_step_few at lo hi h (arc c d) = worst-few c (radius_from c (at lo)) at lo hi (omega arith)
