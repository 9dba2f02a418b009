-- Which step of an arc is worst (document 02, §5). Definitions only; proofs/WorstStep.antt shows that they hold.
use Rattle.std.specs.Prelude.{ℕ, ◌+◌, ◌-◌, ◌/◌, ◌≤◌, ◌<◌, ◌≡◌, ◌⊎◌, true, false, List, length, Float}
use Rattle.std.specs.Float.Ieee.{is_nan}
use Rattle.floats.specs.Ops.{◌≺◌, +0}
use Rattle.geo.specs.declared.types.Point.{Point}
use Rattle.geo.specs.declared.types.Point3D.{Point3D}
use Rattle.geo.specs.Lent.{point_at}
use Rattle.geo.specs.Outcome.{gives}
use Rattle.circle.specs.declared.circle.Deviation.{Deviation}
use Rattle.trial.specs.Deviation.{step_between}
use Rattle.farthest.specs.Words.{NoneAbove}
use Rattle.deviations.specs.Calls.{arc_call}

-- ---- one arc: round c, with the radius r, over the points from lo to hi
module _ (c : Point) (r : Float) (at : ℕ → Point3D) (lo hi : ℕ) where
  -- the deviation of the step that starts at point i
  abbrev pub step_off : ℕ → Float
  step_off i = step_between c r (at i) (at (i + 1))

  -- w is "the first step that reaches its greatest deviation": it lies inside, it has that deviation, which is above 0; every earlier step has a smaller one, or none that is
  -- a number, and no later step a greater one
  pub record FirstWorst (w : Deviation) : Type 0 where
    pub from : lo ≤ w.index
    pub to : w.index < hi
    pub reached : w.dist ≡ step_off w.index
    pub above : (+0 ≺ w.dist) ≡ true
    pub earlier : (j : ℕ) → lo ≤ j → j < w.index → ((step_off j ≺ w.dist) ≡ true) ⊎ (is_nan (step_off j) ≡ true)
    pub later : (j : ℕ) → w.index < j → j < hi → (w.dist ≺ step_off j) ≡ false

  -- "0 if there are no steps or it is 0": then no step is above 0, wherever the points stand in their list; else it is the first worst
  pub data WorstOf (w : Deviation) : Type 0 where
    no_worst : w ≡ record { dist = +0; index = 0 } → NoneAbove step_off lo hi +0 → WorstOf w
    first-worst : FirstWorst w → WorstOf w

-- "`get_polyline_arc_deviation` answers too the index, counted from the list's first point": of every call that is accepted.
abbrev pub ArcWorst : Type 0
ArcWorst = (s : List Float) (c : Point) (r : Float) (w : Deviation) → arc_call s c r ≡ gives w → WorstOf c r (point_at s) 0 (length s / 3 - 1) w
