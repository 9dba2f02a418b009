-- Document 01's worked laps that carry its mark: one table, and behind them three rows of ours; and its out-and-back as a lap. Definitions only; proofs/Worked.antt shows that they hold.
use Rattle.std.specs.Prelude.{ℕ, ◌≡◌, true, false, List, [], ◌∷◌, map, length, Float, Option, Some, None}
use Rattle.std.specs.Float.{nan}
use Rattle.std.specs.Float.Ieee.{neg}
use Rattle.floats.specs.Ops.{◌≺◌, +0, one}
use Rattle.floats.specs.Root.{root_of}
use Rattle.geo.specs.declared.types.Point3D.{Point3D}
use Rattle.geo.specs.declared.types.Command.{Command}
use Rattle.geo.specs.declared.types.Command.TheVariants.{Move, Line, Arc}
use Rattle.floats.specs.Limits.{fraction, thousandth}
use Rattle.geo.specs.Lent.{point_at, flat, kind_of, numbers_of}
use Rattle.geo.specs.Outcome.{Outcome, refused, gives}
use Rattle.trial.specs.declared.trial.Trial.{Trial}
use Rattle.trial.specs.Trial.{three_tried, least_tried}
use Rattle.simplify.specs.Simplify.{simplify_polyline3d}
use Rattle.bezier.specs.Linearize.{param_steps}
use Rattle.fitting.specs.Calls.{primitives_call, primitives_worst}
use Rattle.file.specs.Command.{enc}
use Rattle.course.specs.Course.{arcs_call}
use Rattle.laps.specs.File.{encode}
use Rattle.lap_fit.specs.Fit.{fit_file}
use Rattle.lap_replace.specs.Replace.{replace_lap}

-- a whole number of metres
abbrev pub metres : ℕ → Float
metres n = fraction n 1

-- points as they are lent, and as they are given back
abbrev pub lent : List (ℕ × ℕ) → List Float
lent [] = []
lent ((x, y) ∷ ps) = metres x ∷ metres y ∷ +0 ∷ lent ps

abbrev pub point : ℕ → ℕ → Point3D
point x y = record { x = metres x; y = metres y; z = +0 }

-- a list is thinned, or fitted, to outputs with room for three
abbrev pub thin : List (ℕ × ℕ) → Float → Outcome (List Point3D)
thin ps t = simplify_polyline3d (lent ps) t 9

abbrev pub fit : List (ℕ × ℕ) → Float → Outcome (List Command)
fit ps t = primitives_call (lent ps) t 3 27 3

-- the recorded points of the cases
abbrev pub right-angle : List (ℕ × ℕ)
right-angle = (0, 0) ∷ (10, 0) ∷ (10, 10) ∷ []

abbrev pub bend : List (ℕ × ℕ)
bend = (3, 4) ∷ (4, 3) ∷ (5, 0) ∷ []

abbrev pub twice : List (ℕ × ℕ)
twice = (7, 7) ∷ (7, 7) ∷ []

-- the centre of the bend's arc, from its first point, and the normal of a clockwise arc
abbrev pub from_start : Point3D
from_start = record { x = neg (metres 3); y = neg (metres 4); z = +0 }

abbrev pub down : Point3D
down = record { x = +0; y = +0; z = neg one }

-- ours: a bend to the left, counter-clockwise, and the normal of such an arc
abbrev pub left-bend : List (ℕ × ℕ)
left-bend = (0, 0) ∷ (2, 0) ∷ (5, 3) ∷ []

abbrev pub up : Point3D
up = record { x = +0; y = +0; z = one }

-- its two arc trials within three quarters of a metre, the Line's first farthest point being the second of the three
abbrev pub by_three : Option Trial
by_three = three_tried (point_at (lent left-bend)) 0 2 1 (fraction 75 100)

abbrev pub by_least_squares : Option Trial
by_least_squares = least_tried (point_at (lent left-bend)) 0 2 1 (fraction 75 100)

-- how far right the centre of a trial's arc lies; no number where the trial failed
unfoldable pub centre-right : Option Trial → Float
centre-right (Some t) = t.center.x
centre-right None = nan

-- the steps of a Bezier with all points at p
abbrev pub steps_at : Point3D → ℕ
steps_at p = length (param_steps p p p p (fraction 1 2))

-- "LAPS" and no laps
abbrev pub no_laps : List ℕ
no_laps = 0x4c ∷ 0x41 ∷ 0x50 ∷ 0x53 ∷ 0 ∷ 0 ∷ 0 ∷ 0 ∷ []

-- the table, in the order of document 01
pub record WorkedLaps : Type 0 where
  pub root_of_25 : root_of (metres 25) ≡ metres 5
  pub no_points : fit [] (fraction 1 2) ≡ gives []
  pub one-point : fit ((3, 4) ∷ []) (fraction 1 2) ≡ gives []
  pub two-equal-points : fit twice (fraction 1 2) ≡ gives (Line (point 7 7) ∷ [])
  pub straight : thin ((0, 0) ∷ (10, 0) ∷ (20, 0) ∷ []) (fraction 1 2) ≡ gives (point 0 0 ∷ point 20 0 ∷ [])
  pub there_and_back : thin ((0, 0) ∷ (100, 0) ∷ (50, 0) ∷ []) (fraction 1 2) ≡ gives (point 0 0 ∷ point 50 0 ∷ [])
  pub sharp : fit right-angle (fraction 1 2) ≡ gives (Line (point 10 0) ∷ Line (point 10 10) ∷ [])
  pub bend_as_a_line : fit bend (fraction 45 100) ≡ gives (Line (point 5 0) ∷ [])
  pub bend_as_an_arc : fit bend (fraction 3 10) ≡ gives (Arc (point 5 0) from_start down ∷ [])
  pub bend_as_two-lines : fit bend (fraction 25 100) ≡ gives (Line (point 4 3) ∷ Line (point 5 0) ∷ [])
  pub least-tolerance : fit twice thousandth ≡ gives (Line (point 7 7) ∷ [])
  pub no_tolerance : fit twice +0 ≡ refused 6
  pub curve_of_equal-points : steps_at (point 7 7) ≡ 2
  pub empty_file : fit_file no_laps (fraction 1 2) 8 ≡ gives no_laps
  -- ours: both arc trials of the left bend pass, the second with a centre to the left of the first's; the Arc has the first's centre, and the normal of its direction
  pub first_trial : by_three ≡ Some (record { center = record { x = metres 1; y = metres 4 }; clockwise = false; worst = 1 })
  pub second_trial : (centre-right by_least_squares ≺ metres 1) ≡ true
  pub left-bend_as_an_arc : fit left-bend (fraction 75 100) ≡ gives (Arc (point 5 3) (point 1 4) up ∷ [])
  -- ours: of the bend that is one Arc the second step is the worst
  pub bend-worst : primitives_worst (lent bend) (fraction 3 10) 3 27 3 ≡ gives (1 ∷ [])

-- ---- beside the table: the out-and-back as a lap, its points recorded as one Move and two Lines, and that lap alone as a file of 235 bytes
abbrev pub shuttle : List Command
shuttle = Move (point 0 0) ∷ Line (point 100 0) ∷ Line (point 50 0) ∷ []

abbrev pub shuttle-file : List ℕ
shuttle-file = encode (map enc shuttle ∷ [])

-- "The worked (0,0),(100,0),(50,0) stays `simplify_polyline`'s; these three keep all its points" (document 02, §4): the lap fit, the lap replacement and `fit_arcs` give two Lines
pub record OutAndBack : Type 0 where
  pub fitted : fit_file shuttle-file (fraction 1 2) 235 ≡ gives shuttle-file
  pub replaced : replace_lap shuttle-file shuttle-file 1 (map kind_of shuttle) (flat numbers_of shuttle) (fraction 1 2) 235 ≡ gives shuttle-file
  pub by_fit_arcs : arcs_call (map kind_of shuttle) (flat numbers_of shuttle) (fraction 1 2) 3 27 ≡ gives shuttle
