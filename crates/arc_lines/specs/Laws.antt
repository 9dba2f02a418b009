-- The words of document 02, §6, about the parts of an Arc and the Lines that draw it, as propositions. Definitions only; proofs/Drawing.antt and proofs/Finite.antt show of which calls they hold.
use Rattle.std.specs.Prelude.{ℕ, zero, suc, ◌+◌, ◌-◌, ◌*◌, ◌≤◌, ◌<◌, ◌≡◌, ◌⊎◌, Bool, true, false, not, ◌&&◌, List, [], ◌∷◌, ◌++◌, length, get_or, pos, Float}
use Rattle.std.specs.Float.{binary64}
use Rattle.std.specs.Float.Ieee.{of_int}
use Rattle.floats.specs.Ops.{◌⊕◌, ◌⊖◌, ◌⊗◌, ◌⊘◌, ◌≺◌, +0}
use Rattle.floats.specs.Limits.{quarter}
use Rattle.geo.specs.declared.types.Point.{Point}
use Rattle.geo.specs.declared.types.Point3D.{Point3D}
use Rattle.geo.specs.declared.types.Command.{Command}
use Rattle.geo.specs.declared.types.Command.TheVariants.{Line}
use Rattle.geo.specs.Lent.{flat, numbers_of}
use Rattle.geo.specs.Outcome.{gives}
use Rattle.course.specs.Finite.{AllFinite}
use Rattle.trial.specs.Traversal.{offset_of, dot2}
use Rattle.flatten.specs.Parts.{centre_of, length_by, quarter_turn, onward, bulge, middle, ArcPart, arc_part}
use Rattle.flatten.specs.Calls.{flatten_call}

-- ---- order
-- The parts follow one another from u to w: each starts at the vector at which the one before it ended.
abbrev pub Chained : Point → List ArcPart → Point → Type 0
Chained u [] w = u ≡ w
Chained u (p ∷ ps) w = (p.from ≡ u) × Chained p.to ps w

-- ---- halving
pub data Half : Type 0 where
  first : Half
  second : Half

-- The part p came of the part from u to w by these halvings, each of a part that did not meet the test.
abbrev pub CameBy : Float → Float → List Half → Point → Point → ArcPart → Type 0
CameBy r limit [] u w p = p ≡ arc_part u w
CameBy r limit (first ∷ hs) u w p = ((bulge r u w ≺ limit) ≡ false) × CameBy r limit hs u (middle r u w) p
CameBy r limit (second ∷ hs) u w p = ((bulge r u w ≺ limit) ≡ false) × CameBy r limit hs (middle r u w) w p

-- The part p, which came of a quarter from u to w by at most `most` halvings, met the test or took them all.
pub record Finished (r limit : Float) (most : ℕ) (u w : Point) (p : ArcPart) : Type 0 where
  pub halvings : List Half
  pub came : CameBy r limit halvings u w p
  pub at_most : length halvings ≤ most
  pub done : ((bulge r p.from p.to ≺ limit) ≡ true) ⊎ (length halvings ≡ most)

abbrev pub AllFinished : Float → Float → ℕ → Point → Point → List ArcPart → Type 0
AllFinished r limit most u w [] = Unit
AllFinished r limit most u w (p ∷ ps) = Finished r limit most u w p × AllFinished r limit most u w ps

-- The parts of one quarter, or of the rest of an arc, from u to w: in order, each finished, one or more and at most 1,024.
pub record QuarterDrawn (r limit : Float) (u w : Point) (ps : List ArcPart) : Type 0 where
  pub chained : Chained u ps w
  pub finished : AllFinished r limit 10 u w ps
  pub some : 1 ≤ length ps
  pub few : length ps ≤ 1024

-- ---- quarter turns
-- The first quarter turn's parts, and behind them those of the rest.
pub record TurnDrawn (Rest : Point → Point → List ArcPart → Type 0) (clockwise : Bool) (r limit : Float) (u w : Point) (ps : List ArcPart) : Type 0 where
  pub front : List ArcPart
  pub rest : List ArcPart
  pub joined : ps ≡ front ++ rest
  pub drawn : QuarterDrawn r limit u (quarter_turn clockwise u) front
  pub others : Rest (quarter_turn clockwise u) w rest

-- So many exact quarter turns from u on, and then the rest up to w, each drawn as a quarter is.
abbrev pub TurnsDrawn : Bool → Float → Float → ℕ → Point → Point → List ArcPart → Type 0
TurnsDrawn clockwise r limit zero u w ps = QuarterDrawn r limit u w ps
TurnsDrawn clockwise r limit (suc k) u w ps = TurnDrawn (TurnsDrawn clockwise r limit k) clockwise r limit u w ps

-- The end w lies beyond v, in the arc's direction, by a quarter turn or less: so the quarter turn of v does not fall strictly before it.
unfoldable pub in_quarter : Bool → Point → Point → Bool
in_quarter clockwise v w = (+0 ≺ onward clockwise v w) && not (dot2 v w ≺ +0)

-- Of so many quarter turns from u on each falls strictly before the end w, and one more would not.
abbrev pub TurnsBefore : Bool → ℕ → Point → Point → Type 0
TurnsBefore clockwise zero u w = in_quarter clockwise u w ≡ true
TurnsBefore clockwise (suc k) u w = (in_quarter clockwise u w ≡ false) × TurnsBefore clockwise k (quarter_turn clockwise u) w

-- ---- the Lines
-- The i-th of n Lines, counted from 1, where i is below n: it ends at the centre plus the vector at which the i-th part ends, and its z is z0 + (z1 − z0) × (i/n).
abbrev pub line_to : Point → Point3D → Point3D → ℕ → ℕ → Point → Command
line_to m a b n i v =
    Line (record { x = m.x ⊕ v.x; y = m.y ⊕ v.y; z = a.z ⊕ (b.z ⊖ a.z) ⊗ (of_int binary64 (pos i) ⊘ of_int binary64 (pos n)) })

-- What the Lines cs that draw the Arc from a with the end b, offset o and normal d are.
pub record Drawing (a b o d : Point3D) (tol : Float) (cs : List Command) : Type 0 where
  pub parts : List ArcPart
  pub turns : ℕ
  -- at most three exact quarter turns, while they fall strictly before the end; each part met the test or the tenth halving
  pub few-turns : turns ≤ 3
  pub before : TurnsBefore (d.z ≺ +0) turns (offset_of (centre_of a o) a) (offset_of (centre_of a o) b)
  pub turned : TurnsDrawn (d.z ≺ +0) (length_by (offset_of (centre_of a o) a)) (tol ⊗ quarter) turns (offset_of (centre_of a o) a) (offset_of (centre_of a o) b) parts
  -- order: from the first vector to the last
  pub chained : Chained (offset_of (centre_of a o) a) parts (offset_of (centre_of a o) b)
  -- one Line for each part: one or more, at most 1,024 a quarter, and so at most 4,096
  pub counted : length cs ≡ length parts
  pub some : 1 ≤ length cs
  pub few : length cs ≤ (turns + 1) * 1024
  pub at_most : length cs ≤ 4096
  -- each Line but the last, whatever stands for a command or a part that is not there
  pub each : (i : ℕ) (c : Command) (p : ArcPart) → i + 1 < length cs → get_or cs i c ≡ line_to (centre_of a o) a b (length cs) (i + 1) (get_or parts i p).to
  -- the last Line ends at the command's own end
  pub last : (c : Command) → get_or cs (length cs - 1) c ≡ Line b

-- Every number that an accepted call writes is finite: of the numbers of its Lines none is an infinity, and none a NaN.
abbrev pub EveryNumberFinite : Type 0
EveryNumberFinite =
    (kind : ℕ) (s : List Float) (a : Point3D) (tol : Float) (kinds numbers : ℕ) (cs : List Command) → flatten_call kind s a tol kinds numbers ≡ gives cs → AllFinite (flat numbers_of cs)
