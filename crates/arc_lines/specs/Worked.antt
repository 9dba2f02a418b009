-- Worked Arcs of radius 5 round the origin from (5, 0, 0), as one table of whole calls. Definitions only; proofs/Worked.antt shows each by evaluation.
use Rattle.std.specs.Prelude.{ℕ, ◌≡◌, List, [], ◌∷◌, Float}
use Rattle.std.specs.Float.Ieee.{neg}
use Rattle.floats.specs.Ops.{◌⊗◌, ◌⊘◌, +0, half, one, two, three}
use Rattle.floats.specs.Limits.{fraction, nano}
use Rattle.floats.specs.Root.{root_of}
use Rattle.geo.specs.declared.types.Point3D.{Point3D}
use Rattle.geo.specs.declared.types.Command.{Command}
use Rattle.geo.specs.declared.types.Command.TheVariants.{Line}
use Rattle.geo.specs.Outcome.{Outcome, refused, gives}
use Rattle.flatten.specs.Calls.{flatten_call}

abbrev pub four : Float
four = fraction 4 1

abbrev pub five : Float
five = fraction 5 1

abbrev pub eight : Float
eight = fraction 8 1

abbrev pub ten : Float
ten = fraction 10 1

-- the middle of (5, 0) and (0, 5): their sum (5, 5) divided by its length, the root of 50, and then multiplied by 5
abbrev pub diagonal : Float
diagonal = five ⊘ root_of (fraction 50 1) ⊗ five

abbrev pub point : Float → Float → Float → Point3D
point x y z = record { x = x; y = y; z = z }

abbrev pub line : Float → Float → Float → Command
line x y z = Line (point x y z)

-- the command of this kind from (5, 0, 0), with the offset (ox, 0, 0), to (x, y, z), with the normal (0, 0, d), at the tolerance tol, to outputs of so many kinds and numbers
abbrev pub offset_call : ℕ → Float → Float → Float → Float → Float → Float → ℕ → ℕ → Outcome (List Command)
offset_call kind ox x y z d tol kinds numbers =
    flatten_call kind (x ∷ y ∷ z ∷ ox ∷ +0 ∷ +0 ∷ +0 ∷ +0 ∷ d ∷ []) (point five +0 +0) tol kinds numbers

-- round the origin, with room enough
abbrev pub arc-to : Float → Float → Float → Float → Float → Outcome (List Command)
arc-to x y z d tol = offset_call 2 (neg five) x y z d tol 4096 36864

pub record WorkedArcs : Type 0 where
  -- a quarter, halved once; at twice the tolerance one Line
  pub quarter : arc-to +0 five ten one four ≡ gives (line diagonal diagonal five ∷ line +0 five ten ∷ [])
  pub quarter-coarse : arc-to +0 five ten one eight ≡ gives (line +0 five ten ∷ [])
  -- a half circle, clockwise: one quarter turn falls before its end
  pub half_circle : arc-to (neg five) +0 one (neg one) eight ≡ gives (line +0 (neg five) half ∷ line (neg five) +0 one ∷ [])
  -- three quarters: the last quarter turn falls on the end, and not before it
  pub three_quarters : arc-to +0 (neg five) three one eight ≡ gives (line +0 five one ∷ line (neg five) +0 two ∷ line +0 (neg five) three ∷ [])
  -- a full circle: it ends where it starts; and on the same ray
  pub full_circle : arc-to five +0 four one eight ≡ gives (line +0 five one ∷ line (neg five) +0 two ∷ line +0 (neg five) three ∷ line five +0 four ∷ [])
  pub same_ray : arc-to ten +0 four one eight ≡ gives (line +0 five one ∷ line (neg five) +0 two ∷ line +0 (neg five) three ∷ line ten +0 four ∷ [])
  -- the end's radius is 10: it differs by 5, refused at the tolerances 4 and 5, and drawn at 8
  pub radius_off : arc-to +0 ten ten one four ≡ refused 11
  pub radius_at_tolerance : arc-to +0 ten ten one five ≡ refused 11
  pub radius-near : arc-to +0 ten ten one eight ≡ gives (line +0 ten ten ∷ [])
  -- a Line with numbers that it does not use; a Bezier; an unknown kind
  pub ill_formed : offset_call 1 (neg five) +0 five ten one four 4096 36864 ≡ refused 4
  pub no_arc : offset_call 3 (neg five) +0 five ten one four 4096 36864 ≡ refused 11
  pub no_kind : offset_call 4 (neg five) +0 five ten one four 4096 36864 ≡ refused 4
  -- another normal; an offset above 1,000,000; a start at the centre
  pub normal : arc-to +0 five ten two four ≡ refused 11
  pub far_offset : offset_call 2 (fraction 1000001 1) +0 five ten one four 4096 36864 ≡ refused 11
  pub no_radius : offset_call 2 +0 +0 five ten one four 4096 36864 ≡ refused 11
  -- a tolerance below the domain comes before them all
  pub tolerance : offset_call 3 (neg five) +0 five ten one nano 4096 36864 ≡ refused 6
  -- room for 4,095 kinds; room for 4,095 times nine numbers; numbers that are no whole commands
  pub no_room : offset_call 2 (neg five) +0 five ten one four 4095 36864 ≡ refused 9
  pub no_room-numbers : offset_call 2 (neg five) +0 five ten one four 4096 36855 ≡ refused 9
  pub not_whole : offset_call 2 (neg five) +0 five ten one four 4096 36865 ≡ refused 1
