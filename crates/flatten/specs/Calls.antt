-- The public call: which rows refuse it, else the Lines that it gives. Definitions only.
use Rattle.std.specs.Prelude.{ℕ, ◌/◌, Bool, not, ◌&&◌, List, [], ◌∷◌, length, eqb, ltb, Float}
use Rattle.std.specs.Float.Ieee.{eq}
use Rattle.floats.specs.Ops.{◌≺◌, ◌⊖◌, +0, one}
use Rattle.floats.specs.Float.{abs_of}
use Rattle.geo.specs.declared.types.Point.{Point}
use Rattle.geo.specs.declared.types.Point3D.{Point3D}
use Rattle.geo.specs.declared.types.Command.{Command}
use Rattle.geo.specs.Lent.{point_at, command_of}
use Rattle.geo.specs.Domain.{point3_in, tolerance, whole, formed, command_in}
use Rattle.geo.specs.Outcome.{Row, row, refusal, Outcome, unless}
use Rattle.floats.specs.Limits.{nano}
use Rattle.trial.specs.Traversal.{offset_of}
use Rattle.flatten.specs.Parts.{centre_of, length_by}
use Rattle.flatten.specs.Lines.{drawn}

-- it writes at most so many Lines
abbrev pub most_lines : ℕ
most_lines = 4096

-- the normal is (0, 0, 1) or (0, 0, −1) by value
unfoldable pub upright : Point3D → Bool
upright d = eq d.x +0 && (eq d.y +0 && eq (abs_of d.z) one)

-- neither radius is below 1e-9, and they are less than the tolerance apart
unfoldable pub near_radii : Float → Float → Float → Bool
near_radii tol r s = not (r ≺ nano) && (not (s ≺ nano) && (abs_of (s ⊖ r) ≺ tol))

-- the radii at the start a and at the end b, round the centre m
unfoldable pub round_by : Float → Point → Point3D → Point3D → Bool
round_by tol m a b = near_radii tol (length_by (offset_of m a)) (length_by (offset_of m b))

-- row 11's words: an Arc, its normal, its offset and its radii
unfoldable pub drawable : ℕ → Point3D → Point3D → Point3D → Point3D → Float → Bool
drawable kind a b o d tol = eqb kind 2 && (upright d && (point3_in o && round_by tol (centre_of a o) a b))

-- of a command lent as its kind and its numbers s, from the start a, to outputs of `kinds` kinds and `numbers` numbers
unfoldable pub flatten_rows : ℕ → List Float → Point3D → Float → ℕ → ℕ → List Row
flatten_rows kind s a tol kinds numbers =
    row 1 (not (eqb (length s) 9))
    ∷ row 1 (not (whole 9 numbers))
    ∷ row 4 (not (formed kind (point_at s 1) (point_at s 2)))
    ∷ row 5 (not (command_in (command_of kind (point_at s 0) (point_at s 1) (point_at s 2))))
    ∷ row 5 (not (point3_in a))
    ∷ row 6 (not (tolerance tol))
    ∷ row 11 (not (drawable kind a (point_at s 0) (point_at s 1) (point_at s 2) tol))
    ∷ row 9 (ltb kinds most_lines)
    ∷ row 9 (ltb (numbers / 9) most_lines)
    ∷ []

unfoldable pub flatten_call : ℕ → List Float → Point3D → Float → ℕ → ℕ → Outcome (List Command)
flatten_call kind s a tol kinds numbers =
    unless (refusal (flatten_rows kind s a tol kinds numbers)) (drawn a (point_at s 0) (point_at s 1) (point_at s 2) tol)
