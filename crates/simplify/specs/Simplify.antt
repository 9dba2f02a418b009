-- The three public calls: what each refuses, and what it writes. Definitions only.
use Rattle.std.specs.Prelude.{ℕ, ◌/◌, not, List, [], ◌∷◌, ◌++◌, length, ltb, Float}
use Rattle.floats.specs.Ops.{◌⊗◌}
use Rattle.geo.specs.declared.types.Point.{Point}
use Rattle.geo.specs.declared.types.Point3D.{Point3D}
use Rattle.geo.specs.declared.types.Command.{Command}
use Rattle.geo.specs.Outcome.{Row, row, refusal, Outcome, unless}
use Rattle.geo.specs.Lent.{pair, triple, pair_at, point_at, command_at}
use Rattle.geo.specs.Domain.{most_points, whole, coordinate, numbers_in, tolerance}
use Rattle.geo.specs.Commands.{input_rows}
use Rattle.farthest.specs.Measure.{Measure, plane_sq, line_sq}
use Rattle.simplify.specs.Thin.{thinned_points}
use Rattle.simplify.specs.Data.{thinned_commands}

-- ---- points of `width` numbers each: what is refused of the numbers s, the tolerance t and an output of `room` numbers
abbrev pub point_rows : ℕ → List Float → Float → ℕ → List Row
point_rows width s t room =
    row 1 (not (whole width (length s)))
    ∷ row 1 (not (whole width room))
    ∷ row 2 (ltb most_points (length s / width))
    ∷ row 5 (not (numbers_in coordinate s))
    ∷ row 6 (not (tolerance t))
    ∷ row 9 (ltb (room / width) (length s / width))
    ∷ []

-- Points as they are lent: how many numbers each has, how one is laid out, how the i-th is read, and how points are measured.
pub record Form (P : Type 0) : Type 0 where
  pub width : ℕ
  pub lay : P → List Float
  pub read : List Float → ℕ → P
  pub measure : Measure P

-- points of a form, thinned
abbrev pub simplify_form : {P : Type 0} → Form P → List Float → Float → ℕ → Outcome (List P)
simplify_form f s t room =
    unless (refusal (point_rows f.width s t room)) (thinned_points f.measure (t ⊗ t) (f.read s) (length s / f.width))

-- simplify_polyline: pairs
abbrev pub pairs : Form Point
pairs = record { width = 2; lay = pair; read = pair_at; measure = plane_sq }

unfoldable pub simplify_polyline : List Float → Float → ℕ → Outcome (List Point)
unfolding refusal unless plane_sq thinned_points pair_at
simplify_polyline s t room = simplify_form pairs s t room

-- simplify_polyline_3d: triples
abbrev pub triples : Form Point3D
triples = record { width = 3; lay = triple; read = point_at; measure = line_sq }

unfoldable pub simplify_polyline3d : List Float → Float → ℕ → Outcome (List Point3D)
unfolding refusal unless line_sq thinned_points point_at
simplify_polyline3d s t room = simplify_form triples s t room

-- ---- commands: what is refused of the kinds ks, the numbers ns, the tolerance t and outputs of `kinds` kinds and `numbers` numbers
abbrev pub command_rows : List ℕ → List Float → Float → ℕ → ℕ → List Row
command_rows ks ns t kinds numbers =
    input_rows ks ns t numbers ++ (row 9 (ltb kinds (length ks)) ∷ row 9 (ltb (numbers / 9) (length ks)) ∷ [])

-- simplify_data
unfoldable pub simplify_data : List ℕ → List Float → Float → ℕ → ℕ → Outcome (List Command)
unfolding refusal unless thinned_commands command_at
simplify_data ks ns t kinds numbers =
    unless (refusal (command_rows ks ns t kinds numbers)) (thinned_commands (t ⊗ t) (command_at ks ns) (length ks))
