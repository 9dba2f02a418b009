-- How many ranges `fit_points_with_primitives` examines (document 02, §7). Definitions only; proofs/Examined.antt shows that it holds.
use Rattle.std.specs.Prelude.{ℕ, ◌-◌, ◌*◌, ◌/◌, ◌≤◌, ◌<◌, ◌≡◌, List, length, Float}
use Rattle.geo.specs.declared.types.Command.{Command}
use Rattle.geo.specs.Lent.{point_at}
use Rattle.geo.specs.Outcome.{gives}
use Rattle.pieces.specs.Pieces.{points_rule, pieces_in}
use Rattle.fitting.specs.Calls.{primitives_call, examined}

-- the pieces of all points
abbrev pub pieces_of : List Float → Float → ℕ
pieces_of s tol = length (pieces_in (points_rule tol) (point_at s) 0 (length s / 3 - 1))

-- "It is 0 below two points, else 2 × pieces − 1, and so at most 2 × points − 3": of every call that is accepted, which writes one command for each piece.
pub record RangesOf (s : List Float) (tol : Float) (xs : List Command) : Type 0 where
  pub none : length s / 3 < 2 → examined s tol ≡ 0
  pub some : 2 ≤ length s / 3 → examined s tol ≡ 2 * pieces_of s tol - 1
  pub most : 2 ≤ length s / 3 → examined s tol ≤ 2 * (length s / 3) - 3
  pub pieces : length xs ≡ pieces_of s tol

abbrev pub RangesExamined : Type 0
RangesExamined = (s : List Float) (tol : Float) (kinds numbers places : ℕ) (xs : List Command) → primitives_call s tol kinds numbers places ≡ gives xs → RangesOf s tol xs
