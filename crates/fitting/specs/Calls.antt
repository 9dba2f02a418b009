-- The public calls of the fits of a list of points: which row of document 01's table refuses them, else what they give; and the answer that says so. Definitions only.
use Rattle.std.specs.Prelude.{ℕ, ◌-◌, ◌/◌, not, ◌&&◌, List, [], ◌∷◌, ◌++◌, length, ltb, Float}
use Rattle.geo.specs.declared.types.Command.{Command}
use Rattle.geo.specs.Lent.{point_at}
use Rattle.geo.specs.Domain.{tolerance, whole}
use Rattle.geo.specs.Outcome.{Row, row, refusal, Outcome, refused, gives, unless}
use Rattle.circle.specs.Calls.{points_rows}
use Rattle.pieces.specs.Pieces.{points_rule, ranges_in}
use Rattle.pieces.specs.Commands.{fit_in, worst_in}
use Rattle.fitting.specs.declared.fitting.Primitives.{Primitives}

-- ---- fit_points_recursive: of the points s from lo to hi, to outputs of `kinds` kinds, `numbers` numbers and `places` worst steps. Its most is hi - lo, 0 where lo is not
-- below hi
unfoldable pub fit_rows : List Float → Float → ℕ → ℕ → ℕ → ℕ → ℕ → List Row
fit_rows s tol lo hi kinds numbers places =
    row 1 (not (whole 9 numbers))
    ∷ (points_rows s
    ++ (row 6 (not (tolerance tol))
    ∷ row 7 (ltb lo hi && not (ltb hi (length s / 3)))
    ∷ row 9 (ltb kinds (hi - lo))
    ∷ row 9 (ltb (numbers / 9) (hi - lo))
    ∷ row 9 (ltb places (hi - lo))
    ∷ []))

unfoldable pub fit_call : List Float → Float → ℕ → ℕ → ℕ → ℕ → ℕ → Outcome (List Command)
fit_call s tol lo hi kinds numbers places = unless (refusal (fit_rows s tol lo hi kinds numbers places)) (fit_in (points_rule tol) (point_at s) lo hi)

-- the worst step of each command, for the list that is lent for them: it is left alone where the call is refused
unfoldable pub worst_call : List Float → Float → ℕ → ℕ → ℕ → ℕ → ℕ → Outcome (List ℕ)
worst_call s tol lo hi kinds numbers places = unless (refusal (fit_rows s tol lo hi kinds numbers places)) (worst_in (points_rule tol) (point_at s) lo hi)

-- ---- fit_points_with_primitives: all points, from the first to the last. Their last index is inside them, so row 7 refuses none
abbrev pub primitives_call : List Float → Float → ℕ → ℕ → ℕ → Outcome (List Command)
primitives_call s tol kinds numbers places = fit_call s tol 0 (length s / 3 - 1) kinds numbers places

abbrev pub primitives_worst : List Float → Float → ℕ → ℕ → ℕ → Outcome (List ℕ)
primitives_worst s tol kinds numbers places = worst_call s tol 0 (length s / 3 - 1) kinds numbers places

-- It reports how many ranges it examined, counted by the fit's definition,
abbrev pub examined : List Float → Float → ℕ
examined s tol = ranges_in (points_rule tol) (point_at s) 0 (length s / 3 - 1)

-- beside the count of commands.
unfoldable pub primitives_answer : Outcome (List Command) → ℕ → Outcome Primitives
primitives_answer (refused n) ranges = refused n
primitives_answer (gives xs) ranges = gives record { count = length xs; ranges = ranges }
