-- The public call: which row of the table refuses it, else what it gives; and the answer that says so. Definitions only.
use Rattle.std.specs.Prelude.{ℕ, ◌/◌, not, List, [], ◌∷◌, length, ltb, Float}
use Rattle.geo.specs.Domain.{coordinate, numbers_in, tolerance, whole}
use Rattle.geo.specs.Outcome.{Row, row, refusal, Outcome, refused, gives, unless}
use Rattle.ways.specs.Layers.{Best}
use Rattle.fewest.specs.declared.fewest.Counts.{Counts}
use Rattle.fewest.specs.Straights.{least_points, most_points, last_of, fewest_of}

-- of the numbers s of the points, the tolerance, and an output of `room` numbers; any budget is accepted. "its most is points − 1"
unfoldable pub straights_rows : List Float → Float → ℕ → List Row
straights_rows s t room =
    row 1 (not (whole 3 (length s)))
    ∷ row 1 (not (whole 3 room))
    ∷ row 2 (ltb (length s / 3) least_points)
    ∷ row 2 (ltb most_points (length s / 3))
    ∷ row 5 (not (numbers_in coordinate s))
    ∷ row 6 (not (tolerance t))
    ∷ row 9 (ltb (room / 3) (last_of s))
    ∷ []

unfoldable pub straights_call : List Float → Float → ℕ → ℕ → Outcome Best
straights_call s t budget room = unless (refusal (straights_rows s t room)) (fewest_of s t budget)

-- the count of Lines, the pairs tested and the lower bound
unfoldable pub straights_answer : Outcome Best → Outcome Counts
straights_answer (refused n) = refused n
straights_answer (gives b) = gives record { count = length b.ends; tested = b.tested; bound = b.bound }

-- the ends that are written
unfoldable pub ends_given : Outcome Best → Outcome (List ℕ)
ends_given (refused n) = refused n
ends_given (gives b) = gives b.ends
