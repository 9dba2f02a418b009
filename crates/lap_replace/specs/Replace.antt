-- The replacement of one lap: which row of document 01's table refuses it, else the bytes that it writes. Definitions only.
use Rattle.std.specs.Prelude.{ℕ, List, Float}
use Rattle.geo.specs.Outcome.{refusal, Outcome, unless}
use Rattle.pieces.specs.Pieces.{laps_rule}
use Rattle.laps.specs.File.{laps_of, encode}
use Rattle.lap_swap.specs.Swap.{replaced_laps}
use Rattle.lap_checks.specs.Checks.{lent_new, replace_rows}

-- the new commands are lent as the kinds ks and the numbers ns, the output has `room` bytes
unfoldable pub replace_lap : List ℕ → List ℕ → ℕ → List ℕ → List Float → Float → ℕ → Outcome (List ℕ)
replace_lap s f k ks ns tol room =
    unless (refusal (replace_rows s f k (lent_new tol (laps_of s) k ks ns) tol room)) (encode (replaced_laps (laps_rule tol) k ks ns (laps_of s) (laps_of f)))
