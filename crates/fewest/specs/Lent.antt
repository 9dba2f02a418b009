-- The code's own way: what `find` leaves and returns. What a reader has to believe stands in Straights.antt and Calls.antt. Definitions only.
use Rattle.std.specs.Prelude.{◌≡◌, List, length, Float}
use Rattle.std.proofs.lemmas.List.Edits.{sets}
use Rattle.geo.specs.Lent.{flat}
use Rattle.ways.specs.Layers.{Best}
use Rattle.fewest.specs.declared.fewest.Counts.{Counts}
use Rattle.fewest.specs.Straights.{numbers_at}

-- the best b is given: its ends are written from the front of `out` on, the numbers are returned
pub record Gave (s : List Float) (b : Best) (out out' : List Float) (r : Counts) : Type 0 where
  pub count : r.count ≡ length b.ends
  pub tested : r.tested ≡ b.tested
  pub bound : r.bound ≡ b.bound
  pub ends : out' ≡ sets out 0 (flat (numbers_at s) b.ends)
