-- What document 02, §10 says of the answer, as propositions over the set of all ways. Definitions only; proofs/Straights.antt shows that they hold.
use Rattle.std.specs.Prelude.{ℕ, ◌/◌, ◌≤◌, ◌≡◌, List, length, Float}
use Rattle.ways.specs.Way.{Way, Fewest, all_pairs}
use Rattle.ways.specs.Layers.{Best}
use Rattle.fewest.specs.Straights.{last_of, passing, cut_ends, fewest_of}

-- of the points s, a tolerance t, a budget, and what a call of them gives
pub record Promised (s : List Float) (t : Float) (budget : ℕ) (b : Best) : Type 0 where
  -- "a polyline from the first to the last recorded point, forward through points of the list, [...] each pair's line deviation below the tolerance"
  pub way : Way (passing s t) 0 (last_of s) b.ends
  -- "its most is points − 1"
  pub most : length b.ends ≤ last_of s
  -- "The best so far starts [...] as the recursive line-only cut": that is a way too
  pub cut-way : Way (passing s t) 0 (last_of s) (cut_ends s t 0 (last_of s))
  -- "The true fewest lies between bound and count",
  pub between : (m : ℕ) → Fewest (passing s t) (last_of s) m → (b.bound ≤ m) × (m ≤ length b.ends)
  -- and there is a true fewest: what a budget of all pairs gives
  pub true_fewest : Fewest (passing s t) (last_of s) (length (fewest_of s t (all_pairs (length s / 3))).ends)
  -- "they are equal if the budget is at least points × (points − 1)/2", and so both are the fewest
  pub equal : all_pairs (length s / 3) ≤ budget → length b.ends ≡ b.bound
  pub exact : all_pairs (length s / 3) ≤ budget → Fewest (passing s t) (last_of s) (length b.ends)
  -- never more pairs are tested than the budget, nor than there are
  pub paid : b.tested ≤ budget
  pub pairs : b.tested ≤ all_pairs (length s / 3)
  -- "Else it stops only when a pair is due and the budget is spent": so where count and bound differ all of it is spent
  pub spent_else : (length b.ends ≡ b.bound → ⊥) → b.tested ≡ budget
