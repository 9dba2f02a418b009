-- `farthest::farthest::Search::new` meets its contract: below every spread the search is sound. Assumes nothing.
use lib.Ieee.{neg, of_bits}
use Rattle.farthest.proofs.Search.{sound_start}
use Rattle.farthest.proofs.farthest.Search.new.Goals as goal

pub invariant_of-result : goal.invariant_of-result
unfolding neg of_bits
invariant_of-result c = record { sound = sound_start c.args.chord _ _ c.new.ensures }
