-- `geo::lists::Commands::are_formed` meets its contract: `all` along the commands is the definition's walk. Assumes nothing.
use Rattle.std.proofs.Common.{rules, refl, ◌∙◌, ◌+◌, ◌*◌}
use native.Mathlib.Omega.{arith}
use lib.ListN.{length, get_or}
use Rattle.std.proofs.lemmas.Iterator.{YieldsList-from_range}
use Rattle.std.proofs.lemmas.Iterator.Search.{all_from_yields_List}
use Rattle.geo.specs.Lent.{point_at}
use Rattle.geo.specs.Domain.{formed, commands_formed}
use Rattle.geo.proofs.Every.{all_every}
use Rattle.geo.proofs.lists.Commands.are_formed.Goals as goal

pub returns : goal.returns
unfolding commands_formed
returns c = let a = c.args.self in
    all_from_yields_List (λ i. formed (get_or a.kinds.now i 0) (point_at a.nums.now (3 * i + 1)) (point_at a.nums.now (3 * i + 2))) _ _ _ c.all.ensures.ran (YieldsList-from_range 0 (length a.kinds.now) (length a.kinds.now) refl (omega arith)) (λ x b q k. search rules) ∙ all_every _ _ _
