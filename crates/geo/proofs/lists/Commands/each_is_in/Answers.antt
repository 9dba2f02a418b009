-- `geo::lists::Commands::each_is_in` meets its contract: `all` along the commands is the definition's walk. Assumes nothing.
use Rattle.std.proofs.Common.{rules, refl, ◌∙◌}
use native.Mathlib.Omega.{arith}
use lib.ListN.{length}
use Rattle.std.proofs.lemmas.Iterator.{YieldsList-from_range}
use Rattle.std.proofs.lemmas.Iterator.Search.{all_from_yields_List}
use Rattle.geo.specs.Lent.{command_at}
use Rattle.geo.specs.Domain.{command_in, commands_in}
use Rattle.geo.proofs.Every.{all_every}
use Rattle.geo.proofs.lists.Commands.each_is_in.Goals as goal

pub returns : goal.returns
unfolding commands_in
returns c = let a = c.args.self in
    all_from_yields_List (λ i. command_in (command_at a.kinds.now a.nums.now i)) _ _ _ c.all.ensures.ran (YieldsList-from_range 0 (length a.kinds.now) (length a.kinds.now) refl (omega arith)) (λ x b q k. search rules) ∙ all_every _ _ _
