-- `laps::lap_file::all_pass` meets its contract: each lap is tested by its index. Assumes nothing.
use Rattle.std.proofs.Common.{rules, refl, ◌∙◌, ◌-◌}
use mathlib.Core.List.{[]}
use lib.Dec.{eqb}
use lib.ListN.{get_or}
use native.Mathlib.Omega.{arith}
use borrow.Author.Tests.{tests}
use Rattle.std.proofs.lemmas.Iterator.{YieldsList-from_range}
use Rattle.std.proofs.lemmas.Iterator.Search.{all_from_yields_List}
use Rattle.laps.specs.File.{laps_of, lap_tested}
use Rattle.laps.proofs.Turns.{length_laps_of}
use Rattle.laps.proofs.Walks.{all_laps}
use Rattle.laps.proofs.lap_file.all_pass.Goals as goal

pub returns : goal.returns
returns g c = let s = c.args.file.bytes.now in let n = length_laps_of s in let l = c.lap_count.result in
    all_from_yields_List (λ j. lap_tested g.T.Test.asks (eqb j 0) (get_or (laps_of s) j [])) _ _ _ c.all.ensures.ran (YieldsList-from_range 0 l (l - 0) refl refl) (λ x b q k. search (rules, tests))
    ∙ all_laps g.T.Test.asks (laps_of s) _ 0 (omega arith)
