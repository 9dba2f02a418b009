-- `lap_checks::checks::moves_placed` meets its contract: `all` along the kinds is the definition's walk. Assumes nothing.
use Rattle.std.proofs.Common.{rules, refl, ◌∙◌, ◌≡◌}
use mathlib.Core.Bool.{Bool, true, false, ◌&&◌, ◌||◌}
use native.Mathlib.Omega.{arith}
use borrow.Author.Tests.{tests}
use lib.Dec.{eqb}
use lib.ListN.{length, get_or}
use Rattle.std.proofs.lemmas.Iterator.{YieldsList-from_range}
use Rattle.std.proofs.lemmas.Iterator.Search.{all_from_yields_List}
use Rattle.geo.proofs.Every.{all_every}
use Rattle.laps.specs.File.{placed}
use Rattle.lap_checks.specs.Checks.{move_placed}
use Rattle.lap_checks.proofs.checks.moves_placed.Goals.{then-must, else-must}
use Rattle.lap_checks.proofs.checks.moves_placed.Goals as goal

-- v is what `a || b` gives
first_holds : (a b v : Bool) → a ≡ true → v ≡ a → v ≡ (a || b)
first_holds a b v e f = rw (f, e)

first_fails : (a b v : Bool) → a ≡ false → v ≡ b → v ≡ (a || b)
first_fails a b v e f = rw e f

pub returns : goal.returns
unfolding move_placed
returns c = let a = c.args in
    let m : c.if-must.moved ≡ (a.must || eqb (get_or a.kinds.now 0 0) 0) = elim c.if-must.branch [ then-must w ↦ first_holds _ _ _ w.if-must.true w.moved-is | else-must w ↦ first_fails _ _ _ w.if-must.false w.moved-is ] in
    let e = all_from_yields_List (λ i. placed (eqb i 0 && c.if-must.moved) (get_or a.kinds.now i 0)) _ _ _ c.all.ensures.ran (YieldsList-from_range 0 (length a.kinds.now) (length a.kinds.now) refl (omega arith)) (λ x b q k. search (rules, tests)) in
    rw (← m) (e ∙ all_every _ _ _)
