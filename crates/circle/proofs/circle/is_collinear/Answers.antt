-- `circle::circle::is_collinear` meets its contract: by the number of points and the length of the chord. Assumes nothing.
use Rattle.std.proofs.Common.{rules, refl, ◌∙◌, ◌+◌, ◌-◌}
use native.Mathlib.Omega.{arith}
use borrow.Author.Tests.{tests, le-ltb}
use Rattle.std.proofs.lemmas.Iterator.{YieldsList-from_range}
use Rattle.std.proofs.lemmas.Iterator.Search.{all_from_yields_List}
use Rattle.geo.specs.Lent.{point_at}
use Rattle.circle.specs.Collinear.{collinear, collinear_by, near_to, all_near, beside_of, all_beside}
use Rattle.geo.proofs.Every.{all_every}
use Rattle.circle.proofs.circle.is_collinear.Goals as goal

pub returns-then-c : goal.returns-then-c
unfolding collinear collinear_by all_near
returns-then-c c = let a = c.args in
    let e = all_from_yields_List (λ i. near_to c.new-c.result a.tolerance (point_at a.stretch.points.now i)) _ _ _ c.all.ensures.ran (YieldsList-from_range a.stretch.start (a.stretch.end + 1) (a.stretch.end + 1 - a.stretch.start) refl refl) (λ x b q k. search (rules, tests)) in
    rw (le-ltb (a.stretch.end - a.stretch.start) 2 (omega (arith, c.if-stretch.false)), ← c.first.ensures, ← c.last.ensures, ← c.new-c.ensures, c.if-c.true) (e ∙ all_every _ _ _)

pub returns : goal.returns
unfolding collinear collinear_by all_beside
returns c = let a = c.args in
    let e = all_from_yields_List (λ i. beside_of c.new-c.result a.tolerance (point_at a.stretch.points.now i)) _ _ _ c.all-2.ensures.ran (YieldsList-from_range (a.stretch.start + 1) a.stretch.end (a.stretch.end - (a.stretch.start + 1)) refl refl) (λ x b q k. search (rules, tests)) in
    rw (le-ltb (a.stretch.end - a.stretch.start) 2 (omega (arith, c.if-stretch.false)), ← c.first.ensures, ← c.last.ensures, ← c.new-c.ensures, c.if-c.false) (e ∙ all_every _ _ _)
