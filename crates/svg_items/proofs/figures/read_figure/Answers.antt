-- `svg_items::figures::read_figure` meets its contract. Assumes nothing.
use Rattle.std.proofs.Common.{◌≡◌, refl, [], arith}
use Rattle.std.proofs.lemmas.Grind.{common_steps}
use Rattle.svg_text.specs.Path.{broken, digits, units, unsigned, number, signed}
use Rattle.svg_items.proofs.figures.read_figure.Goals.{in-45, in_default, in_default-via-then-s-lt1, in_default-via-else-s-lt1+in_default-1}
use Rattle.svg_items.proofs.figures.read_figure.Goals as goal

nothing_there : unsigned [] ≡ broken
unfolding unsigned units digits
nothing_there = refl

pub returns-clause-reads : goal.returns-clause-reads
unfolding number signed
returns-clause-reads c =
    elim c.if-s-lt1.branch [
      | in-45 w ↦ rw (c.with_sign.ensures, w.minus-is) (grind (arith, common_steps))
      | in_default w ↦ rw (c.with_sign.ensures, w.minus-is) (elim w.in_default.branch [
        | in_default-via-then-s-lt1 w' ↦ let n = nothing_there in grind (arith, common_steps)
        | in_default-via-else-s-lt1+in_default-1 w' ↦ grind (arith, common_steps)
      ])
    ]
