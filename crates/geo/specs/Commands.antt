-- What is refused of lent commands, which are their kinds and their numbers, with a tolerance and an output. Definitions only.
use Rattle.std.specs.Prelude.{ℕ, ◌*◌, not, List, [], ◌∷◌, eqb, ltb, Float, length}
use Rattle.geo.specs.Outcome.{Row, row}
use Rattle.geo.specs.Domain.{most_commands, whole, tolerance, commands_formed, commands_in}

-- rows 1 to 6, of the kinds ks, the numbers ns, the tolerance t and an output of `numbers` numbers
abbrev pub input_rows : List ℕ → List Float → Float → ℕ → List Row
input_rows ks ns t numbers =
    row 1 (not (eqb (length ns) (9 * length ks)))
    ∷ row 1 (not (whole 9 numbers))
    ∷ row 2 (ltb most_commands (length ks))
    ∷ row 4 (not (commands_formed ks ns))
    ∷ row 5 (not (commands_in ks ns))
    ∷ row 6 (not (tolerance t))
    ∷ []
