-- src/constants.rs: its eight limits as fractions, in that file's order. Definitions only.
use Rattle.std.specs.Prelude.{◌^◌, List, [], ◌∷◌, Float}
use Rattle.floats.specs.Limits.{fraction}

-- gap close, collinear, intersect; the scale of clipper; nest, medium, merge, boundary
unfoldable pub constants : List Float
constants =
    fraction 1 (10 ^ 6)
    ∷ fraction 1 (10 ^ 9)
    ∷ fraction 1 (10 ^ 12)
    ∷ fraction (10 ^ 7) 1
    ∷ fraction 1 (10 ^ 4)
    ∷ fraction 1 (10 ^ 5)
    ∷ fraction 1 (10 ^ 5)
    ∷ fraction 1 10
    ∷ []
