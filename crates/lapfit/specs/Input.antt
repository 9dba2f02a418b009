-- What the program prints of its input. Definitions only.
use Rattle.std.specs.Prelude.{ℕ, List}
use Rattle.lap_rows.specs.Listing.{most_text}
use Rattle.printing.specs.Input.{list_input}
use Rattle.printing.specs.Printed.{printed}

-- the bytes that it prints: the listing, which ends with the sum of the steps, or the one line of a refusal; there is room for the text of 800 rows, which is the most that
-- row 8 lets through
unfoldable pub lapfit_text : List ℕ → List ℕ
lapfit_text s = printed (list_input s (most_text 800))
