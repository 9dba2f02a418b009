-- What `lapfit` makes of its input: "eight bytes of tolerance, then a lap file"; "input below 16 bytes gives 1" (document 01). Definitions only.
use Rattle.std.specs.Prelude.{ℕ, List, length, drop, ltb, if◌then◌else◌}
use Rattle.geo.specs.Outcome.{Outcome, refused}
use Rattle.file.specs.Bytes.{number_at}
use Rattle.lap_rows.specs.Listing.{list_file}

unfoldable pub list_input : List ℕ → ℕ → Outcome (List ℕ)
list_input s room = if ltb (length s) 16 then refused 1 else list_file (drop 8 s) (number_at s 0) room
