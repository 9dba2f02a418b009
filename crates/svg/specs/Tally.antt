-- The code's own way: the first walk over a text counts its laps and commands, and notes whether each number lies in the domain. Definitions only.
use Rattle.std.specs.Prelude.{ℕ, ◌+◌, Bool, ◌&&◌, List, length}
use Rattle.geo.specs.Outcome.{Outcome, refused, gives}
use Rattle.svg.specs.declared.tally.Tally.{Tally}
use Rattle.svg_text.specs.Path.{Drawn}
use Rattle.svg.specs.Course.{laps_drawn, all_in}

-- what was counted so far, and what the rest of the text adds
unfoldable pub tally_of : ℕ → ℕ → Bool → Outcome (List Drawn) → Outcome Tally
tally_of laps commands inside (refused n) = refused n
tally_of laps commands inside (gives cs) = gives (record { laps = laps + length (laps_drawn cs); commands = commands + length cs; inside = inside && all_in cs })
