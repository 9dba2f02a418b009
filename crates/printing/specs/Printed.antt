-- The bytes that a program prints of what a call comes to. Definitions only.
use Rattle.std.specs.Prelude.{ℕ, List}
use Rattle.geo.specs.Outcome.{Outcome, refused, gives}
use Rattle.lap_text.specs.Text.{refusal_text}

-- what the call gives, or the one line of a refusal
unfoldable pub printed : Outcome (List ℕ) → List ℕ
printed (refused n) = refusal_text n
printed (gives bytes) = bytes
