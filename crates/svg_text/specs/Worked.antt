-- Texts of path data and what they name, or that they break the rules: one table. Definitions only; proofs/Worked.antt shows that it holds.
use Rattle.std.specs.Prelude.{ℕ, ◌≡◌, List, [], ◌∷◌, pos, negsuc}
use Prim.Native.Char.{code}
use Prim.Native.String as text
use Prim.Native.String.{String}
use Rattle.geo.specs.Outcome.{Outcome, refused, gives}
use Rattle.svg_text.specs.Path.{Drawn, move, line, curve, named}

-- a text of letters, digits and signs as its bytes
abbrev pub as_bytes : String → List ℕ
as_bytes text.[] = []
as_bytes (text.◌∷◌ c t) = code c ∷ as_bytes t

-- what a text names
abbrev pub says : String → Outcome (List Drawn)
says t = named (as_bytes t)

pub record WorkedTexts : Type 0 where
  pub nothing : says "" ≡ gives []
  pub one-move : says "M 0 0" ≡ gives (move (pos 0) (pos 0) ∷ [])
  pub signs : says "M -1.5 2" ≡ gives (move (negsuc 1499) (pos 2000) ∷ [])
  pub minus-nought : says "M -0 -0.000" ≡ gives (move (pos 0) (pos 0) ∷ [])
  pub leading_noughts : says "M 0000001 0.5" ≡ gives (move (pos 1000) (pos 500) ∷ [])
  pub decimals : says "M 0.5 0.05" ≡ gives (move (pos 500) (pos 50) ∷ [])
  pub all_digits : says "M 9999999.999 -9999999.999" ≡ gives (move (pos 9999999999) (negsuc 9999999998) ∷ [])
  pub two-laps : says "M 1 2 L 3 4 M 5 6" ≡ gives (move (pos 1000) (pos 2000) ∷ line (pos 3000) (pos 4000) ∷ move (pos 5000) (pos 6000) ∷ [])
  pub a_curve : says "M 0 0 C 1 2 3 4 5 6" ≡ gives (move (pos 0) (pos 0) ∷ curve (pos 1000) (pos 2000) (pos 3000) (pos 4000) (pos 5000) (pos 6000) ∷ [])
  pub line_first : says "L 1 2" ≡ refused 14
  pub relative : says "m 1 2" ≡ refused 14
  pub no_space : says "M1 2" ≡ refused 14
  pub comma : says "M 1,2" ≡ refused 14
  pub two_spaces : says "M  1 2" ≡ refused 14
  pub space-first : says " M 1 2" ≡ refused 14
  pub space-last : says "M 1 2 " ≡ refused 14
  pub plus : says "M +1 2" ≡ refused 14
  pub two-minus : says "M --1 2" ≡ refused 14
  pub point-last : says "M 1. 2" ≡ refused 14
  pub point-first : says "M .5 2" ≡ refused 14
  pub eight-digits : says "M 12345678 2" ≡ refused 14
  pub four-decimals : says "M 1.2345 2" ≡ refused 14
  pub exponent : says "M 1e3 2" ≡ refused 14
  pub no_letter : says "M 1 2 3 4" ≡ refused 14
  pub half_a_point : says "M 1" ≡ refused 14
  pub half_a_curve : says "M 0 0 C 1 2 3 4" ≡ refused 14
  pub closed : says "M 1 2 Z" ≡ refused 14
