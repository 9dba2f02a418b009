-- Finite numbers, as propositions. Definitions only; proofs/FiniteFit.antt and proofs/FiniteCourse.antt show of which fits they hold.
use Rattle.std.specs.Prelude.{◌≡◌, true, List, [], ◌∷◌, Float}
use Rattle.geo.specs.declared.types.Command.{Command}
use Rattle.geo.specs.Lent.{numbers_of}
use Rattle.geo.specs.Domain.{is_finite, command_in}

-- each number of a list is finite: no infinity, no NaN
abbrev pub AllFinite : List Float → Type 0
AllFinite [] = Unit
AllFinite (x ∷ xs) = (is_finite x ≡ true) × AllFinite xs

-- each of the nine numbers of each command is finite
abbrev pub FiniteNumbers : List Command → Type 0
FiniteNumbers [] = Unit
FiniteNumbers (c ∷ cs) = AllFinite (numbers_of c) × FiniteNumbers cs

-- each command is in the domain: ends and controls at most 1,000,000 from zero, offsets and normals finite
abbrev pub CommandsIn : List Command → Type 0
CommandsIn [] = Unit
CommandsIn (c ∷ cs) = (command_in c ≡ true) × CommandsIn cs
