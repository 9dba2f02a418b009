-- Document 02, §11, in words that can be checked. Definitions only; `proofs/Demand.antt` and `proofs/Grammar.antt` have the proofs.
use Rattle.std.specs.Prelude.{ℕ, ◌≤◌, ◌≡◌, List, [], ◌∷◌, map, length, Float}
use Rattle.geo.specs.Lent.{flat}
use Rattle.geo.specs.Outcome.{refused, gives, refusal}
use Rattle.file.specs.Command.{decoded}
use Rattle.laps.specs.File.{laps_of}
use Rattle.laps.specs.Rows.{file_rows}
use Rattle.lap_fit.specs.Fit.{fit_file}
use Rattle.svg_text.specs.Path.{Drawn, move, line, curve, named}
use Rattle.svg_text.specs.Drawing.{drawn}
use Rattle.svg_text.specs.Spelling.{Spells}
use Rattle.svg.specs.Course.{laps_drawn, read_course}

-- "Two texts that are read to the same file name the same commands and numbers."
abbrev pub OneMeaning : Type 0
OneMeaning = (s t : List ℕ) (r q : ℕ) (f : List ℕ) → read_course s r ≡ gives f → read_course t q ≡ gives f → (cs : List Drawn) × (named s ≡ gives cs) × (named t ≡ gives cs)

-- "14 when the text breaks these rules": a text that is not too long is refused by 14 if the grammar does not spell it,
abbrev pub UnspelledIsRefused : Type 0
UnspelledIsRefused = (t : List ℕ) (room : ℕ) → length t ≤ 65536 → ((cs : List Drawn) → Spells t cs → ⊥) → read_course t room ≡ refused 14

-- and by 14 only if it does not
abbrev pub RefusedIsUnspelled : Type 0
RefusedIsUnspelled = (t : List ℕ) (room : ℕ) → read_course t room ≡ refused 14 → (cs : List Drawn) → Spells t cs → ⊥

-- "Each M opens a lap": a lap is an M and what follows it that is no M,
abbrev pub NoMove : List Drawn → Type 0
NoMove [] = Unit
NoMove (move x y ∷ cs) = ⊥
NoMove (line x y ∷ cs) = NoMove cs
NoMove (curve a b c d x y ∷ cs) = NoMove cs

abbrev pub IsLap : List Drawn → Type 0
IsLap [] = ⊥
IsLap (move x y ∷ cs) = NoMove cs
IsLap (line x y ∷ cs) = ⊥
IsLap (curve a b c d x y ∷ cs) = ⊥

abbrev pub AreLaps : List (List Drawn) → Type 0
AreLaps [] = Unit
AreLaps (l ∷ ls) = IsLap l × AreLaps ls

-- and all laps, one behind the other, are the text's commands
abbrev pub EachMoveOpens : Type 0
EachMoveOpens = (t : List ℕ) (cs : List Drawn) → named t ≡ gives cs → AreLaps (laps_drawn cs) × (flat (λ (l : List Drawn). l) (laps_drawn cs) ≡ cs)

-- "the result is a lap file": no row of a lap file fails, and its laps decode to those that the text names
pub record IsCourse (t f : List ℕ) : Type 0 where
  pub cs : List Drawn
  pub says : named t ≡ gives cs
  pub right : refusal (file_rows f) ≡ 0
  pub laps : map (map decoded) (laps_of f) ≡ map (map drawn) (laps_drawn cs)

abbrev pub ResultIsCourse : Type 0
ResultIsCourse = (t : List ℕ) (room : ℕ) (f : List ℕ) → read_course t room ≡ gives f → IsCourse t f

-- The fit of a file that was read is refused by none of 1 to 5: at most for the tolerance, or for what it could write.
abbrev pub FitTakesCourse : Type 0
FitTakesCourse = (t : List ℕ) (room : ℕ) (f : List ℕ) (tol : Float) (space n : ℕ) → read_course t room ≡ gives f → fit_file f tol space ≡ refused n → 6 ≤ n
