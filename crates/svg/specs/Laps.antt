-- The code's own way: the second walk over a text, which writes its laps one after the other. Definitions only.
use Rattle.std.specs.Prelude.{ℕ, ◌+◌, ◌*◌, ◌≤◌, ◌≡◌, List, [], ◌∷◌, ◌++◌, map, length, drop}
use Rattle.std.proofs.lemmas.List.Edits.{sets}
use Rattle.geo.specs.Outcome.{Outcome, gives}
use Rattle.laps.specs.File.{body}
use Rattle.laps.specs.Rows.{file_size}
use Rattle.svg.specs.declared.reading.LapRead.{LapRead}
use Rattle.svg_text.specs.Path.{Drawn, move, line, curve, command, then_rest, others, named}
use Rattle.svg.specs.Course.{until_move, laps_drawn, inked, course_file}

-- what the rest of a text names, from a command on: nothing where it is empty
unfoldable pub named_from : List ℕ → Outcome (List Drawn)
named_from [] = gives []
named_from (b ∷ t) = then_rest others (command (b ∷ t))

-- the commands from the next M on
unfoldable pub from_move : List Drawn → List Drawn
from_move [] = []
from_move (move x y ∷ cs) = move x y ∷ cs
from_move (line x y ∷ cs) = from_move cs
from_move (curve a b c d x y ∷ cs) = from_move cs

-- a lap stands at the front of s, and its bytes fit from `to` on
pub record LapFits (s : List ℕ) (to size : ℕ) : Type 0 where
  pub first : Drawn
  pub rest : List Drawn
  pub names : named_from s ≡ gives (first ∷ rest)
  pub room : to + 73 * (1 + length (until_move rest)) ≤ size

-- the lap at the front of s is written, and the text behind it, a tail of s, starts with the next M, or is empty
pub record LapPut (s out out' : List ℕ) (to : ℕ) (r : LapRead) : Type 0 where
  pub first : Drawn
  pub rest : List Drawn
  pub names : named_from s ≡ gives (first ∷ rest)
  pub count : r.commands ≡ length (first ∷ until_move rest)
  pub bytes : out' ≡ sets out to (body (map inked (first ∷ until_move rest)))
  pub goes : named_from r.rest.now ≡ gives (from_move rest)
  pub front : List ℕ
  pub tail : s ≡ front ++ r.rest.now

-- a text of so many laps that passes every row
pub record CourseFits (s : List ℕ) (laps size : ℕ) : Type 0 where
  pub cs : List Drawn
  pub says : named s ≡ gives cs
  pub count : laps ≡ length (laps_drawn cs)
  pub few-laps : laps ≤ 64
  pub few : length cs ≤ 800
  pub room : file_size laps (length cs) ≤ size

-- its file is written
pub record CoursePut (s out out' : List ℕ) (n : ℕ) : Type 0 where
  pub cs : List Drawn
  pub says : named s ≡ gives cs
  pub count : n ≡ length (course_file cs)
  pub bytes : out' ≡ course_file cs ++ drop (length (course_file cs)) out
