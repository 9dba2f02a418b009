-- The code's own way: what a function that writes commands at a place leaves, and what it notes beside each of them. Definitions only.
use Rattle.std.specs.Prelude.{ℕ, ◌-◌, ◌*◌, List, map, ◌≡◌, length, Float}
use Rattle.std.proofs.lemmas.List.Edits.{sets}
use Rattle.geo.specs.declared.types.Point3D.{Point3D}
use Rattle.geo.specs.declared.types.Command.{Command}
use Rattle.geo.specs.Lent.{point_at, triple, flat, kind_of, numbers_of}
use Rattle.pieces.specs.declared.pieces.Note.{Note}
use Rattle.pieces.specs.declared.pieces.Note.TheVariants.{Steps, Worst}
use Rattle.pieces.specs.declared.pieces.Rule.{Rule}
use Rattle.pieces.specs.Pieces.{Piece, pieces_in}
use Rattle.pieces.specs.Commands.{piece_command, piece_worst, kept_of}

-- the commands cs, n in number, written from place `at` on
pub record FitPlaced (cs : List Command) (at n : ℕ) (ks ks' : List ℕ) (ns ns' : List Float) : Type 0 where
  pub count : n ≡ length cs
  pub kinds : ks' ≡ sets ks at (map kind_of cs)
  pub numbers : ns' ≡ sets ns (9 * at) (flat numbers_of cs)

-- ---- a command with what is noted beside it
pub record Noted : Type 0 where
  pub command : Command
  pub note : ℕ

abbrev pub noted : Command → ℕ → Noted
noted c n = record { command = c; note = n }

unfoldable pub commands_of : List Noted → List Command
commands_of xs = map (λ (x : Noted). x.command) xs

unfoldable pub notes_of : List Noted → List ℕ
notes_of xs = map (λ (x : Noted). x.note) xs

-- how many steps a piece covers, or which is its worst
unfoldable pub note_by : Note → ℕ → ℕ → ℕ
note_by Steps covered worst = covered
note_by Worst covered worst = worst

-- the commands of a range's pieces, and of a chain's
unfoldable pub piece_noted : Rule → (ℕ → Point3D) → Piece → Noted
piece_noted r at p = noted (piece_command at p) (note_by r.note (p.to - p.from) (piece_worst at p))

unfoldable pub noted_in : Rule → (ℕ → Point3D) → ℕ → ℕ → List Noted
noted_in r at lo hi = map (piece_noted r at) (pieces_in r at lo hi)

unfoldable pub chain_noted : Rule → List Float → List Noted
chain_noted r s = noted_in r (point_at (flat triple (kept_of r s))) 0 (length (kept_of r s) - 1)

-- Written from place `at` on, with the notes in a column of their own, as far as the column reaches (`sets` changes no place that is not there): nobody who lends an empty one
-- gets any.
pub record NotedPlaced (xs : List Noted) (at n : ℕ) (ks ks' : List ℕ) (ns ns' : List Float) (ss ss' : List ℕ) : Type 0 where
  pub commands : FitPlaced (commands_of xs) at n ks ks' ns ns'
  pub notes : ss' ≡ sets ss at (notes_of xs)
