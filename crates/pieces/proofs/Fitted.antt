-- The commands of a range: how many they are, and that what is noted beside them does not change them. Assumes nothing.
use Prim.Native.Nat.{ℕ, ◌-◌, ◌≤◌, ◌<◌}
use mathlib.Core.Path.{◌≡◌, refl, sym, ap, ◌∙◌}
use mathlib.Core.Bool.{true}
use mathlib.Core.List.{List, [], ◌∷◌, map}
use lib.ListN.{length, length-map}
use Rattle.floats.specs.Ops.{◌≺◌, +0}
use Rattle.geo.specs.declared.types.Point3D.{Point3D}
use Rattle.geo.specs.declared.types.Command.{Command}
use Rattle.pieces.specs.declared.pieces.Note.{Note}
use Rattle.pieces.specs.declared.pieces.Note.TheVariants.{Worst}
use Rattle.pieces.specs.declared.pieces.Rule.{Rule}
use Rattle.pieces.specs.Pieces.{Piece, pieces_in}
use Rattle.pieces.specs.Commands.{piece_command, fit_in, piece_worst, worst_in}
use Rattle.pieces.specs.Written.{commands_of, notes_of, note_by, piece_noted, noted_in}
use Rattle.pieces.proofs.Recursion.{pieces_length}

-- what is noted beside the commands of a range does not change them
pub noted-fit : (r : Rule) (at : ℕ → Point3D) (lo hi : ℕ) → commands_of (noted_in r at lo hi) ≡ fit_in r at lo hi
unfolding noted_in fit_in commands_of piece_noted
noted-fit r at lo hi = go (pieces_in r at lo hi)
  where
    go : (ps : List Piece) → commands_of (map (piece_noted r at) ps) ≡ map (piece_command at) ps
    go [] = refl
    go (p ∷ ps) = ap (λ (cs : List Command). piece_command at p ∷ cs) (go ps)

-- the worst steps of a range are what is noted beside its commands, by a rule that notes them
pub noted-worst : (r : Rule) → r.note ≡ Worst → (at : ℕ → Point3D) (lo hi : ℕ) → notes_of (noted_in r at lo hi) ≡ worst_in r at lo hi
unfolding noted_in worst_in notes_of piece_noted note_by
noted-worst r e at lo hi = go (pieces_in r at lo hi)
  where
    go : (ps : List Piece) → notes_of (map (piece_noted r at) ps) ≡ map (piece_worst at) ps
    go [] = refl
    go (p ∷ ps) =
        ap (λ (n : Note). note_by n (p.to - p.from) (piece_worst at p) ∷ notes_of (map (piece_noted r at) ps)) e ∙ ap (λ (ns : List ℕ). piece_worst at p ∷ ns) (go ps)

-- they are at most the range's steps
pub fit_length : (r : Rule) (pos : (+0 ≺ r.tolerance) ≡ true) (at : ℕ → Point3D) (lo hi : ℕ) → lo < hi → length (fit_in r at lo hi) ≤ hi - lo
unfolding fit_in
fit_length r pos at lo hi some = rw (length-map (pieces_in r at lo hi) (piece_command at)) (pieces_length r pos at lo hi some)

pub worst_length : (r : Rule) (pos : (+0 ≺ r.tolerance) ≡ true) (at : ℕ → Point3D) (lo hi : ℕ) → lo < hi → length (worst_in r at lo hi) ≤ hi - lo
unfolding worst_in
worst_length r pos at lo hi some = rw (length-map (pieces_in r at lo hi) (piece_worst at)) (pieces_length r pos at lo hi some)

-- one number a command
pub worst-count : (r : Rule) (at : ℕ → Point3D) (lo hi : ℕ) → length (fit_in r at lo hi) ≡ length (worst_in r at lo hi)
unfolding worst_in fit_in
worst-count r at lo hi = length-map (pieces_in r at lo hi) (piece_command at) ∙ sym (length-map (pieces_in r at lo hi) (piece_worst at))

pub noted_length : (r : Rule) (pos : (+0 ≺ r.tolerance) ≡ true) (at : ℕ → Point3D) (lo hi : ℕ) → lo < hi → length (noted_in r at lo hi) ≤ hi - lo
unfolding noted_in
noted_length r pos at lo hi some = rw (length-map (pieces_in r at lo hi) (piece_noted r at)) (pieces_length r pos at lo hi some)
