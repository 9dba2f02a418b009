-- The rows of a course are what its fit writes and notes: each command's kind, and the steps noted beside it. By the parts of the course. Assumes nothing.
use Prim.Native.Nat.{ℕ, ◌-◌}
use mathlib.Core.Path.{◌≡◌, refl, sym, ap, ◌∙◌}
use mathlib.Core.List.{List, [], ◌∷◌, ◌++◌, map}
use native.Mathlib.Omega.{arith}
use lib.ListN.{length, length-map}
use lib.Seq.{sets}
use lib.Ieee.{Float}
use Rattle.geo.specs.declared.types.Point3D.{Point3D}
use Rattle.geo.specs.declared.types.Command.{Command}
use Rattle.geo.specs.Lent.{flat, kind_of}
use Rattle.pieces.specs.declared.pieces.Note.{Note}
use Rattle.pieces.specs.declared.pieces.Note.TheVariants.{Steps}
use Rattle.pieces.specs.declared.pieces.Rule.{Rule}
use Rattle.pieces.specs.Pieces.{Piece}
use Rattle.pieces.specs.Commands.{piece_worst}
use Rattle.pieces.specs.Written.{commands_of, notes_of, note_by, piece_noted, noted_in, chain_noted, NotedPlaced}
use Rattle.pieces.proofs.Writing.{notes_append}
use Rattle.chain.specs.Parts.{Part, chain, kept}
use Rattle.chain.specs.Chains.{part_noted, noted_of}
use Rattle.course.specs.Course.{parts_on}
use Rattle.course.specs.Demand.{thinned_at, chain_pieces}
use Rattle.course.specs.Walks.{noted_on}
use Rattle.course.proofs.Accepted.{course_commands}
use Rattle.listing.specs.Rows.{piece_row, chain_rows, part_rows, rows_of, rows_on, kinds_of, steps_in}
use Rattle.listing.specs.Placed.{RowsPlaced}
use Rattle.listing.proofs.Columns.{steps_append, kinds_length}
use Rattle.listing.proofs.Laws.{course_kinds}

-- of a rule that notes steps
module _ (rule : Rule) (noting : rule.note ≡ Steps) where
  pieces-notes : (at : ℕ → Point3D) (ps : List Piece) → notes_of (map (piece_noted rule at) ps) ≡ steps_in (map piece_row ps)
  unfolding notes_of piece_noted note_by steps_in piece_row
  pieces-notes at [] = refl
  pieces-notes at (p ∷ ps) =
      ap (λ (n : Note). note_by n (p.to - p.from) (piece_worst at p) ∷ notes_of (map (piece_noted rule at) ps)) noting ∙ ap (λ (l : List ℕ). (piece_row p).steps ∷ l) (pieces-notes at ps)

  part_notes : (p : Part) → notes_of (part_noted (chain_noted rule) p) ≡ steps_in (part_rows rule p)
  unfolding part_noted part_rows
  part_notes (chain s) = unfold chain_noted noted_in chain_rows in pieces-notes (thinned_at rule s) (chain_pieces rule s)
  part_notes (kept c) = unfold notes_of steps_in in refl

  parts-notes : (ps : List Part) → notes_of (noted_of (chain_noted rule) ps) ≡ steps_in (rows_of rule ps)
  unfolding noted_of rows_of flat
  parts-notes [] = unfold notes_of steps_in in refl
  parts-notes (p ∷ ps) =
      notes_append (part_noted (chain_noted rule) p) (noted_of (chain_noted rule) ps) ∙ ap (λ (l : List ℕ). l ++ notes_of (noted_of (chain_noted rule) ps)) (part_notes p)
      ∙ ap (λ (l : List ℕ). steps_in (part_rows rule p) ++ l) (parts-notes ps) ∙ sym (steps_append (part_rows rule p) (rows_of rule ps))

  -- what is noted beside a course's commands are the steps of its rows
  pub course_notes : (p : Point3D) (cs : List Command) → notes_of (noted_on rule p cs) ≡ steps_in (rows_on rule p cs)
  unfolding noted_on rows_on
  course_notes p cs = parts-notes (parts_on rule.tolerance p cs)

  -- So the fit with steps leaves the course's rows.
  pub rows-placed : (p : Point3D) (cs : List Command) (n : ℕ) (ks ks' : List ℕ) (ns ns' : List Float) (ss ss' : List ℕ)
      → NotedPlaced (noted_on rule p cs) 0 n ks ks' ns ns' ss ss' → RowsPlaced (rows_on rule p cs) n ks ks' ss ss'
  rows-placed p cs n ks ks' ns ns' ss ss' placed =
      let e : map kind_of (commands_of (noted_on rule p cs)) ≡ kinds_of (rows_on rule p cs) = ap (map kind_of) (course_commands rule p cs) ∙ sym (course_kinds rule p cs) in
      let a = placed.commands.count in
      let b = length-map (commands_of (noted_on rule p cs)) kind_of in
      let c = ap length e in
      let d = kinds_length (rows_on rule p cs) in
      record {
        count = omega arith;
        kinds = placed.commands.kinds ∙ ap (sets ks 0) e;
        steps = placed.notes ∙ ap (sets ss 0) (course_notes p cs);
      }
