-- The rows of a course's listing. Definitions only.
-- "It lists lap, kind letter (M, L, A) and steps of the thinned chain covered (0 for M and a kept Arc)" (document 01, "Worked laps").
use Rattle.std.specs.Prelude.{ℕ, zero, suc, ◌+◌, ◌-◌, ◌/◌, ◌≤◌, List, [], ◌∷◌, map, ltb, length, Float, if◌then◌else◌}
use Rattle.geo.specs.declared.types.Point3D.{Point3D}
use Rattle.geo.specs.declared.types.Command.{Command}
use Rattle.geo.specs.Lent.{flat, kind_of}
use Rattle.pieces.specs.declared.pieces.Rule.{Rule}
use Rattle.pieces.specs.Pieces.{Shape, line, arc, Piece}
use Rattle.chain.specs.Parts.{Part, chain, kept}
use Rattle.course.specs.Course.{parts_on}
use Rattle.course.specs.Demand.{thinned_chain, chain_pieces}

-- the kind of a command that is written, and how many steps of a thinned chain it covers
pub record ListRow : Type 0 where
  pub kind : ℕ
  pub steps : ℕ

-- a Line's kind is 1, an Arc's is 2
unfoldable pub shape_kind : Shape → ℕ
shape_kind line = 1
shape_kind (arc m clockwise) = 2

-- the letter of a kind, as its byte: M, L, A; no row has a kind above 2 (proofs/Laws.antt, `course_letters`)
unfoldable pub letter_of : ℕ → ℕ
letter_of zero = 77
letter_of (suc zero) = 76
letter_of (suc (suc k)) = 65

-- a piece covers the steps between its first point and its last
unfoldable pub piece_row : Piece → ListRow
piece_row p = record { kind = shape_kind p.shape; steps = p.to - p.from }

-- one row for each piece of a chain, in order; none where it has fewer than two points
unfoldable pub chain_rows : Rule → List Float → List ListRow
chain_rows rule s = map piece_row (chain_pieces rule s)

-- a command that is kept covers no step
abbrev pub kept_row : Command → ListRow
kept_row c = record { kind = kind_of c; steps = 0 }

unfoldable pub part_rows : Rule → Part → List ListRow
part_rows rule (chain s) = chain_rows rule s
part_rows rule (kept c) = kept_row c ∷ []

-- of several parts
unfoldable pub rows_of : Rule → List Part → List ListRow
rows_of rule ps = flat (part_rows rule) ps

-- the rows of commands that start at p
unfoldable pub rows_on : Rule → Point3D → List Command → List ListRow
rows_on rule p cs = rows_of rule (parts_on rule.tolerance p cs)

-- ---- their two columns
unfoldable pub kinds_of : List ListRow → List ℕ
kinds_of rs = map (λ (r : ListRow). r.kind) rs

unfoldable pub steps_in : List ListRow → List ℕ
steps_in rs = map (λ (r : ListRow). r.steps) rs

-- each kind is that of a Move, a Line or an Arc
abbrev pub Lettered : List ℕ → Type 0
Lettered [] = Unit
Lettered (k ∷ ks) = (k ≤ 2) × Lettered ks

-- the sum of a column
unfoldable pub sum_of : List ℕ → ℕ
sum_of [] = 0
sum_of (n ∷ ns) = n + sum_of ns

-- "the number of kept points less one, added over all chains of two or more points" (document 02, §8): the points kept of a chain are those of its thinned chain,
unfoldable pub chain_steps : Rule → List Float → ℕ
chain_steps rule s = if ltb (length s / 3) 2 then 0 else (length (thinned_chain rule s) - 1)

-- and the chains are those among the parts of a course; a command that is kept is none
unfoldable pub chains_steps : Rule → List Part → ℕ
chains_steps rule [] = 0
chains_steps rule (chain s ∷ ps) = chain_steps rule s + chains_steps rule ps
chains_steps rule (kept c ∷ ps) = chains_steps rule ps
