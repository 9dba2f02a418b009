-- What the rows of a course say of its fit. Assumes nothing.
use Prim.Native.Nat.{ℕ, zero, suc, ◌+◌, ◌-◌, ◌/◌, ◌≤◌, ◌<◌}
use mathlib.Core.Path.{◌≡◌, refl, sym, ap, ◌∙◌, subst}
use mathlib.Core.Logic.{⊎_elim}
use mathlib.Core.Bool.{true}
use mathlib.Core.List.{List, [], ◌∷◌, ◌++◌, map, map-append}
use native.Mathlib.Nat.{zero-add}
use native.Mathlib.Omega.{arith}
use borrow.Author.Tests.{lt-ltb, le-ltb}
use lib.ListN.{length, length-map}
use lib.Ieee.{Float}
use Rattle.floats.specs.Ops.{◌≺◌, +0}
use Rattle.floats.proofs.Order.{lt_or_ge}
use Rattle.geo.specs.declared.types.Point3D.{Point3D}
use Rattle.geo.specs.declared.types.Command.{Command}
use Rattle.geo.specs.declared.types.Command.TheVariants.{Move, Line, Arc, Bezier}
use Rattle.geo.specs.Lent.{triple, flat, end_of, kind_of}
use Rattle.geo.proofs.Flat.{flat_append, flat-one}
use Rattle.pieces.specs.declared.pieces.Rule.{Rule}
use Rattle.pieces.specs.Pieces.{Shape, line, arc, Piece, pieces_by}
use Rattle.pieces.specs.Commands.{shaped, piece_command, fit_in, kept_of, chain_fit}
use Rattle.pieces.specs.Laws.{Covers}
use Rattle.pieces.proofs.Laws.{pieces_cover}
use Rattle.ranges.proofs.Chain.{kept-few, kept-some}
use Rattle.chain.specs.Parts.{Part, chain, kept, closed, carried, parts_from, part_fit, fit_of}
use Rattle.chain.specs.Joins.{joined}
use Rattle.chain.proofs.Parts.{parts_step, parts-end}
use Rattle.course.specs.Course.{parts_on, fit_on, most_on}
use Rattle.course.specs.Demand.{thinned_at, steps_of, chain_pieces}
use Rattle.course.proofs.Accepted.{course_few}
use Rattle.listing.specs.Rows.{ListRow, kept_row, shape_kind, letter_of, piece_row, chain_rows, part_rows, rows_of, rows_on, kinds_of, steps_in, Lettered, sum_of, chain_steps, chains_steps}
use Rattle.listing.proofs.Columns.{kinds_append, steps_append, kinds_length}

-- ---- rows of parts: one list of them behind another, one chain alone, and a chain with no step, which has no row
rows_append : (rule : Rule) (xs ys : List Part) → rows_of rule (xs ++ ys) ≡ rows_of rule xs ++ rows_of rule ys
unfolding rows_of
rows_append rule xs ys = flat_append (part_rows rule) xs ys

rows-chain : (rule : Rule) (s : List Float) → rows_of rule (chain s ∷ []) ≡ chain_rows rule s
unfolding rows_of part_rows
rows-chain rule s = flat-one (part_rows rule) (chain s)

no_rows : (rule : Rule) (s : List Float) → length s / 3 < 2 → chain_rows rule s ≡ []
unfolding chain_rows pieces_by
no_rows rule s h =
    let f = kept-few rule s in
    let d : length (kept_of rule s) - 1 ≡ 0 = omega arith in rw d

-- ---- kinds
shape-kind : (a b : Point3D) (s : Shape) → shape_kind s ≡ kind_of (shaped a b s)
unfolding shape_kind shaped kind_of
shape-kind a b line = refl
shape-kind a b (arc m d) = refl

pieces-kinds : (at : ℕ → Point3D) (ps : List Piece) → kinds_of (map piece_row ps) ≡ map kind_of (map (piece_command at) ps)
unfolding kinds_of piece_row piece_command
pieces-kinds at [] = refl
pieces-kinds at (p ∷ ps) =
    ap (λ (k : ℕ). k ∷ kinds_of (map piece_row ps)) (shape-kind (at p.from) (at p.to) p.shape) ∙ ap (λ (l : List ℕ). kind_of (piece_command at p) ∷ l) (pieces-kinds at ps)

-- The rows of a chain have the kinds of the commands that its fit writes, in order.
pub chain-kinds : (rule : Rule) (s : List Float) → kinds_of (chain_rows rule s) ≡ map kind_of (chain_fit rule s)
unfolding chain_rows chain_fit fit_in
chain-kinds rule s = pieces-kinds (thinned_at rule s) (chain_pieces rule s)

part_kinds : (rule : Rule) (p : Part) → kinds_of (part_rows rule p) ≡ map kind_of (part_fit (chain_fit rule) p)
unfolding part_rows part_fit
part_kinds rule (chain s) = chain-kinds rule s
part_kinds rule (kept c) = unfold kinds_of in refl

parts-kinds : (rule : Rule) (ps : List Part) → kinds_of (rows_of rule ps) ≡ map kind_of (fit_of (chain_fit rule) ps)
unfolding rows_of fit_of flat
parts-kinds rule [] = unfold kinds_of in refl
parts-kinds rule (p ∷ ps) =
    kinds_append (part_rows rule p) (rows_of rule ps) ∙ ap (λ (l : List ℕ). l ++ kinds_of (rows_of rule ps)) (part_kinds rule p)
    ∙ ap (λ (l : List ℕ). map kind_of (part_fit (chain_fit rule) p) ++ l) (parts-kinds rule ps) ∙ sym (map-append kind_of (part_fit (chain_fit rule) p) (fit_of (chain_fit rule) ps))

-- A course has one row for each command that its fit writes, in order, with that command's kind.
pub course_kinds : (rule : Rule) (p : Point3D) (cs : List Command) → kinds_of (rows_on rule p cs) ≡ map kind_of (fit_on rule p cs)
unfolding rows_on fit_on
course_kinds rule p cs = parts-kinds rule (parts_on rule.tolerance p cs)

-- ---- letters
-- the letter of a kind above 1
pub arc_letter : (k : ℕ) → 2 ≤ k → 65 ≡ letter_of k
unfolding letter_of
arc_letter zero h = absurd (omega arith)
arc_letter (suc zero) h = absurd (omega arith)
arc_letter (suc (suc k)) h = refl

lettered_append : (xs ys : List ℕ) → Lettered xs → Lettered ys → Lettered (xs ++ ys)
lettered_append [] ys a b = b
lettered_append (x ∷ xs) ys a b = (a.0, lettered_append xs ys a.1 b)

shape_lettered : (s : Shape) → shape_kind s ≤ 2
unfolding shape_kind
shape_lettered line = omega arith
shape_lettered (arc m d) = omega arith

pieces_lettered : (ps : List Piece) → Lettered (kinds_of (map piece_row ps))
unfolding kinds_of piece_row
pieces_lettered [] = tt
pieces_lettered (p ∷ ps) = (shape_lettered p.shape, pieces_lettered ps)

chain_lettered : (rule : Rule) (s : List Float) → Lettered (kinds_of (chain_rows rule s))
unfolding chain_rows
chain_lettered rule s = pieces_lettered (chain_pieces rule s)

none_lettered : (rule : Rule) → Lettered (kinds_of (rows_of rule []))
unfolding rows_of flat kinds_of
none_lettered rule = tt

-- a chain and a command that is kept behind it
kept_lettered : (rule : Rule) (s : List Float) (c : Command) → kind_of c ≤ 2 → Lettered (kinds_of (rows_of rule (chain s ∷ kept c ∷ [])))
unfolding rows_of flat part_rows
kept_lettered rule s c h =
    let z : Lettered (kinds_of (kept_row c ∷ [])) = unfold kinds_of in (h, tt) in
    subst (λ (l : List ℕ). Lettered l) (sym (kinds_append (chain_rows rule s) (kept_row c ∷ []))) (lettered_append (kinds_of (chain_rows rule s)) (kinds_of (kept_row c ∷ [])) (chain_lettered rule s) z)

closed_lettered : (rule : Rule) (last : Point3D) (s : List Float) (c : Command) → Lettered (kinds_of (rows_of rule (closed s c (joined rule.tolerance last c))))
unfolding closed joined
closed_lettered rule last s (Move p) = kept_lettered rule s (Move p) (unfold kind_of in omega arith)
closed_lettered rule last s (Line p) = none_lettered rule
closed_lettered rule last s (Arc p o n) = kept_lettered rule s (Arc p o n) (unfold kind_of in omega arith)
closed_lettered rule last s (Bezier p q r) = none_lettered rule

parts_lettered : (rule : Rule) (last : Point3D) (s : List Float) (cs : List Command) → Lettered (kinds_of (rows_of rule (parts_from (joined rule.tolerance) last s cs)))
parts_lettered rule last s [] = subst (λ (rs : List ListRow). Lettered (kinds_of rs)) (sym (ap (rows_of rule) (parts-end (joined rule.tolerance) last s) ∙ rows-chain rule s)) (chain_lettered rule s)
parts_lettered rule last s (c ∷ cs) =
    let j = joined rule.tolerance last c in
    let next = parts_from (joined rule.tolerance) (end_of c) (carried s c j) cs in
    let e = ap (λ (ps : List Part). kinds_of (rows_of rule ps)) (parts_step (joined rule.tolerance) last s c cs) ∙ ap kinds_of (rows_append rule (closed s c j) next)
    ∙ kinds_append (rows_of rule (closed s c j)) (rows_of rule next) in
    subst (λ (l : List ℕ). Lettered l) (sym e) (lettered_append (kinds_of (rows_of rule (closed s c j))) (kinds_of (rows_of rule next)) (closed_lettered rule last s c) (parts_lettered rule (end_of c) (carried s c j) cs))

-- Each row is of a Move, a Line or an Arc: the three letters are enough, and an A is an Arc.
pub course_letters : (rule : Rule) (p : Point3D) (cs : List Command) → Lettered (kinds_of (rows_on rule p cs))
unfolding rows_on parts_on
course_letters rule p cs = parts_lettered rule p (triple p) cs

-- ---- steps
pub sum_append : (xs ys : List ℕ) → sum_of (xs ++ ys) ≡ sum_of xs + sum_of ys
unfolding sum_of
sum_append [] ys = omega arith
sum_append (x ∷ xs) ys = let e = sum_append xs ys in omega arith

-- pieces that follow one another from lo to hi have hi - lo steps together
covered : (lo hi : ℕ) (ps : List Piece) → Covers lo ps hi → lo + sum_of (steps_in (map piece_row ps)) ≡ hi
unfolding sum_of steps_in piece_row
covered lo hi [] v = let e = v in omega arith
covered lo hi (p ∷ ps) v =
    let a = v.0 in
    let b = v.1 in
    let r = covered p.to hi ps v.2 in omega arith

many_steps : (rule : Rule) → (+0 ≺ rule.tolerance) ≡ true → (s : List Float) → 2 ≤ length s / 3 → sum_of (steps_in (chain_rows rule s)) ≡ steps_of rule s
unfolding chain_rows
many_steps rule pos s h =
    let k = kept-some rule s h in
    let e = covered 0 (steps_of rule s) (chain_pieces rule s) (pieces_cover rule pos (thinned_at rule s) 0 (steps_of rule s) (omega arith)) in omega arith

few-none : (rule : Rule) (s : List Float) → length s / 3 < 2 → chain_steps rule s ≡ 0
unfolding chain_steps
few-none rule s h = rw (lt-ltb (length s / 3) 2 h)

many_kept : (rule : Rule) (s : List Float) → 2 ≤ length s / 3 → chain_steps rule s ≡ steps_of rule s
unfolding chain_steps
many_kept rule s h = rw (le-ltb (length s / 3) 2 h)

-- The steps that a chain's rows give are, together, the points that are kept of it less one: each step is counted once. A chain of fewer than two points has no row.
pub chain_steps_lem : (rule : Rule) → (+0 ≺ rule.tolerance) ≡ true → (s : List Float) → sum_of (steps_in (chain_rows rule s)) ≡ chain_steps rule s
chain_steps_lem rule pos s =
    ⊎_elim
    (λ h.
    let z : sum_of (steps_in []) ≡ 0 = unfold sum_of steps_in in refl in
    let e = ap (λ (l : List ListRow). sum_of (steps_in l)) (no_rows rule s h) in
    let f = few-none rule s h in omega arith)
    (λ h. many_steps rule pos s h ∙ sym (many_kept rule s h)) (lt_or_ge (length s / 3) 2)

-- There are no more than the chain's own steps.
pub chain-few : (rule : Rule) (s : List Float) → chain_steps rule s ≤ length s / 3 - 1
chain-few rule s =
    ⊎_elim (λ h. let e = few-none rule s h in omega arith)
    (λ h.
    let e = many_kept rule s h in
    let f = kept-few rule s in omega arith) (lt_or_ge (length s / 3) 2)

-- a kept command adds no step
no_step : (c : Command) (rs : List ListRow) → sum_of (steps_in (kept_row c ∷ rs)) ≡ sum_of (steps_in rs)
unfolding sum_of steps_in
no_step c rs = zero-add (sum_of (steps_in rs))

parts-steps : (rule : Rule) → (+0 ≺ rule.tolerance) ≡ true → (ps : List Part) → sum_of (steps_in (rows_of rule ps)) ≡ chains_steps rule ps
unfolding rows_of flat part_rows chains_steps
parts-steps rule pos [] = unfold sum_of steps_in in refl
parts-steps rule pos (chain s ∷ ps) =
    let e = ap sum_of (steps_append (chain_rows rule s) (rows_of rule ps)) in
    let t = sum_append (steps_in (chain_rows rule s)) (steps_in (rows_of rule ps)) in
    let a = chain_steps_lem rule pos s in
    let r = parts-steps rule pos ps in omega arith
parts-steps rule pos (kept c ∷ ps) = no_step c (rows_of rule ps) ∙ parts-steps rule pos ps

-- So the steps that a course's rows give are, together, those of its chains; a kept command adds none.
pub course_steps : (rule : Rule) → (+0 ≺ rule.tolerance) ≡ true → (p : Point3D) (cs : List Command) → sum_of (steps_in (rows_on rule p cs)) ≡ chains_steps rule (parts_on rule.tolerance p cs)
unfolding rows_on
course_steps rule pos p cs = parts-steps rule pos (parts_on rule.tolerance p cs)

-- There are at most as many rows as the most of the course.
pub course_rows-few : (rule : Rule) → (+0 ≺ rule.tolerance) ≡ true → (p : Point3D) (cs : List Command) → length (rows_on rule p cs) ≤ most_on rule.tolerance p cs
course_rows-few rule pos p cs =
    let a = kinds_length (rows_on rule p cs) in
    let b = ap length (course_kinds rule p cs) in
    let c = length-map (fit_on rule p cs) kind_of in
    let d = course_few rule pos p cs in omega arith
