-- Document 02, §11: the theorems of `specs/Demand.antt` about texts: 14 is for those that the grammar does not spell, and for no other; and each M opens a lap. Assumes nothing.
use Rattle.std.specs.Prelude.{if◌then◌else◌}
use Prim.Native.Nat.{ℕ, zero, suc}
use mathlib.Core.Path.{◌≡◌, refl, sym, ap, ◌∙◌, subst}
use mathlib.Core.Bool.{Bool, true, false, not, ◌||◌}
use mathlib.Core.List.{List, [], ◌∷◌, ◌++◌}
use native.Mathlib.Omega.{arith}
use borrow.Author.Tests.{le-ltb}
use lib.ListN.{length}
use lib.Dec.{ltb, eqb}
use Rattle.geo.specs.Lent.{flat}
use Rattle.geo.specs.Outcome.{row, refusal, Outcome, refused, gives, unless}
use Rattle.laps.specs.Rows.{file_size}
use Rattle.svg_text.specs.Path.{Drawn, move, line, curve, Reading, broken, read, letter_m, space, command, bad, in_front, then_rest, more, others, named}
use Rattle.svg_text.proofs.Read.{complete}
use Rattle.svg_text.proofs.Spelled.{sound}
use Rattle.svg_text.proofs.Tens.{Opened, opened}
use Rattle.svg.specs.Course.{until_move, laps_drawn, course_file, all_in, read_rows, made, read_course}
use Rattle.svg_laws.specs.Demand.{UnspelledIsRefused, RefusedIsUnspelled, NoMove, AreLaps, EachMoveOpens}

-- ---- 14, and no other number
abbrev Only14 : Outcome (List Drawn) → Type 0
Only14 (refused n) = n ≡ 14
Only14 (gives cs) = Unit

front_14 : (c : Drawn) (o : Outcome (List Drawn)) → Only14 o → Only14 (in_front c o)
unfolding in_front
front_14 c (refused n) h = h
front_14 c (gives cs) h = tt

rest_14 : (f : List ℕ → Outcome (List Drawn)) → ((t : List ℕ) → Only14 (f t)) → (r : Reading Drawn) → Only14 (then_rest f r)
unfolding then_rest
rest_14 f h broken = refl
rest_14 f h (read c t) = front_14 c (f t) (h t)

either_14 : (b : Bool) (o : Outcome (List Drawn)) → Only14 o → Only14 (if b then o else bad)
either_14 true o h = h
either_14 false o h = refl

more_14 : (n : ℕ) (t : List ℕ) → Only14 (more n t)
unfolding more
more_14 zero [] = tt
more_14 zero (b ∷ t) = refl
more_14 (suc n) [] = tt
more_14 (suc n) (b ∷ t) = either_14 (eqb b space) (then_rest (more n) (command t)) (rest_14 (more n) (λ (u : List ℕ). more_14 n u) (command t))

named_14 : (t : List ℕ) → Only14 (named t)
unfolding named
named_14 [] = tt
named_14 (b ∷ t) = either_14 (eqb b letter_m) (then_rest others (command (b ∷ t))) (rest_14 others (λ (u : List ℕ). more_14 (length u) u) (command (b ∷ t)))

-- a text that is not spelled names nothing
pub unspelled_is-refused : UnspelledIsRefused
unfolding read_course made
unspelled_is-refused t room h none = rw (le-ltb 65536 (length t) h) (go (named t) refl (named_14 t))
  where
    go : (o : Outcome (List Drawn)) → named t ≡ o → Only14 o → made room o ≡ refused 14
    go (refused n) p e = ap refused e
    go (gives cs) p e = absurd (none cs (sound t cs p))

-- the rows behind the rules have other numbers
other : {X : Type 0} (a b c : Bool) (f : List ℕ) → unless (refusal (row 2 a ∷ row 5 b ∷ row 9 c ∷ [])) f ≡ refused 14 → X
unfolding refusal unless
other true b c f e = let z : ◌≡◌ {A = ℕ} 2 14 = cc in absurd (omega arith)
other false true c f e = let z : ◌≡◌ {A = ℕ} 5 14 = cc in absurd (omega arith)
other false false true f e = let z : ◌≡◌ {A = ℕ} 9 14 = cc in absurd (omega arith)
other false false false f e = let z : ◌≡◌ {A = ℕ} 0 1 = cc in absurd (omega arith)

pub refused-is_unspelled : RefusedIsUnspelled
unfolding read_course made read_rows
refused-is_unspelled t room e cs s = go (ltb 65536 (length t)) (subst (λ (o : Outcome (List Drawn)). (if ltb 65536 (length t) then refused 2 else made room o) ≡ refused 14) says e)
  where
    says : named t ≡ gives cs
    says = sym (ap named s.text) ∙ complete s.commands s.first s.all ∙ ap gives s.names

    go : (b : Bool) → (if b then refused 2 else made room (gives cs)) ≡ refused 14 → ⊥
    go true h = let z : ◌≡◌ {A = ℕ} 2 14 = cc in absurd (omega arith)
    go false h = other (ltb 64 (length (laps_drawn cs)) || ltb 800 (length cs)) (not (all_in cs)) (ltb room (file_size (length (laps_drawn cs)) (length cs))) (course_file cs) h

-- ---- each M opens a lap
no_move : (cs : List Drawn) → NoMove (until_move cs)
unfolding until_move
no_move [] = tt
no_move (move x y ∷ cs) = tt
no_move (line x y ∷ cs) = no_move cs
no_move (curve a b c d x y ∷ cs) = no_move cs

are_laps : (cs : List Drawn) → AreLaps (laps_drawn cs)
unfolding laps_drawn
are_laps [] = tt
are_laps (move x y ∷ cs) = (no_move cs, are_laps cs)
are_laps (line x y ∷ cs) = are_laps cs
are_laps (curve a b c d x y ∷ cs) = are_laps cs

abbrev joined : List (List Drawn) → List Drawn
joined ls = flat (λ (l : List Drawn). l) ls

-- the laps behind the next M are all that is left
left-joined : (cs : List Drawn) → until_move cs ++ joined (laps_drawn cs) ≡ cs
unfolding until_move laps_drawn flat
left-joined [] = refl
left-joined (move x y ∷ cs) = ap (λ (l : List Drawn). move x y ∷ l) (left-joined cs)
left-joined (line x y ∷ cs) = ap (λ (l : List Drawn). line x y ∷ l) (left-joined cs)
left-joined (curve a b c d x y ∷ cs) = ap (λ (l : List Drawn). curve a b c d x y ∷ l) (left-joined cs)

all-joined : (cs : List Drawn) → Opened cs → joined (laps_drawn cs) ≡ cs
unfolding laps_drawn flat
all-joined [] o = refl
all-joined (move x y ∷ cs) o = ap (λ (l : List Drawn). move x y ∷ l) (left-joined cs)
all-joined (line x y ∷ cs) o = absurd o
all-joined (curve a b c d x y ∷ cs) o = absurd o

pub each-move_opens : EachMoveOpens
each-move_opens t cs e = (are_laps cs, all-joined cs (opened t cs e))
