-- The sum under the listing, in the bytes that are printed: the theorems of `specs/Sum.antt`. Assumes nothing.
use Rattle.std.specs.Prelude.{if◌then◌else◌}
use Prim.Native.Nat.{ℕ, zero, suc, ◌+◌, ◌/◌, ◌%◌, ◌≤◌}
use mathlib.Core.Path.{◌≡◌, refl, sym, ap, ◌∙◌}
use mathlib.Core.Logic.{⊎_elim}
use mathlib.Core.Bool.{Bool, true, false}
use mathlib.Core.List.{List, [], ◌∷◌, ◌++◌, map, map-append, append_assoc}
use native.Mathlib.Omega.{arith}
use borrow.Author.Tests.{eq-eqb, ne_eqb}
use lib.ListN.{length, drop}
use lib.Dec.{ltb}
use lib.Ieee.{Float}
use Rattle.floats.proofs.Order.{lt_or_ge}
use Rattle.geo.specs.Lent.{flat, origin}
use Rattle.geo.specs.Outcome.{Outcome, refused, gives}
use Rattle.geo.specs.Walk.{list_from}
use Rattle.file.specs.Bytes.{number_at}
use Rattle.listing.specs.Rows.{ListRow, letter_of, steps_in, sum_of}
use Rattle.listing.proofs.Columns.{steps_append}
use Rattle.listing.proofs.Laws.{sum_append}
use Rattle.laps.specs.File.{Lap, laps_of}
use Rattle.lap_text.specs.Text.{ascii, digits_by, decimal, comma, newline, row_text, rows_text, total_text, refusal_text}
use Rattle.lap_rows.specs.Listing.{lap_rows, lap_text, laps_text, laps_steps, header, list_text, most_text, list_file}
use Rattle.lap_rows.specs.Demand.{all_rows}
use Rattle.geo.specs.declared.types.Point3D.{Point3D}
use Rattle.lap_fit.specs.Fit.{lap_end}
use Rattle.lap_text.proofs.Decimal.{last_digit, next_digit}
use Rattle.lap_rows.proofs.Demand.{digits-spell, listed-passes, sum_of_the_rows}
use Rattle.printing.specs.Printed.{printed}
use Rattle.printing.specs.Input.{list_input}
use Rattle.lapfit.specs.Input.{lapfit_text}
use Rattle.lapfit.specs.Sum.{with_first, split_by, lines_in, columns_in, steps_on, ThreeColumns, SumUnder, SumIsPrinted, RefusalAlone}

-- ---- bytes none of which is below k
abbrev Above : ℕ → List ℕ → Type 0
Above k [] = Unit
Above k (x ∷ xs) = (k ≤ x) × Above k xs

above_append : (k : ℕ) (xs ys : List ℕ) → Above k xs → Above k ys → Above k (xs ++ ys)
above_append k [] ys a b = b
above_append k (x ∷ xs) ys a b = (a.0, above_append k xs ys a.1 b)

above_less : (j k : ℕ) (xs : List ℕ) → j ≤ k → Above k xs → Above j xs
above_less j k [] h a = tt
above_less j k (x ∷ xs) h a = let b = a.0 in (omega arith, above_less j k xs h a.1)

digits_above : (more n : ℕ) → Above 48 (digits_by more n)
digits_above zero n = unfold digits_by in tt
digits_above (suc more) n =
    ⊎_elim (λ h. rw (last_digit more n h) (omega arith, tt))
    (λ h. rw (next_digit more n h) (above_append 48 (digits_by more (n / 10)) ((48 + n % 10) ∷ []) (digits_above more (n / 10)) (omega arith, tt))) (lt_or_ge n 10)

number-above : (n : ℕ) → Above 48 (decimal n)
unfolding decimal
number-above n = digits_above (suc n) n

some-behind : (xs : List ℕ) (d : ℕ) → 1 ≤ length (xs ++ (d ∷ []))
some-behind [] d = omega arith
some-behind (x ∷ xs) d = omega arith

number-some : (n : ℕ) → 1 ≤ length (decimal n)
unfolding decimal
number-some n = ⊎_elim (λ h. rw (last_digit n n h) (omega arith)) (λ h. rw (next_digit n n h) (some-behind (digits_by n (n / 10)) (48 + n % 10))) (lt_or_ge n 10)

letter_above : (k : ℕ) → 65 ≤ letter_of k
unfolding letter_of
letter_above zero = omega arith
letter_above (suc zero) = omega arith
letter_above (suc (suc k)) = omega arith

-- ---- a text without the byte b in front of one, and one behind the last
other : (b x : ℕ) → b + 1 ≤ x → x ≡ b → ⊥
other b x h q = omega arith

split_end : (b : ℕ) (text rest : List ℕ) → Above (b + 1) text → split_by b (text ++ (b ∷ rest)) ≡ text ∷ split_by b rest
unfolding split_by with_first
split_end b [] rest h = rw (eq-eqb b b refl)
split_end b (x ∷ xs) rest h = rw (ne_eqb x b (other b x h.0), split_end b xs rest h.1)

split_last : (b : ℕ) (text : List ℕ) → 1 ≤ length text → Above (b + 1) text → split_by b text ≡ text ∷ []
unfolding split_by with_first
split_last b [] k h = absurd (omega arith)
split_last b (x ∷ []) k h = rw (ne_eqb x b (other b x h.0))
split_last b (x ∷ y ∷ ys) k h = rw (ne_eqb x b (other b x h.0), split_last b (y ∷ ys) (omega arith) h.1)

-- ---- a row
unfoldable row_line : ℕ → ListRow → List ℕ
row_line lap r = decimal lap ++ (comma ∷ letter_of r.kind ∷ comma ∷ []) ++ decimal r.steps

line-above : (lap : ℕ) (r : ListRow) → Above 11 (row_line lap r)
unfolding row_line
line-above lap r =
    let l = letter_above r.kind in
    let between : List ℕ = comma ∷ letter_of r.kind ∷ comma ∷ [] in
    above_append 11 (decimal lap ++ between) (decimal r.steps) (above_append 11 (decimal lap) between (above_less 11 48 (decimal lap) (omega arith) (number-above lap)) (omega arith, (omega arith, (omega arith, tt))))
    (above_less 11 48 (decimal r.steps) (omega arith) (number-above r.steps))

line_read : (lap : ℕ) (r : ListRow) (rest : List ℕ) → lines_in (row_text lap r ++ rest) ≡ row_line lap r ∷ lines_in rest
unfolding row_text row_line
line_read lap r rest = ap lines_in (append_assoc (row_line lap r) (newline ∷ []) rest) ∙ split_end newline (row_line lap r) rest (line-above lap r)

-- its columns: the lap, the letter, the steps
columns-read : (lap : ℕ) (r : ListRow) → columns_in (row_line lap r) ≡ decimal lap ∷ (letter_of r.kind ∷ []) ∷ decimal r.steps ∷ []
unfolding row_line
columns-read lap r =
    let l = letter_above r.kind in
    let plain : (n : ℕ) → Above 45 (decimal n) = λ n. above_less 45 48 (decimal n) (omega arith) (number-above n) in
    let behind : List ℕ = (letter_of r.kind ∷ []) ++ (comma ∷ decimal r.steps) in
    ap columns_in (append_assoc (decimal lap) (comma ∷ letter_of r.kind ∷ comma ∷ []) (decimal r.steps)) ∙ split_end comma (decimal lap) behind (plain lap)
    ∙ ap (λ (ts : List (List ℕ)). decimal lap ∷ ts) (split_end comma (letter_of r.kind ∷ []) (decimal r.steps) (omega arith, tt))
    ∙ ap (λ (ts : List (List ℕ)). decimal lap ∷ (letter_of r.kind ∷ []) ∷ ts) (split_last comma (decimal r.steps) (number-some r.steps) (plain r.steps))

steps-read : (lap : ℕ) (r : ListRow) → steps_on (row_line lap r) ≡ r.steps
unfolding steps_on
steps-read lap r = rw (columns-read lap r) (digits-spell r.steps)

-- ---- the rows of a lap, and of laps from number j on
rows-read : (lap : ℕ) (rs : List ListRow) (rest : List ℕ) → lines_in (rows_text lap rs ++ rest) ≡ map (row_line lap) rs ++ lines_in rest
unfolding rows_text flat
rows-read lap [] rest = refl
rows-read lap (r ∷ rs) rest =
    ap lines_in (append_assoc (row_text lap r) (rows_text lap rs) rest) ∙ line_read lap r (rows_text lap rs ++ rest) ∙ ap (λ (ts : List (List ℕ)). row_line lap r ∷ ts) (rows-read lap rs rest)

rows_sum : (lap : ℕ) (rs : List ListRow) → sum_of (map steps_on (map (row_line lap) rs)) ≡ sum_of (steps_in rs)
unfolding sum_of steps_in
rows_sum lap [] = refl
rows_sum lap (r ∷ rs) =
    let a = steps-read lap r in
    let b = rows_sum lap rs in omega arith

rows-three : (lap : ℕ) (rs : List ListRow) → ThreeColumns (map (row_line lap) rs)
rows-three lap [] = tt
rows-three lap (r ∷ rs) = (ap length (columns-read lap r), rows-three lap rs)

three_append : (xs ys : List (List ℕ)) → ThreeColumns xs → ThreeColumns ys → ThreeColumns (xs ++ ys)
three_append [] ys a b = b
three_append (x ∷ xs) ys a b = (a.0, three_append xs ys a.1 b)

unfoldable laps_lines : Float → ℕ → Point3D → List Lap → List (List ℕ)
laps_lines tol j p [] = []
laps_lines tol j p (l ∷ ls) = map (row_line j) (lap_rows tol p l) ++ laps_lines tol (j + 1) (lap_end p l) ls

laps-read : (tol : Float) (j : ℕ) (p : Point3D) (ls : List Lap) (rest : List ℕ) → lines_in (laps_text tol j p ls ++ rest) ≡ laps_lines tol j p ls ++ lines_in rest
unfolding laps_text lap_text laps_lines
laps-read tol j p [] rest = refl
laps-read tol j p (l ∷ ls) rest =
    ap lines_in (append_assoc (rows_text j (lap_rows tol p l)) (laps_text tol (j + 1) (lap_end p l) ls) rest) ∙ rows-read j (lap_rows tol p l) (laps_text tol (j + 1) (lap_end p l) ls ++ rest)
    ∙ ap (λ (ts : List (List ℕ)). map (row_line j) (lap_rows tol p l) ++ ts) (laps-read tol (j + 1) (lap_end p l) ls rest)
    ∙ sym (append_assoc (map (row_line j) (lap_rows tol p l)) (laps_lines tol (j + 1) (lap_end p l) ls) (lines_in rest))

laps_sum : (tol : Float) (j : ℕ) (p : Point3D) (ls : List Lap) → sum_of (map steps_on (laps_lines tol j p ls)) ≡ sum_of (steps_in (all_rows tol p ls))
unfolding laps_lines all_rows
laps_sum tol j p [] = unfold steps_in in refl
laps_sum tol j p (l ∷ ls) =
    let here = map (row_line j) (lap_rows tol p l) in
    let next = laps_lines tol (j + 1) (lap_end p l) ls in
    let a = ap sum_of (map-append steps_on here next) ∙ sum_append (map steps_on here) (map steps_on next) in
    let b = ap sum_of (steps_append (lap_rows tol p l) (all_rows tol (lap_end p l) ls)) ∙ sum_append (steps_in (lap_rows tol p l)) (steps_in (all_rows tol (lap_end p l) ls)) in
    let x = rows_sum j (lap_rows tol p l) in
    let y = laps_sum tol (j + 1) (lap_end p l) ls in omega arith

laps-three : (tol : Float) (j : ℕ) (p : Point3D) (ls : List Lap) → ThreeColumns (laps_lines tol j p ls)
unfolding laps_lines
laps-three tol j p [] = tt
laps-three tol j p (l ∷ ls) = three_append (map (row_line j) (lap_rows tol p l)) (laps_lines tol (j + 1) (lap_end p l) ls) (rows-three j (lap_rows tol p l)) (laps-three tol (j + 1) (lap_end p l) ls)

-- ---- the first line and the last, and the line of a refusal
first_read : (rest : List ℕ) → lines_in (header ++ rest) ≡ ascii "lap,kind,steps" ∷ lines_in rest
unfolding ascii list_from split_by with_first
first_read rest = refl

worded : (word : List ℕ) (n : ℕ) → Above 11 word → lines_in (word ++ decimal n ++ (newline ∷ [])) ≡ (word ++ decimal n) ∷ []
worded word n a =
    let all = above_append 11 word (decimal n) a (above_less 11 48 (decimal n) (omega arith) (number-above n)) in
    let none : lines_in [] ≡ [] = unfold split_by in refl in
    split_end newline (word ++ decimal n) [] all ∙ ap (λ (ts : List (List ℕ)). (word ++ decimal n) ∷ ts) none

total_read : (n : ℕ) → lines_in (total_text n) ≡ (ascii "total," ++ decimal n) ∷ []
unfolding total_text
total_read n = worded (ascii "total,") n (unfold ascii list_from in (omega arith, (omega arith, (omega arith, (omega arith, (omega arith, (omega arith, tt)))))))

total_columns : (n : ℕ) → columns_in (ascii "total," ++ decimal n) ≡ ascii "total" ∷ decimal n ∷ []
unfolding ascii list_from split_by with_first
total_columns n = ap (λ (ts : List (List ℕ)). ascii "total" ∷ ts) (split_last comma (decimal n) (number-some n) (above_less 45 48 (decimal n) (omega arith) (number-above n)))

refusal-read : (n : ℕ) → lines_in (refusal_text n) ≡ (ascii "refused," ++ decimal n) ∷ []
unfolding refusal_text
refusal-read n = worded (ascii "refused,") n (unfold ascii list_from in (omega arith, (omega arith, (omega arith, (omega arith, (omega arith, (omega arith, (omega arith, (omega arith, tt)))))))))

-- ---- the whole
text-read : (tol : Float) (ls : List Lap) → lines_in (list_text tol ls) ≡ ascii "lap,kind,steps" ∷ (laps_lines tol 1 origin ls ++ ((ascii "total," ++ decimal (laps_steps tol origin ls)) ∷ []))
unfolding list_text
text-read tol ls =
    ap lines_in (append_assoc header (laps_text tol 1 origin ls) (total_text (laps_steps tol origin ls))) ∙ first_read (laps_text tol 1 origin ls ++ total_text (laps_steps tol origin ls))
    ∙ ap (λ (ts : List (List ℕ)). ascii "lap,kind,steps" ∷ ts)
    (laps-read tol 1 origin ls (total_text (laps_steps tol origin ls)) ∙ ap (λ (ts : List (List ℕ)). laps_lines tol 1 origin ls ++ ts) (total_read (laps_steps tol origin ls)))

-- an input that is listed is a tolerance and a file that is
file-listed : (b : Bool) (o : Outcome (List ℕ)) (text : List ℕ) → (if b then refused 1 else o) ≡ gives text → o ≡ gives text
file-listed true o text e = let z : ◌≡◌ {A = ℕ} 0 1 = cc in absurd (omega arith)
file-listed false o text e = e

as_read : (s text : List ℕ) (room : ℕ) → list_input s room ≡ gives text → list_file (drop 8 s) (number_at s 0) room ≡ gives text
unfolding list_input
as_read s text room e = file-listed (ltb (length s) 16) (list_file (drop 8 s) (number_at s 0) room) text e

-- After an accepted file the last line gives what the third column adds up to.
pub sum_is-printed : SumIsPrinted
unfolding lapfit_text printed
sum_is-printed s text e =
    let tol = number_at s 0 in
    let ls = laps_of (drop 8 s) in
    let f = as_read s text (most_text 800) e in
    let t = (listed-passes (drop 8 s) text tol (most_text 800) f).1 in
    let q = sum_of_the_rows (drop 8 s) text tol (most_text 800) f in
    let under : SumUnder (laps_steps tol origin ls) text = record {
      rows = laps_lines tol 1 origin ls;
      last = ascii "total," ++ decimal (laps_steps tol origin ls);
      digits = decimal (laps_steps tol origin ls);
      lines = ap lines_in (sym t) ∙ text-read tol ls;
      columns = laps-three tol 1 origin ls;
      word = total_columns (laps_steps tol origin ls);
      says = digits-spell (laps_steps tol origin ls);
      adds = q.0 ∙ sym (laps_sum tol 1 origin ls);
    } in (rw e under, q.1)

-- A refusal prints its one line, and no sum.
pub refusal-alone : RefusalAlone
unfolding lapfit_text printed
refusal-alone s n e = rw e (refusal-read n)
