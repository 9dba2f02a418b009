-- Document 02, §11: the theorems of `specs/Demand.antt` about the file. Assumes nothing.
use Rattle.std.specs.Prelude.{if◌then◌else◌}
use Prim.Native.Nat.{ℕ, zero, suc, ◌≤◌}
use mathlib.Core.Path.{◌≡◌, refl, sym, ap, ◌∙◌, subst}
use mathlib.Core.Bool.{Bool, true, false, not, ◌||◌}
use mathlib.Core.List.{List, [], ◌∷◌, ◌++◌, map, head-eq_of_cons-eq, tail-eq_of_cons-eq}
use native.Mathlib.Omega.{arith}
use borrow.Author.Tests.{le-ltb}
use lib.ListN.{length, get_or}
use lib.Dec.{T, ltb, eqb}
use lib.IntN.{ℤ, pos, negsuc}
use lib.Ieee.{binary64, fits, of_bits, of_fields, odd}
use lib.Ieee.Fits.{round-fits}
use lib.Ieee.Bits.{of_bits-fits}
use Rattle.floats.proofs.Order.{and_left}
use Rattle.geo.specs.declared.types.Point3D.{Point3D}
use Rattle.geo.specs.Lent.{origin}
use Rattle.geo.specs.Domain.{command_in, formed, zero3, is_plus_zero, tolerance}
use Rattle.geo.specs.Outcome.{row, refusal, Outcome, refused, gives, unless}
use Rattle.geo.proofs.Rows.{unless-given}
use Rattle.file.specs.Command.{laid, decoded, HeldPoint}
use Rattle.file.proofs.RoundTrip.{decoded-enc, formed-laid, HeldCommand}
use Rattle.file.proofs.Stores.{enc-move, enc-line, enc_bezier}
use Rattle.laps.specs.File.{encode, lap_count, laps_of, short, big, table_ok, form_ok, placed, domain_ok, Lap, lacks, lap_ok, lap_tested, laps_ok}
use Rattle.laps.specs.Rows.{file_rows, file_size, size_rows}
use Rattle.laps.proofs.Whole.{length_encode}
use Rattle.laps.proofs.ReadBack.{Somes, laps-encode, table-encode, lap-count-encode}
use Rattle.laps.proofs.Rows.{file_passed, behind-file}
use Rattle.pieces.specs.Pieces.{laps_rule}
use Rattle.lap_fit.specs.Fit.{fit_laps, laps_most, file_fit_rows, fit_file_by}
use Rattle.svg_text.specs.Thousandths.{float_of, TenDigits}
use Rattle.svg_text.specs.Path.{Drawn, move, line, curve, named}
use Rattle.svg_text.specs.Drawing.{place, drawn}
use Rattle.svg_text.proofs.Apart.{one_number}
use Rattle.svg_text.proofs.Tens.{Ten, Tens, Opened, tens, opened}
use Rattle.svg.specs.Course.{until_move, laps_drawn, inked, course_laps, course_file, all_in, read_rows, made, read_course}
use Rattle.svg.proofs.Checking.{counted}
use Rattle.svg.proofs.Coursing.{whole_course, count-laps, count-commands}
use Rattle.svg_laws.specs.Demand.{OneMeaning, IsCourse, ResultIsCourse, FitTakesCourse}

-- ---- what is accepted
record Passed (t : List ℕ) (f : List ℕ) : Type 0 where
  cs : List Drawn
  says : named t ≡ gives cs
  laps-few : length (laps_drawn cs) ≤ 64
  few : length cs ≤ 800
  inside : all_in cs ≡ true
  file : course_file cs ≡ f

no_file : {A X : Type 0} (n : ℕ) (f : A) → refused n ≡ gives f → X
no_file n f e = let z : ◌≡◌ {A = ℕ} 0 1 = cc in absurd (omega arith)

passed : (t : List ℕ) (room : ℕ) (f : List ℕ) → read_course t room ≡ gives f → Passed t f
unfolding read_course made
passed t room f e = go (ltb 65536 (length t)) (named t) refl e
  where
    go : (b : Bool) (o : Outcome (List Drawn)) → named t ≡ o → (if b then refused 2 else made room o) ≡ gives f → Passed t f
    go true o p h = no_file 2 f h
    go false (refused n) p h = no_file n f h
    go false (gives cs) p h =
        let u = unless-given (refusal (read_rows (length (laps_drawn cs)) (length cs) (all_in cs) room)) (course_file cs) f h in
        let c = counted (length (laps_drawn cs)) (length cs) (all_in cs) room u.0 in
        record { cs = cs; says = p; laps-few = c.few-laps; few = c.few; inside = c.near; file = u.1 }

-- ---- the laps, and all their commands in one list
abbrev joined : {A : Type 0} → List (List A) → List A
joined [] = []
joined (l ∷ ls) = l ++ joined ls

joined-inked : (cs : List Drawn) → map inked (until_move cs) ++ joined (course_laps cs) ≡ map inked cs
unfolding until_move laps_drawn course_laps
joined-inked [] = refl
joined-inked (move x y ∷ cs) = ap (λ (l : List (List ℕ)). inked (move x y) ∷ l) (joined-inked cs)
joined-inked (line x y ∷ cs) = ap (λ (l : List (List ℕ)). inked (line x y) ∷ l) (joined-inked cs)
joined-inked (curve a b c d x y ∷ cs) = ap (λ (l : List (List ℕ)). inked (curve a b c d x y) ∷ l) (joined-inked cs)

joined-laps : (cs : List Drawn) → Opened cs → joined (course_laps cs) ≡ map inked cs
unfolding until_move laps_drawn course_laps
joined-laps [] o = refl
joined-laps (move x y ∷ cs) o = ap (λ (l : List (List ℕ)). inked (move x y) ∷ l) (joined-inked cs)
joined-laps (line x y ∷ cs) o = absurd o
joined-laps (curve a b c d x y ∷ cs) o = absurd o

-- ---- the file is read back
course_back : (cs : List Drawn) → length (laps_drawn cs) ≤ 64 → length cs ≤ 800 → laps_of (course_file cs) ≡ course_laps cs
unfolding course_file
course_back cs h k =
    let n = count-laps cs in
    let m = count-commands cs in
    laps-encode (course_laps cs) (whole_course cs) (omega (arith, n)) (omega (arith, m))

-- ---- a command is known from its bytes
float_fits : (z : ℤ) → T (fits binary64 (float_of z))
unfolding float_of
float_fits (pos v) = round-fits binary64 false v 1000
float_fits (negsuc v) = round-fits binary64 true (suc v) 1000

held_place : (x y : ℤ) → HeldPoint (place x y)
unfolding place
held_place x y = (float_fits x, float_fits y, of_bits-fits binary64 0)

held-drawn : (c : Drawn) → HeldCommand (drawn c)
unfolding drawn
held-drawn (move x y) = held_place x y
held-drawn (line x y) = held_place x y
held-drawn (curve a b c d x y) = (held_place x y, held_place a b, held_place c d)

same_place : (x y u w : ℤ) → TenDigits x → TenDigits y → TenDigits u → TenDigits w → place x y ≡ place u w → (x ≡ u) × (y ≡ w)
unfolding place
same_place x y u w a b c d e = (one_number x u a c (ap (λ (p : Point3D). p.x) e), one_number y w b d (ap (λ (p : Point3D). p.y) e))

same-drawn : (c d : Drawn) → Ten c → Ten d → drawn c ≡ drawn d → c ≡ d
unfolding drawn
same-drawn (move x y) (move u w) p q e = let s = same_place x y u w p.0 p.1 q.0 q.1 (cc) in cc
same-drawn (move x y) (line u w) p q e = let z : ◌≡◌ {A = ℕ} 0 1 = cc in absurd (omega arith)
same-drawn (move x y) (curve a b c d u w) p q e = let z : ◌≡◌ {A = ℕ} 0 1 = cc in absurd (omega arith)
same-drawn (line x y) (move u w) p q e = let z : ◌≡◌ {A = ℕ} 0 1 = cc in absurd (omega arith)
same-drawn (line x y) (line u w) p q e = let s = same_place x y u w p.0 p.1 q.0 q.1 (cc) in cc
same-drawn (line x y) (curve a b c d u w) p q e = let z : ◌≡◌ {A = ℕ} 0 1 = cc in absurd (omega arith)
same-drawn (curve a b c d x y) (move u w) p q e = let z : ◌≡◌ {A = ℕ} 0 1 = cc in absurd (omega arith)
same-drawn (curve a b c d x y) (line u w) p q e = let z : ◌≡◌ {A = ℕ} 0 1 = cc in absurd (omega arith)
same-drawn (curve a b c d x y) (curve f g h i u w) p q e =
    let r = same_place x y u w p.4 p.5 q.4 q.5 (cc) in
    let s = same_place a b f g p.0 p.1 q.0 q.1 (cc) in
    let t = same_place c d h i p.2 p.3 q.2 q.3 (cc) in cc

same-inked : (c d : Drawn) → Ten c → Ten d → inked c ≡ inked d → c ≡ d
same-inked c d p q e = same-drawn c d p q (sym (decoded-enc (drawn c) (held-drawn c)) ∙ ap decoded e ∙ decoded-enc (drawn d) (held-drawn d))

same-commands : (cs ds : List Drawn) → Tens cs → Tens ds → map inked cs ≡ map inked ds → cs ≡ ds
same-commands [] [] p q e = refl
same-commands [] (d ∷ ds) p q e = let z : ◌≡◌ {A = ℕ} 0 1 = cc in absurd (omega arith)
same-commands (c ∷ cs) [] p q e = let z : ◌≡◌ {A = ℕ} 0 1 = cc in absurd (omega arith)
same-commands (c ∷ cs) (d ∷ ds) p q e =
    let h = same-inked c d p.0 q.0 (head-eq_of_cons-eq e) in
    let t = same-commands cs ds p.1 q.1 (tail-eq_of_cons-eq e) in cc

-- Two texts that are read to the same file name the same commands and numbers.
pub one-meaning : OneMeaning
one-meaning s t r q f e g =
    let a = passed s r f e in
    let b = passed t q f g in
    let l : course_laps a.cs ≡ course_laps b.cs =
    sym (course_back a.cs a.laps-few a.few) ∙ ap laps_of (a.file ∙ sym b.file) ∙ course_back b.cs b.laps-few b.few in
    let m : map inked a.cs ≡ map inked b.cs =
    sym (joined-laps a.cs (opened s a.cs a.says)) ∙ ap joined l ∙ joined-laps b.cs (opened t b.cs b.says) in
    let n : a.cs ≡ b.cs = same-commands a.cs b.cs (tens s a.cs a.says) (tens t b.cs b.says) m in
    (a.cs, a.says, b.says ∙ ap gives (sym n))

-- ---- the result is a lap file
kept : (l : List Drawn) → map decoded (map inked l) ≡ map drawn l
kept [] = refl
kept (c ∷ l) = rw (decoded-enc (drawn c) (held-drawn c), kept l)

kept-laps : (ls : List (List Drawn)) → map (map decoded) (map (map inked) ls) ≡ map (map drawn) ls
kept-laps [] = refl
kept-laps (l ∷ ls) = rw (kept l, kept-laps ls)

somes_inked : (cs : List Drawn) → Somes (course_laps cs)
unfolding laps_drawn course_laps
somes_inked [] = tt
somes_inked (move x y ∷ cs) = (omega arith, somes_inked cs)
somes_inked (line x y ∷ cs) = somes_inked cs
somes_inked (curve a b c d x y ∷ cs) = somes_inked cs

-- row 4: the form of a command
held-origin : HeldPoint origin
held-origin = let h = of_bits-fits binary64 0 in (h, h, h)

kind-laid : (k : ℕ) (p q r : Point3D) → get_or (laid k p q r) 0 0 ≡ k
unfolding laid
kind-laid k p q r = refl

form_laid : (first : Bool) (k : ℕ) (p q r : Point3D) → placed first k ≡ true → HeldPoint q → HeldPoint r → formed k q r ≡ true → form_ok first (laid k p q r) ≡ true
unfolding form_ok
form_laid first k p q r a b c d = rw (kind-laid k p q r, a, formed-laid k p q r b c, d)

unused : (k : ℕ) → k ≤ 1 → formed k origin origin ≡ true
unfolding formed zero3 is_plus_zero of_bits of_fields odd
unused zero h = refl
unused (suc zero) h = refl
unused (suc (suc k)) h = absurd (omega arith)

form_move : (x y : ℤ) → form_ok true (inked (move x y)) ≡ true
unfolding drawn placed
form_move x y = rw (enc-move (place x y)) (form_laid true 0 (place x y) origin origin refl held-origin held-origin (unused 0 (omega arith)))

form_line : (x y : ℤ) → form_ok false (inked (line x y)) ≡ true
unfolding drawn placed
form_line x y = rw (enc-line (place x y)) (form_laid false 1 (place x y) origin origin refl held-origin held-origin (unused 1 (omega arith)))

form_curve : (a b c d x y : ℤ) → form_ok false (inked (curve a b c d x y)) ≡ true
unfolding drawn placed formed
form_curve a b c d x y =
    rw (enc_bezier (place x y) (place a b) (place c d))
    (form_laid false 3 (place x y) (place a b) (place c d) refl (held_place a b) (held_place c d) refl)

lap-formed : (cs : List Drawn) → lap_ok form_ok false (map inked (until_move cs)) ≡ true
unfolding lap_ok until_move
lap-formed [] = refl
lap-formed (move x y ∷ cs) = refl
lap-formed (line x y ∷ cs) = rw (form_line x y) (lap-formed cs)
lap-formed (curve a b c d x y ∷ cs) = rw (form_curve a b c d x y) (lap-formed cs)

-- a lap that has its Move is tested with it, whether it must have it or may lack it
has_move : (c : List ℕ) (l : Lap) → form_ok true c ≡ true → lacks (c ∷ l) ≡ false
unfolding lacks form_ok placed
has_move c l e = ap not (and_left (eqb (get_or c 0 0) 0) _ e)

with_move : (test : Bool → List ℕ → Bool) (must : Bool) (c : List ℕ) (l : Lap) → lacks (c ∷ l) ≡ false → lap_tested test must (c ∷ l) ≡ lap_ok test true (c ∷ l)
unfolding lap_tested
with_move test must c l e = ap (λ (b : Bool). lap_ok test b (c ∷ l)) (either must (lacks (c ∷ l)) e)
  where
    either : (m t : Bool) → t ≡ false → (m || not t) ≡ true
    either true t z = refl
    either false t z = ap not z

both_true : (a b : Bool) → a ≡ true → b ≡ true → (if a then b else false) ≡ true
both_true true b p q = q
both_true false b p q = p

opened_formed : (x y : ℤ) (cs : List Drawn) → lap_ok form_ok true (inked (move x y) ∷ map inked (until_move cs)) ≡ true
unfolding lap_ok
opened_formed x y cs = rw (form_move x y) (lap-formed cs)

laps-formed : (must : Bool) (cs : List Drawn) → laps_ok form_ok must (course_laps cs) ≡ true
unfolding laps_ok laps_drawn course_laps
laps-formed must [] = refl
laps-formed must (move x y ∷ cs) =
    both_true _ _
    (with_move form_ok must (inked (move x y)) (map inked (until_move cs)) (has_move (inked (move x y)) (map inked (until_move cs)) (form_move x y)) ∙ opened_formed x y cs)
    (laps-formed false cs)
laps-formed must (line x y ∷ cs) = laps-formed must cs
laps-formed must (curve a b c d x y ∷ cs) = laps-formed must cs

-- row 5: its numbers
first_in : (first : Bool) (c : Drawn) (cs : List Drawn) → all_in (c ∷ cs) ≡ true → (domain_ok first (inked c) ≡ true) × (all_in cs ≡ true)
unfolding all_in domain_ok
first_in first c cs e = rw (decoded-enc (drawn c) (held-drawn c)) (go (command_in (drawn c)) e)
  where
    go : (b : Bool) → (if b then all_in cs else false) ≡ true → (b ≡ true) × (all_in cs ≡ true)
    go true h = (refl, h)
    go false h = let z : ◌≡◌ {A = ℕ} 0 1 = cc in absurd (omega arith)

lap_in : (cs : List Drawn) → all_in cs ≡ true → lap_ok domain_ok false (map inked (until_move cs)) ≡ true
unfolding lap_ok until_move
lap_in [] e = refl
lap_in (move x y ∷ cs) e = refl
lap_in (line x y ∷ cs) e = let h = first_in false (line x y) cs e in rw h.0 (lap_in cs h.1)
lap_in (curve a b c d x y ∷ cs) e = let h = first_in false (curve a b c d x y) cs e in rw h.0 (lap_in cs h.1)

opened_in : (x y : ℤ) (cs : List Drawn) → all_in (move x y ∷ cs) ≡ true → lap_ok domain_ok true (inked (move x y) ∷ map inked (until_move cs)) ≡ true
unfolding lap_ok
opened_in x y cs e = let h = first_in true (move x y) cs e in rw h.0 (lap_in cs h.1)

laps_in : (must : Bool) (cs : List Drawn) → all_in cs ≡ true → laps_ok domain_ok must (course_laps cs) ≡ true
unfolding laps_ok laps_drawn course_laps
laps_in must [] e = refl
laps_in must (move x y ∷ cs) e =
    both_true _ _
    (with_move domain_ok must (inked (move x y)) (map inked (until_move cs)) (has_move (inked (move x y)) (map inked (until_move cs)) (form_move x y)) ∙ opened_in x y cs e)
    (laps_in false cs (first_in true (move x y) cs e).1)
laps_in must (line x y ∷ cs) e = laps_in must cs (first_in false (line x y) cs e).1
laps_in must (curve a b c d x y ∷ cs) e = laps_in must cs (first_in false (curve a b c d x y) cs e).1

module _ (cs : List Drawn) (laps-few : length (laps_drawn cs) ≤ 64) (few : length cs ≤ 800) where
  not_short : short (course_file cs) ≡ false
  unfolding short course_file
  not_short = let n = length_encode (course_laps cs) (whole_course cs) in le-ltb (length (encode (course_laps cs))) 8 (omega arith)

  not_big : big (course_file cs) ≡ false
  unfolding big course_file
  not_big =
      let n = length_encode (course_laps cs) (whole_course cs) in
      let m = count-commands cs in
      let l = count-laps cs in
      rw (le-ltb 65536 (length (encode (course_laps cs))) (omega arith), lap-count-encode (course_laps cs) (whole_course cs) (omega arith), le-ltb 64 (length (course_laps cs)) (omega arith))

  table-right : table_ok (course_file cs) ≡ true
  unfolding course_file
  table-right =
      let m = count-commands cs in
      let l = count-laps cs in
      table-encode (course_laps cs) (whole_course cs) (omega arith) (omega arith) (omega arith) (somes_inked cs)

  file-right : all_in cs ≡ true → refusal (file_rows (course_file cs)) ≡ 0
  unfolding file_rows refusal
  file-right e = rw (not_short, not_big, table-right, course_back cs laps-few few, laps-formed true cs, laps_in true cs e)

-- Each M opens a lap, and the result is a lap file.
pub result_is_course : ResultIsCourse
result_is_course t room f e =
    let a = passed t room f e in
    subst (IsCourse t) a.file
    (record {
      cs = a.cs;
      says = a.says;
      right = file-right a.cs a.laps-few a.few a.inside;
      laps = ap (map (map decoded)) (course_back a.cs a.laps-few a.few) ∙ decoded-laps a.cs;
    })
  where
    decoded-laps : (cs : List Drawn) → map (map decoded) (course_laps cs) ≡ map (map drawn) (laps_drawn cs)
    decoded-laps cs = unfold course_laps in kept-laps (laps_drawn cs)

-- ---- the fit takes it
no_refusal : {A X : Type 0} (a : A) (n : ℕ) → gives a ≡ refused n → X
no_refusal a n e = let z : ◌≡◌ {A = ℕ} 0 1 = cc in absurd (omega arith)

late : (a b c : Bool) (f : List ℕ) (n : ℕ) → unless (refusal (row 6 a ∷ row 8 b ∷ row 9 c ∷ [])) f ≡ refused n → 6 ≤ n
unfolding refusal unless
late true b c f n e = let z : 6 ≡ n = cc in omega arith
late false true c f n e = let z : 8 ≡ n = cc in omega arith
late false false true f n e = let z : 9 ≡ n = cc in omega arith
late false false false f n e = no_refusal f n e

-- The fit of a file that was read is refused by none of 1 to 5.
pub fit_takes_course : FitTakesCourse
unfolding fit_file_by file_fit_rows size_rows
fit_takes_course t room f tol space n e h =
    let p = file_passed f (refusal (file_rows f)) refl (result_is_course t room f e).right in
    let fitted = encode (fit_laps (laps_rule tol) origin (laps_of f)) in
    let rows = row 6 (not (tolerance tol)) ∷ size_rows (lap_count f) (laps_most tol origin (laps_of f)) space in
    late (not (tolerance tol)) (ltb 800 (laps_most tol origin (laps_of f))) (ltb space (file_size (lap_count f) (laps_most tol origin (laps_of f)))) fitted n
    (sym (ap (λ (k : ℕ). unless k fitted) (behind-file f rows p)) ∙ h)
