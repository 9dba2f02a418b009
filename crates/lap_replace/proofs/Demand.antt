-- Demand 3: the theorems of `specs/Demand.antt`. Assumes nothing.
use Prim.Native.Nat.{ℕ, zero, suc, ◌+◌, ◌-◌, ◌*◌, ◌≤◌, ◌<◌}
use mathlib.Core.Path.{◌≡◌, refl, sym, ap, ◌∙◌, subst}
use mathlib.Core.Bool.{Bool, true, false}
use mathlib.Core.List.{List, [], ◌∷◌, map}
use native.Mathlib.Omega.{arith}
use borrow.Author.Tests.{eq-eqb, ne_eqb, le-ltb, le-leb}
use lib.Dec.{leb}
use lib.ListN.{length, get_or, set, length-set}
use lib.Seq.{get_or-set_same, get_or-set_other}
use lib.Ieee.{Float}
use Rattle.floats.specs.Ops.{◌≺◌, +0}
use Rattle.floats.proofs.Order.{clash}
use Rattle.geo.specs.declared.types.Point3D.{Point3D}
use Rattle.geo.specs.Domain.{commands_in}
use Rattle.geo.specs.Outcome.{gives, refusal}
use Rattle.geo.specs.Lent.{flat, origin, end_of, kind_of, numbers_of}
use Rattle.geo.proofs.Rows.{unless-gives}
use Rattle.geo.proofs.Tolerance.{tolerance-positive}
use Rattle.file.specs.Command.{decoded, enc, lent_lap}
use Rattle.file.proofs.Lent.{lent-commands, lent_length}
use Rattle.pieces.specs.Pieces.{laps_rule}
use Rattle.pieces.specs.declared.pieces.Rule.{Rule}
use Rattle.course.specs.Course.{fit_on, end_on, lent_course}
use Rattle.course.proofs.Demand.{course_gives}
use Rattle.laps.proofs.Canonical as form
use Rattle.lap_fit.proofs.ByteLists.{bytes-file}
use Rattle.laps.specs.File.{Lap, lap_count, laps_of, encode, short, big, table_ok, lacks, lap_tested, laps_ok, form_ok, domain_ok, AllFull, command_count, Bytes}
use Rattle.laps.proofs.Laps.{wholes_of, somes_of, few-commands}
use Rattle.laps.proofs.ReadBack.{Somes, lap-count-encode, laps-encode}
use Rattle.laps.proofs.Rows.{FilePassed, size_0}
use Rattle.laps.proofs.Turns.{length_laps_of}
use Rattle.laps.proofs.Walks.{not_big}
use Rattle.laps.proofs.Whole.{whole-lent, length_encode}
use Rattle.lap_fit.specs.Fit.{lap_end, start_of, fit_lap, fit_laps, laps_most, fit_new}
use Rattle.lap_fit.proofs.Accepted.{Accepted, accepted, Fitted, fitted}
use Rattle.lap_fit.proofs.Starts.{one-back, fit_at}
use Rattle.lap_replace.specs.Demand.{lap_at, course_with, Canonical, ReadBack, OneCourse, LapsAreFittedBy, LapsAreFitted, StartsAtTheEndBy, StartsAtTheEnd, EachLapGivesBy, EachLapGives, FitIsLapFileBy, FitIsLapFile, Fresh, ReplacedIsFresh, OthersStay, NewIsFitted, LentAsCommands, CommandsReplaced}
use Rattle.lap_swap.specs.Swap.{swap, swap_both, next_lacks, next_lap, most_both, replaced_laps}
use Rattle.lap_checks.specs.Checks.{lent_whole, lent_formed, lent_new, most_with, row1, row2, row3, row4, row5, row7, replace_rows}
use Rattle.lap_replace.specs.Replace.{replace_lap}
use Rattle.lap_replace.proofs.New.{length_lent, lent-most, lent-fit, lent-end, lent-formed, lent-near}
use Rattle.lap_swap.proofs.Replaced.{wholes_set, new_ok, new_some, new_in_total}
use Rattle.lap_replace.proofs.Again.{fits_replaced, mosts_replaced}
use Rattle.lap_replace.proofs.Finite.{lap-finite}
use Rattle.lap_checks.proofs.Rows.{NewPassed, new_sizes}

-- ---- the format
-- A file whose mark and table are right is what its laps are encoded to.
pub canonical : Canonical
canonical s b h t = form.canonical s b h t

-- Laps that a u32 can count are read back from the file that they are encoded to.
pub read_back : ReadBack
read_back ls w n t = laps-encode ls w n t

-- The course with lap k replaced is one file.
pub one_course : OneCourse
unfolding course_with
one_course s g k ks ns b h t e = sym (form.canonical g b h t) ∙ ap encode e

-- ---- the fit
lap-fitted : (r : Rule) (s f : List ℕ) → Fitted r s f → (j : ℕ) → 1 ≤ j → j ≤ lap_count s
    → lap_at f j ≡ map enc (fit_on r (start_of j (laps_of s)) (map decoded (lap_at s j)))
unfolding lap_at start_of fit_lap
lap-fitted r s f q j a b =
    let n = length_laps_of s in
    ap (λ (ls : List Lap). get_or ls (j - 1) []) q.laps ∙ fit_at r origin (laps_of s) (j - 1) (omega arith)

-- Each lap of an accepted fit is the fit of the recorded lap from its start, encoded, and there are as many.
pub laps_are_fitted_by : (r : Rule) → LapsAreFittedBy r
laps_are_fitted_by r s f room e = let q = fitted r s room f (accepted r s room f e) in (q.count, lap-fitted r s f q)

last_end : (p : Point3D) (l : Lap) → 0 < length l → lap_end p l ≡ end_of (decoded (get_or l (length l - 1) []))
unfolding lap_end end_on
last_end p [] h = absurd (omega arith)
last_end p (c ∷ []) h = refl
last_end p (c ∷ d ∷ l) h = let z : suc (suc (length l)) - 1 ≡ suc (suc (length l) - 1) = omega arith in rw z (last_end (end_of (decoded c)) (d ∷ l) (omega arith))

some_at : (ls : List Lap) (i : ℕ) → Somes ls → i < length ls → 0 < length (get_or ls i [])
some_at [] i s h = absurd (omega arith)
some_at (l ∷ ls) zero s h = s.0
some_at (l ∷ ls) (suc i) s h = some_at ls i s.1 (omega arith)

-- A lap starts at the end of the last command of the lap before it.
pub starts_at_the_end_by : (r : Rule) → StartsAtTheEndBy r
unfolding lap_at start_of
starts_at_the_end_by r s f room e j a b =
    let t = (accepted r s room f e).passed.file.table in
    let n = length_laps_of s in
    let z : j + 1 - 1 ≡ suc (j - 1) = omega arith in
    rw z
    (one-back origin origin (laps_of s) (j - 1) (somes_of s t) (omega arith)
    ∙ last_end origin (get_or (laps_of s) (j - 1) []) (some_at (laps_of s) (j - 1) (somes_of s t) (omega arith)))

-- Each lap of an accepted fit is, in order, the kept commands of the recorded lap and what each of its chains gives, as demand 3 says; it has a command, and finite numbers.
pub each-lap-gives_by : (r : Rule) → EachLapGivesBy r
each-lap-gives_by r s f room e =
    let a = accepted r s room f e in
    let q = fitted r s room f a in
    let pos = tolerance-positive r.tolerance a.passed.within in
    let n = length_laps_of s in
    let m = length_laps_of f in
    let c = q.count in (
      q.count,
      λ j g h. record {
        commands = fit_on r (start_of j (laps_of s)) (map decoded (lap_at s j));
        bytes = lap-fitted r s f q j g h;
        parts = course_gives r pos (start_of j (laps_of s)) (map decoded (lap_at s j));
        some = unfold lap_at in some_at (laps_of f) (j - 1) (somes_of f q.table) (omega arith);
        finite = unfold lap_at start_of in lap-finite r (laps_of s) (j - 1) a.passed.file.near a.passed.few (omega arith);
      },
    )

-- An accepted fit is a lap file.
pub fit-is-lap-file_by : (r : Rule) → FitIsLapFileBy r
fit-is-lap-file_by r s f room e =
    let a = accepted r s room f e in
    let q = fitted r s room f a in
    record {
      bytes = subst Bytes a.bytes (bytes-file r origin (laps_of s));
      least = q.long;
      greatest = q.size;
      laps = subst (λ (n : ℕ). n ≤ 64) (sym q.count) (not_big s a.passed.file.small).1;
      marked = form.marked f q.long q.table;
      table = q.table;
      commands = few-commands f q.table;
    }

-- So of the fit of a file.
pub laps_are_fitted : LapsAreFitted
laps_are_fitted tol = laps_are_fitted_by (laps_rule tol)

pub starts_at_the_end : StartsAtTheEnd
starts_at_the_end tol = starts_at_the_end_by (laps_rule tol)

pub each-lap-gives : EachLapGives
each-lap-gives tol = each-lap-gives_by (laps_rule tol)

pub fit-is-lap-file : FitIsLapFile
fit-is-lap-file tol = fit-is-lap-file_by (laps_rule tol)

-- ---- the course with lap k replaced is read back
course_laps : (s : List ℕ) (k : ℕ) (ks : List ℕ) (ns : List Float) → table_ok s ≡ true → lap_count s ≤ 64 → length (course_with s k ks ns) ≤ 65536
    → (laps_of (course_with s k ks ns) ≡ swap k (lent_lap ks ns) 1 (laps_of s)) × (lap_count (course_with s k ks ns) ≡ lap_count s)
unfolding course_with
course_laps s k ks ns t h g =
    let ls : List Lap = swap k (lent_lap ks ns) 1 (laps_of s) in
    let w : AllFull ls = wholes_set (laps_of s) (k - 1) (lent_lap ks ns) (whole-lent ks ns) (wholes_of s t) in
    let n : length ls ≡ lap_count s = length-set (laps_of s) (k - 1) (lent_lap ks ns) ∙ length_laps_of s in
    let e = length_encode ls w in
    (laps-encode ls w (omega arith) (omega arith), lap-count-encode ls w (omega arith) ∙ n)

-- ---- what the two fits have
module _ (s f : List ℕ) (tol : Float) (k : ℕ) (ks : List ℕ) (ns : List Float) (r : ℕ) (g : List ℕ) (w : Fresh s f tol k ks ns r g) where
  old : Accepted (laps_rule tol) s w.room f
  old = accepted (laps_rule tol) s w.room f w.fit

  new : Accepted (laps_rule tol) (course_with s k ks ns) r g
  new = accepted (laps_rule tol) (course_with s k ks ns) r g w.fresh

  file : FilePassed s
  file = old.passed.file

  is-fitted : Fitted (laps_rule tol) s f
  is-fitted = fitted (laps_rule tol) s w.room f old

  pos : (+0 ≺ tol) ≡ true
  pos = tolerance-positive tol old.passed.within

  read : (laps_of (course_with s k ks ns) ≡ swap k (lent_lap ks ns) 1 (laps_of s)) × (lap_count (course_with s k ks ns) ≡ lap_count s)
  read = course_laps s k ks ns file.table (not_big s file.small).1 (not_big (course_with s k ks ns) new.passed.file.small).0

  inside : k - 1 < length (laps_of s)
  inside = let n = length_laps_of s in let a = w.first in let b = w.last in omega arith

  -- ---- no row refuses the replacement
  formed_new : lap_tested form_ok (leb k 1) (lent_lap ks ns) ≡ true
  formed_new = new_ok form_ok (laps_of s) k (lent_lap ks ns) w.first inside (subst (λ (ls : List Lap). laps_ok form_ok true ls ≡ true) read.0 new.passed.file.formed)

  near_new : lap_tested domain_ok (leb k 1) (lent_lap ks ns) ≡ true
  near_new = new_ok domain_ok (laps_of s) k (lent_lap ks ns) w.first inside (subst (λ (ls : List Lap). laps_ok domain_ok true ls ≡ true) read.0 new.passed.file.near)

  some_new : 0 < length ks
  some_new =
      let a = new_some (laps_of s) (k - 1) (lent_lap ks ns) inside (subst Somes read.0 (somes_of (course_with s k ks ns) new.passed.file.table)) in
      let b = length_lent ks ns in omega arith

  few_new : length ks ≤ 800
  few_new =
      let a = subst (λ (ls : List Lap). command_count ls ≤ 800) read.0 (few-commands (course_with s k ks ns) new.passed.file.table) in
      let b = new_in_total (laps_of s) (k - 1) (lent_lap ks ns) inside in
      let c = length_lent ks ns in omega arith

  passes_1 : row1 s f (lent_whole ks ns) ≡ false
  unfolding row1 lent_whole
  passes_1 = let a : short f ≡ false = unfold short in le-ltb (length f) 8 is-fitted.long in rw (file.long, a, eq-eqb (length ns) (9 * length ks) w.whole)

  passes_2 : row2 s f (leb (length ks) 800) ≡ false
  unfolding row2
  passes_2 = rw (file.small, small_f, le-leb (length ks) 800 few_new)
    where
      small_f : big f ≡ false
      small_f = unfold big in rw (le-ltb 65536 (length f) is-fitted.size, is-fitted.count) (le-ltb 64 (lap_count s) (not_big s file.small).1)

  passes_3 : row3 s f ≡ false
  unfolding row3
  passes_3 = rw (file.table, is-fitted.table, is-fitted.count, eq-eqb (lap_count s) (lap_count s) refl)

  passes_4 : row4 s (lent_formed (leb k 1) ks ns) ≡ false
  unfolding row4 lent_formed
  passes_4 = let a = lent-formed ks ns w.held (leb k 1) some_new formed_new in let h = some_new in rw (file.formed, ne_eqb (length ks) 0 (λ z. omega arith), a.0, a.1)

  passes_5 : row5 s (commands_in ks ns) ≡ false
  unfolding row5
  passes_5 = rw (file.near, lent-near ks ns w.held (leb k 1) near_new)

  passes_7 : row7 k s ≡ false
  unfolding row7
  passes_7 = let h = w.first in rw (ne_eqb k 0 (λ z. omega arith), le-ltb (lap_count s) k w.last)

  passed : NewPassed s f k (lent_new tol (laps_of s) k ks ns) tol
  passed = record { p1 = passes_1; p2 = passes_2; p3 = passes_3; counted = refl; p4 = passes_4; p5 = passes_5; p6 = old.passed.within; p7 = passes_7 }

  -- ---- its most is no more than the fresh fit's
  at_most : k ≤ length (laps_of s)
  at_most = let n = length_laps_of s in let b = w.last in omega arith

  somes : Somes (laps_of s)
  somes = somes_of s file.table

  most_of_both : most_with (lent_new tol (laps_of s) k ks ns) k s f ≤ laps_most tol origin (laps_of (course_with s k ks ns))
  unfolding most_with most_both
  most_of_both =
      rw (is-fitted.laps, read.0, ← lent-most ks ns w.held tol (start_of k (laps_of s)), ← lent-end ks ns w.held (start_of k (laps_of s)))
      (mosts_replaced (laps_rule tol) k (lent_lap ks ns) (laps_of s) w.first at_most somes pos)

  not_refused : (r' : ℕ) → r ≤ r' → refusal (replace_rows s f k (lent_new tol (laps_of s) k ks ns) tol r') ≡ 0
  not_refused r' h =
      let a = most_of_both in
      let b = new.passed.few in
      let c = new.passed.space in
      let d = read.1 in
      let e = is-fitted.count in
      new_sizes s f k (lent_new tol (laps_of s) k ks ns) tol r' passed ∙ size_0 (lap_count f) (most_with (lent_new tol (laps_of s) k ks ns) k s f) r' (omega arith) (omega arith)

  -- ---- its bytes are the fresh fit's
  laps_of_both : replaced_laps (laps_rule tol) k ks ns (laps_of s) (laps_of f) ≡ fit_laps (laps_rule tol) origin (laps_of (course_with s k ks ns))
  unfolding replaced_laps
  laps_of_both =
      rw (is-fitted.laps, read.0, ← lent-fit ks ns w.held (laps_rule tol) (start_of k (laps_of s)), ← lent-end ks ns w.held (start_of k (laps_of s)))
      (sym (fits_replaced (laps_rule tol) k (lent_lap ks ns) (laps_of s) w.first at_most somes))

  same_bytes : encode (replaced_laps (laps_rule tol) k ks ns (laps_of s) (laps_of f)) ≡ g
  same_bytes = ap encode laps_of_both ∙ new.bytes

  fresh-laps : laps_of g ≡ replaced_laps (laps_rule tol) k ks ns (laps_of s) (laps_of f)
  fresh-laps = (fitted (laps_rule tol) (course_with s k ks ns) r g new).laps ∙ sym laps_of_both

  replaced : (r' : ℕ) → r ≤ r' → replace_lap s f k ks ns tol r' ≡ gives g
  unfolding replace_lap
  replaced r' h = unless-gives (refusal (replace_rows s f k (lent_new tol (laps_of s) k ks ns) tol r')) _ (not_refused r' h) ∙ ap gives same_bytes

  inside-fitted : k - 1 < length (laps_of f)
  inside-fitted = let n = length_laps_of f in let c = is-fitted.count in let a = w.first in let l = w.last in omega arith

  -- ---- its laps: lap k, lap k + 1 where it is fitted again, and the others
  stays_at : (both : Bool) (x y : Lap) (j : ℕ) → 1 ≤ j → (j ≡ k → ⊥) → (j ≡ k + 1 → both ≡ false) → get_or (swap_both both k x y (laps_of f)) (j - 1) [] ≡ get_or (laps_of f) (j - 1) []
  unfolding swap_both
  stays_at true x y j a b d =
      let c = w.first in
      get_or-set_other (set (laps_of f) (k - 1) x) (k + 1 - 1) (j - 1) y [] (λ e. yes (d (omega arith)))
      ∙ get_or-set_other (laps_of f) (k - 1) (j - 1) x [] (λ e. b (omega arith))
    where
      yes : true ≡ false → ⊥
      yes e = clash (sym e)
  stays_at false x y j a b d = let c = w.first in get_or-set_other (laps_of f) (k - 1) (j - 1) x [] (λ e. b (omega arith))

  stays : (j : ℕ) → 1 ≤ j → (j ≡ k → ⊥) → (j ≡ k + 1 → lacks (lap_at s j) ≡ false) → lap_at g j ≡ lap_at f j
  unfolding lap_at replaced_laps next_lacks
  stays j a b d =
      ap (λ (ls : List Lap). get_or ls (j - 1) []) fresh-laps
      ∙ stays_at (lacks (get_or (laps_of s) k [])) _ _ j a b (λ e. let z : k ≡ j - 1 = omega arith in ap (λ (i : ℕ). lacks (get_or (laps_of s) i [])) z ∙ d e)

  there_at : (both : Bool) (x y : Lap) → get_or (swap_both both k x y (laps_of f)) (k - 1) [] ≡ x
  unfolding swap_both
  there_at true x y =
      let c = w.first in
      get_or-set_other (set (laps_of f) (k - 1) x) (k + 1 - 1) (k - 1) y [] (λ e. omega arith) ∙ get_or-set_same (laps_of f) (k - 1) x [] inside-fitted
  there_at false x y = get_or-set_same (laps_of f) (k - 1) x [] inside-fitted

  there : lap_at g k ≡ fit_new (laps_rule tol) (start_of k (laps_of s)) ks ns
  unfolding lap_at replaced_laps
  there = ap (λ (ls : List Lap). get_or ls (k - 1) []) fresh-laps ∙ there_at (next_lacks k (laps_of s)) _ _

  behind_at : (x y : Lap) → k < length (laps_of f) → get_or (swap_both true k x y (laps_of f)) k [] ≡ y
  unfolding swap_both
  behind_at x y h =
      let z : k + 1 - 1 ≡ k = omega arith in
      let l = length-set (laps_of f) (k - 1) x in rw z (get_or-set_same (set (laps_of f) (k - 1) x) k y [] (omega arith))

  -- a lap that lacks its Move is in the file
  in_file : (ls : List Lap) (i : ℕ) → lacks (get_or ls i []) ≡ true → i < length ls
  in_file [] i e = clash (unfold lacks in e)
  in_file (l ∷ ls) zero e = omega arith
  in_file (l ∷ ls) (suc i) e = let h = in_file ls i e in omega arith

  behind : lacks (lap_at s (k + 1)) ≡ true → lap_at g (k + 1) ≡ fit_lap (laps_rule tol) (end_on (start_of k (laps_of s)) (lent_course ks ns)) (lap_at s (k + 1))
  unfolding lap_at replaced_laps next_lap next_lacks
  behind e =
      let z : k + 1 - 1 ≡ k = omega arith in
      let q : lacks (get_or (laps_of s) k []) ≡ true = rw z at e in
      let h = in_file (laps_of s) k q in
      let n = length_laps_of s in
      let m = length_laps_of f in
      let c = is-fitted.count in
      rw z (ap (λ (ls : List Lap). get_or ls k []) fresh-laps ∙ rw q (behind_at _ _ (omega arith)))

-- ---- the replacement
-- Whatever file the fit accepts at a tolerance, whichever of its laps is lap k, and whatever the new commands: if a fresh fit at that tolerance accepts the course with lap k
-- replaced by them, the replacement, given an output at least as long, gives exactly the fresh fit's bytes.
pub replaced-is-fresh : ReplacedIsFresh
replaced-is-fresh s f tol k ks ns r g w r' h = replaced s f tol k ks ns r g w r' h

-- The body of every lap other than k, and than k + 1 where that lacks its Move, stays as it was fitted.
pub others_stay : OthersStay
others_stay s f tol k ks ns r g w j a b d = stays s f tol k ks ns r g w j a b d

-- Lap k is the fit of the new commands; lap k + 1, where it lacks its Move, is fitted again from their end.
pub new_is-fitted : NewIsFitted
new_is-fitted s f tol k ks ns r g w = (there s f tol k ks ns r g w, behind s f tol k ks ns r g w)

-- Commands lent by their kinds and numbers have their bytes in the file.
pub lent_as_commands : LentAsCommands
lent_as_commands cs = lent-commands cs

-- The same of a list of commands, lent by their kinds and numbers: the fresh course has their bytes.
pub commands-replaced : CommandsReplaced
commands-replaced s f tol room e k a b cs held r g h r' l =
    replaced-is-fresh s f tol k (map kind_of cs) (flat numbers_of cs) r g
    (record {
      room = room;
      fit = e;
      first = a;
      last = b;
      whole = lent_length cs;
      held = held;
      fresh = unfold course_with in rw (lent-commands cs) h;
    })
    r' l
