-- Asking and then committing is replacing: the statements of specs/Demand.antt. Assumes nothing.
use Prim.Native.Nat.{ℕ, zero, suc, ◌+◌, ◌-◌, ◌*◌, ◌/◌, ◌%◌, ◌≤◌, ◌<◌}
use mathlib.Core.Path.{◌≡◌, refl, sym, ap, ◌∙◌, subst}
use mathlib.Core.Bool.{Bool, true, false, not, ◌&&◌, ◌||◌}
use mathlib.Core.List.{List, [], ◌∷◌, ◌++◌, append-nil, map}
use native.Mathlib.Omega.{arith}
use borrow.Author.Tests.{eq-eqb, ne_eqb, eqb-false, le-leb, not-false}
use lib.ListN.{length, get_or, length-append}
use lib.Seq.{drop-nil}
use lib.Dec.{eqb, leb}
use lib.Ieee.{Float}
use Rattle.floats.specs.Ops.{◌≺◌, +0}
use Rattle.floats.proofs.Order.{clash, and_left, and_right, or_false}
use Rattle.geo.specs.declared.types.Point3D.{Point3D}
use Rattle.geo.specs.Lent.{origin}
use Rattle.geo.specs.Domain.{whole, commands_in}
use Rattle.geo.specs.Outcome.{Outcome, refusal, gives}
use Rattle.geo.proofs.Rows.{unless-given, unless-gives}
use Rattle.geo.proofs.Tolerance.{tolerance-positive}
use Rattle.file.specs.Command.{decoded, lent_lap, Held, HeldPoint}
use Rattle.pieces.specs.declared.pieces.Rule.{Rule}
use Rattle.pieces.specs.Pieces.{laps_rule}
use Rattle.course.specs.Course.{end_on, lent_course}
use Rattle.course.specs.Finite.{CommandsIn}
use Rattle.course.proofs.FiniteCenters.{Placed}
use Rattle.course.proofs.FiniteCourse.{origin-placed}
use Rattle.course.proofs.FinitePoints.{point_in}
use Rattle.laps.specs.File.{Lap, lap_count, laps_of, body, encode, short, big, lacks, form_ok, domain_ok, fitted_ok, finite_ok, lap_ok, lap_tested, laps_ok, EachFull}
use Rattle.laps.specs.Rows.{file_size}
use Rattle.laps.proofs.Here.{cond_false}
use Rattle.laps.proofs.Rows.{size_0}
use Rattle.laps.proofs.Turns.{length_laps_of}
use Rattle.laps.proofs.Whole.{length_body}
use Rattle.lap_fit.specs.Fit.{lap_end, start_of, fit_lap, most_lap}
use Rattle.lap_fit.proofs.Lap.{fit-some}
use Rattle.lap_fit.proofs.Starts.{fit_no_lap}
use Rattle.lap_swap.specs.Swap.{next_lacks, next_lap, most_both, new_fit, next_fit, replaced_laps, stored_laps, PutBoth}
use Rattle.lap_checks.specs.Checks.{lent_formed, move_placed, lent_new, row1, row2, row4, row5, most_with, replace_rows}
use Rattle.lap_replace.specs.Replace.{replace_lap}
use Rattle.lap_swap.proofs.Body.{first_in, next_in, both-few, whole_new_fit, whole-next-fit, as_replaced}
use Rattle.lap_replace.proofs.Finite.{near, at_in, lap-placed}
use Rattle.lap_replace.proofs.New.{length_lent, lent-most, lent-fit, lent-end}
use Rattle.lap_checks.proofs.Rows.{NewPassed, past_7, new_sizes, replace_passed}
use Rattle.lap_session.specs.declared.session.Session.{Session}
use Rattle.lap_session.specs.declared.session.Ticket.{Ticket}
use Rattle.lap_session.specs.Session.{edited, most_edits, ask_rows, Answered, ticket_for, answer_for, ask_lap, first_part, next_part, part_formed, part_finite, part_new, counts_agree, commit_rows, Stored, stored_by, commit_lap, bytes_stored}
use Rattle.lap_session.proofs.Part.{inside, counts-both, counts-one}
use Rattle.lap_session.proofs.Rows.{behind-session}
use Rattle.session_laws.specs.Demand.{FittedFormed, FittedFinite, AskThenCommit, SameOutcome}
use Rattle.session_laws.proofs.Held.{held-origin, end_of_lap-held, start-held}
use Rattle.session_laws.proofs.Shape.{fit-formed, without_move}
use Rattle.session_laws.proofs.Finite.{fit-read}
use Rattle.session_laws.proofs.Lent.{lent-tested, lent_domain}

-- ---- the fit of a lap
-- The fit of a lap that passes row 4 passes it, as a fitted lap too.
pub fitted-formed : FittedFormed
fitted-formed r pos p must l h e = fit-formed r pos p must l h e

-- The fit of a lap that passes row 5 has finite numbers alone.
pub fitted-finite : FittedFinite
unfolding lap_tested
fitted-finite r p must l h i e m = fit-read r p _ l h (point_in p i) (near must l e) m

-- ---- a lap behind the first passes as one that may lack its Move
later_ok : (test : Bool → List ℕ → Bool) (ls : List Lap) (i : ℕ) → laps_ok test false ls ≡ true → i < length ls → lap_tested test false (get_or ls i []) ≡ true
unfolding laps_ok
later_ok test [] i e h = absurd (omega arith)
later_ok test (l ∷ ls) zero e h = (cond_false (lap_tested test false l) _ e).0
later_ok test (l ∷ ls) (suc i) e h = later_ok test ls i (cond_false (lap_tested test false l) _ e).1 (omega arith)

behind_ok : (test : Bool → List ℕ → Bool) (ls : List Lap) (k : ℕ) → laps_ok test true ls ≡ true → 1 ≤ k → k < length ls → lap_tested test false (get_or ls k []) ≡ true
unfolding laps_ok
behind_ok test [] k e h g = absurd (omega arith)
behind_ok test (l ∷ ls) zero e h g = absurd (omega arith)
behind_ok test (l ∷ ls) (suc i) e h g = later_ok test ls i (cond_false (lap_tested test true l) _ e).1 (omega arith)

-- a lap that lacks its Move is in the list, and has a command
lacks-some : (l : Lap) → lacks l ≡ true → 0 < length l
unfolding lacks
lacks-some [] e = clash e
lacks-some (c ∷ l) e = omega arith

lacks_in : (ls : List Lap) (k : ℕ) → lacks (get_or ls k []) ≡ true → k < length ls
lacks_in [] k e = let h = lacks-some [] e in absurd (omega arith)
lacks_in (l ∷ ls) zero e = omega arith
lacks_in (l ∷ ls) (suc k) e = let h = lacks_in ls k e in omega arith

-- and none of its commands is one
without : (test : Bool → List ℕ → Bool) (l : Lap) → lacks l ≡ true → lap_tested test false l ≡ true → lap_ok test false l ≡ true
unfolding lap_tested
without test l e h = subst (λ (t : Bool). lap_ok test (not t) l ≡ true) e h

-- ---- two laps, one behind the other, as a part
module _ (x y : Lap) (wx : EachFull x) (wy : EachFull y) where
  part_length : length (body x ++ body y) ≡ 73 * (length x + length y)
  part_length = let p = length_body x wx in let q = length_body y wy in let l = length-append (body x) (body y) in omega (arith, p, q, l)

  part_put : PutBoth x y [] (body x ++ body y) (length x) (length y)
  part_put = record { count = refl; behind = refl; bytes = sym (ap (λ (w : List ℕ). (body x ++ body y) ++ w) (drop-nil (length (body x ++ body y))) ∙ append-nil (body x ++ body y)) }

-- a file that is stored
abbrev stored_as : Session → List ℕ → Outcome Stored
stored_as e bs = gives (record { bytes = bs; session = edited e })

-- ---- an accepted replacement, whose asking was accepted too
module _ (s f : List ℕ) (k : ℕ) (ks : List ℕ) (ns : List Float) (tol : Float) (held : Held ns) (p : NewPassed s f k (lent_new tol (laps_of s) k ks ns) tol)
    (few : most_with (lent_new tol (laps_of s) k ks ns) k s f ≤ 800) where
  abbrev ls : List Lap
  ls = laps_of s

  abbrev rule : Rule
  rule = laps_rule tol

  abbrev lap : Lap
  lap = lent_lap ks ns

  abbrev start : Point3D
  start = start_of k (laps_of s)

  abbrev fit : Lap
  fit = new_fit (laps_rule tol) (laps_of s) k ks ns

  abbrev next : Lap
  next = next_fit (laps_rule tol) (laps_of s) k ks ns

  pos : (+0 ≺ tol) ≡ true
  pos = tolerance-positive tol p.p6

  first : 1 ≤ k
  first = (past_7 k s p.p7).0

  last : k ≤ length ls
  last = let a = (past_7 k s p.p7).1 in let n = length_laps_of s in omega (arith, a, n)

  -- ---- what the rows tell of the recorded laps and the new commands
  formed-laps : laps_ok form_ok true ls ≡ true
  unfolding row4
  formed-laps = not-false _ (or_false (not (laps_ok form_ok true ls)) _ p.p4).0

  near-laps : laps_ok domain_ok true ls ≡ true
  unfolding row5
  near-laps = not-false _ (or_false (not (laps_ok domain_ok true ls)) _ p.p5).0

  formed_new : lent_formed (leb k 1) ks ns ≡ true
  unfolding row4
  formed_new = not-false _ (or_false (not (laps_ok form_ok true ls)) _ p.p4).1

  near_new : commands_in ks ns ≡ true
  unfolding row5
  near_new = not-false _ (or_false (not (laps_ok domain_ok true ls)) _ p.p5).1

  some_new : 0 < length ks
  unfolding lent_formed
  some_new =
      let a = and_left (not (eqb (length ks) 0)) _ (and_left (not (eqb (length ks) 0) && move_placed (leb k 1) ks) _ formed_new) in
      let b = eqb-false (length ks) 0 (flip (eqb (length ks) 0) a) in omega (arith, b)
    where
      flip : (b : Bool) → not b ≡ true → b ≡ false
      flip true z = sym z
      flip false z = refl

  some-lap : 0 < length lap
  some-lap = let a = length_lent ks ns in let b = some_new in omega (arith, a, b)

  lap-formed : lap_tested form_ok (leb k 1) lap ≡ true
  unfolding lent_formed
  lap-formed =
      lent-tested ks ns held (leb k 1) some_new (and_right (not (eqb (length ks) 0)) _ (and_left (not (eqb (length ks) 0) && move_placed (leb k 1) ks) _ formed_new))
      (and_right (not (eqb (length ks) 0) && move_placed (leb k 1) ks) _ formed_new)

  lap-near : CommandsIn (map decoded lap)
  lap-near = near (leb k 1) lap (lent_domain ks ns held (leb k 1) near_new)

  start-is-held : HeldPoint start
  unfolding start_of
  start-is-held = start-held origin ls (k - 1) held-origin

  start-placed : Placed 20 start
  unfolding start_of
  start-placed = let a = first in let b = last in (at_in true origin ls (k - 1) near-laps (origin-placed 20) (omega (arith, a, b))).0

  -- ---- their mosts
  both_mosts : (most_lap tol start lap ≤ 800) × (most_lap tol (lap_end start lap) (next_lap k ls) ≤ 800)
  unfolding most_with most_both
  both_mosts =
      let a = lent-most ks ns held tol start in
      let b : most_lap tol (lap_end start lap) (next_lap k ls) ≡ most_lap tol (end_on start (lent_course ks ns)) (next_lap k ls) = ap (λ (q : Point3D). most_lap tol q (next_lap k ls)) (lent-end ks ns held start) in
      (omega (arith, a, few), omega (arith, b, few))

  -- ---- the new lap's fit
  is-fit : fit_lap rule start lap ≡ fit
  is-fit = lent-fit ks ns held rule start

  fit_has : 0 < length fit
  fit_has = subst (λ (l : Lap). 0 < length l) is-fit (fit-some rule pos start lap some-lap)

  fit-is-formed : lap_tested fitted_ok (leb k 1) fit ≡ true
  fit-is-formed = subst (λ (l : Lap). lap_tested fitted_ok (leb k 1) l ≡ true) is-fit (fit-formed rule pos start (leb k 1) lap some-lap lap-formed).1

  fit-is-finite : lap_tested finite_ok (leb k 1) fit ≡ true
  unfolding lap_tested
  fit-is-finite = subst (λ (l : Lap). lap_tested finite_ok (leb k 1) l ≡ true) is-fit (fit-read rule start _ lap start-is-held start-placed lap-near both_mosts.0)

  -- ---- the next lap's
  is-next : fit_lap rule (lap_end start lap) (next_lap k ls) ≡ next
  is-next = ap (λ (q : Point3D). fit_lap rule q (next_lap k ls)) (lent-end ks ns held start)

  next-near : (t : Bool) → next_lacks k ls ≡ t → CommandsIn (map decoded (next_lap k ls))
  unfolding next_lap next_lacks
  next-near true e = rw e (near false (get_or ls k []) (behind_ok domain_ok ls k near-laps first (lacks_in ls k e)))
  next-near false e = rw e tt

  next-finite : lap_ok finite_ok false next ≡ true
  next-finite =
      subst (λ (l : Lap). lap_ok finite_ok false l ≡ true) is-next
      (fit-read rule (lap_end start lap) false (next_lap k ls) (end_of_lap-held start lap start-is-held) (lap-placed start lap start-placed lap-near) (next-near (next_lacks k ls) refl) both_mosts.1)

  -- where it is fitted again, and where it is not
  next-again : next_lacks k ls ≡ true → (0 < length next) × (lap_ok fitted_ok false next ≡ true)
  unfolding next_lap next_lacks
  next-again e =
      let l = get_or ls k [] in
      let b = without form_ok l e (behind_ok form_ok ls k formed-laps first (lacks_in ls k e)) in
      let q = end_on start (lent_course ks ns) in
      rw e (fit-some rule pos q l (lacks-some l e), (without_move rule pos q l (lacks-some l e) b).1)

  next-none : next_lacks k ls ≡ false → next ≡ []
  unfolding next_lap next_lacks
  next-none e = rw e (fit_no_lap rule (end_on start (lent_course ks ns)))

  next-formed : (t : Bool) → next_lacks k ls ≡ t → lap_ok fitted_ok false next ≡ true
  next-formed true e = (next-again e).1
  next-formed false e = rw (next-none e) (unfold lap_ok in refl)

  -- ---- the part
  abbrev part : List ℕ
  part = body (new_fit (laps_rule tol) (laps_of s) k ks ns) ++ body (next_fit (laps_rule tol) (laps_of s) k ks ns)

  long : length part ≡ 73 * (length fit + length next)
  long = part_length fit next (whole_new_fit rule ls k ks ns) (whole-next-fit rule ls k ks ns)

  all : length part / 73 ≡ length fit + length next
  all = let l = long in omega (arith, l)

  own : length part / 73 ≤ most_both tol ls k (lent_course ks ns)
  own = let a = all in let b = both-few rule ls k ks ns pos in omega (arith, a, b)

  few_part : length part / 73 ≤ 800
  unfolding most_with
  few_part = let a = own in omega (arith, a, few)

  put : PutBoth fit next [] part (length fit) (length next)
  put = part_put fit next (whole_new_fit rule ls k ks ns) (whole-next-fit rule ls k ks ns)

  counts : (t : Bool) → next_lacks k ls ≡ t → counts_agree k ls (length part / 73) (length fit) (length next) ≡ true
  counts true e =
      let a = first in
      let h = fit_has in
      let g = (next-again e).0 in
      sym (counts-both k ls (length part / 73) (length fit) (length next) (sym all) (λ z. omega (arith, z, h)) (next_lacks k ls) (inside k ls (λ z. omega (arith, z, a))) e)
      ∙ ap not (ne_eqb (length next) 0 (λ z. omega (arith, z, g)))
  counts false e =
      let a = first in
      let h = fit_has in
      sym (counts-one k ls (length part / 73) (length fit) (length next) (sym all) (λ z. omega (arith, z, h)) (next_lacks k ls) (inside k ls (λ z. omega (arith, z, a))) e)
      ∙ eq-eqb (length next) 0 (ap length (next-none e))

  -- ---- the commit's rows
  module _ (e e' : Session) (room : ℕ) (space : file_size (lap_count f) (most_with (lent_new tol (laps_of s) k ks ns) k s f) ≤ room) (i : e.edits ≡ e'.edits) (j : e'.edits < most_edits) where
    abbrev t : Ticket
    t = ticket_for e k tol (new_fit (laps_rule tol) (laps_of s) k ks ns) (next_fit (laps_rule tol) (laps_of s) k ks ns)

    first_part_lem : first_part t part ≡ fit
    first_part_lem = first_in fit next (whole_new_fit rule ls k ks ns) (whole-next-fit rule ls k ks ns) [] part (length fit) (length next) put

    next_part_lem : next_part t part ≡ next
    next_part_lem = next_in fit next (whole_new_fit rule ls k ks ns) (whole-next-fit rule ls k ks ns) [] part (length fit) (length next) put

    part_formed_lem : part_formed t part ≡ true
    unfolding part_formed
    part_formed_lem = rw (first_part_lem, next_part_lem, fit-is-formed, next-formed (next_lacks k ls) refl)

    part_finite_lem : part_finite t part ≡ true
    unfolding part_finite
    part_finite_lem = rw (first_part_lem, next_part_lem, fit-is-finite, next-finite)

    passes_1 : row1 s f (whole 73 (length part)) ≡ false
    unfolding row1 whole
    passes_1 =
        let a = (or_false (short s || short f) _ p.p1).0 in
        let l = long in
        let w : eqb (length part % 73) 0 ≡ true = eq-eqb (length part % 73) 0 (omega (arith, l)) in rw (a, w)

    passes_2 : row2 s f (leb (length part / 73) 800) ≡ false
    unfolding row2
    passes_2 = let a = (or_false (big s || big f) _ p.p2).0 in rw (a, le-leb (length part / 73) 800 few_part)

    passes_4 : row4 s (part_formed t part) ≡ false
    unfolding row4
    passes_4 = rw (formed-laps, part_formed_lem)

    passes_5 : row5 s (part_finite t part) ≡ false
    unfolding row5
    passes_5 = rw (near-laps, part_finite_lem)

    passed : NewPassed s f k (part_new t ls part) tol
    passed = record { p1 = passes_1; p2 = passes_2; p3 = p.p3; counted = counts (next_lacks k ls) refl; p4 = passes_4; p5 = passes_5; p6 = p.p6; p7 = p.p7 }

    less : most_with (part_new t ls part) k s f ≤ most_with (lent_new tol ls k ks ns) k s f
    unfolding most_with
    less = let a = own in omega (arith, a)

    not_refused : refusal (commit_rows t e' s f part room) ≡ 0
    not_refused =
        let a = less in
        behind-session t e' s f part room i j ∙ new_sizes s f k (part_new t ls part) tol room passed
        ∙ size_0 (lap_count f) (most_with (part_new t ls part) k s f) room (omega (arith, a, few)) (omega (arith, a, space))

    -- The commit writes what the replacement writes.
    commits : (g : List ℕ) → encode (replaced_laps rule k ks ns ls (laps_of f)) ≡ g → commit_lap t e' s f part room ≡ gives (record { bytes = g; session = edited e' })
    unfolding commit_lap
    commits g q =
        let b : encode (stored_laps k ls part (length fit) (length next) (laps_of f)) ≡ g = ap encode (as_replaced rule s f k ks ns [] part (length fit) (length next) put) ∙ q in
        unless-gives (refusal (commit_rows t e' s f part room)) (stored_by t e' s f part) not_refused
        ∙ ap (stored_as e') b

-- ---- asking and then committing is replacing
-- Where asking and replacement accept, and neither 12 nor 13 is due, the commit writes the replacement's file and raises the edit number by 1.
pub ask_then_commit : AskThenCommit
unfolding ask_lap replace_lap
ask_then_commit s f k ks ns tol held e room a h r g q e' i j =
    let x = new_fit (laps_rule tol) (laps_of s) k ks ns in
    let y = next_fit (laps_rule tol) (laps_of s) k ks ns in
    let w = unless-given (refusal (ask_rows s f k (lent_new tol (laps_of s) k ks ns) tol room)) (answer_for e k tol x y) a h in
    let v = unless-given (refusal (replace_rows s f k (lent_new tol (laps_of s) k ks ns) tol r)) (encode (replaced_laps (laps_rule tol) k ks ns (laps_of s) (laps_of f))) g q in
    let p = replace_passed s f k (lent_new tol (laps_of s) k ks ns) tol r v.0 in
    let c : a.ticket.edit ≡ e.edits = ap (λ (z : Answered). z.ticket.edit) (sym w.1) in
    subst (λ (z : Answered). commit_lap z.ticket e' s f z.bytes r ≡ gives (record { bytes = g; session = edited e' })) w.1
    (commits s f k ks ns tol held p.0 p.1 e e' r p.2 (sym c ∙ i) j g v.1)

-- So it comes to what the replacement comes to: the same answer, the same output.
pub same_outcome : SameOutcome
same_outcome s f k ks ns tol held e room a h r g q e' i j =
    ap bytes_stored (ask_then_commit s f k ks ns tol held e room a h r g q e' i j) ∙ (unfold bytes_stored in sym q)
