-- What the listing of a file says of its fit: the theorems of `specs/Demand.antt`. Assumes nothing.
use Prim.Native.Nat.{ℕ, zero, suc, ◌+◌, ◌-◌, ◌*◌, ◌/◌, ◌%◌, ◌≤◌, ◌<◌}
use mathlib.Core.Path.{◌≡◌, refl, sym, ap, ◌∙◌}
use mathlib.Core.Logic.{⊎_elim}
use mathlib.Core.Bool.{Bool, true, false, not}
use mathlib.Core.List.{List, [], ◌∷◌, ◌++◌, map}
use native.Mathlib.Omega.{arith}
use lib.ListN.{length, get_or}
use lib.Ieee.{Float}
use Rattle.floats.specs.Ops.{◌≺◌, +0}
use Rattle.floats.proofs.Order.{lt_or_ge}
use Rattle.geo.specs.declared.types.Command.{Command}
use Rattle.geo.specs.Domain.{tolerance}
use Rattle.geo.specs.Outcome.{refusal, gives}
use Rattle.geo.specs.declared.types.Point3D.{Point3D}
use Rattle.geo.specs.Lent.{origin, kind_of}
use Rattle.geo.proofs.Rows.{refusal-front, unless-gives, unless-given}
use Rattle.geo.proofs.Tolerance.{tolerance-positive}
use Rattle.file.specs.Command.{decoded, enc}
use Rattle.pieces.specs.Pieces.{laps_rule}
use Rattle.course.specs.Course.{fit_on}
use Rattle.listing.specs.Rows.{chain_rows, part_rows, rows_of, rows_on, steps_in, sum_of}
use Rattle.listing.proofs.Columns.{steps_append}
use Rattle.listing.proofs.Laws.{course_kinds, course_steps, sum_append}
use Rattle.laps.specs.File.{Lap, lap_count, laps_of}
use Rattle.laps.specs.Rows.{file_size, file_rows}
use Rattle.laps.proofs.Rows.{FilePassed, file_passed, size_8, size_0}
use Rattle.laps.proofs.Walks.{not_big}
use Rattle.lap_fit.specs.Fit.{lap_end, start_of, laps_most, file_fit_rows}
use Rattle.lap_fit.proofs.Accepted.{accepted}
use Rattle.lap_fit.proofs.Rows.{fit_6, fit_sizes}
use Rattle.lap_replace.specs.Demand.{lap_at}
use Rattle.lap_replace.proofs.Demand.{laps_are_fitted}
use Rattle.lap_text.specs.Text.{digits_by, decimal}
use Rattle.lap_rows.specs.Listing.{lap_rows, laps_steps, list_text, most_text, text_rows, list_file}
use Rattle.lap_rows.specs.Demand.{spelled, DigitsSpell, NoZeroInFront, RefusedAlike, EachIsListed, kind_byte, KindsOfTheFit, RowsOfTheParts, RowsOfAChain, StepsOfTheChains, all_rows, SumOfTheRows}
use Rattle.lap_text.proofs.Decimal.{last_digit, next_digit}
use Rattle.lap_rows.proofs.Rows.{TextPassed, text_passed, text_6, text_8, text_0}
use Rattle.lap_rows.proofs.Counts.{laps-few, rows-steps}

-- ---- the text
spelled_append : (xs : List ℕ) (before d : ℕ) → spelled before (xs ++ (d ∷ [])) ≡ 10 * spelled before xs + (d - 48)
unfolding spelled
spelled_append [] before d = refl
spelled_append (x ∷ xs) before d = spelled_append xs (10 * before + (x - 48)) d

digits-spell_by : (more n : ℕ) → n < more → spelled 0 (digits_by more n) ≡ n
unfolding spelled
digits-spell_by zero n h = absurd (omega arith)
digits-spell_by (suc more) n h =
    ⊎_elim (λ k. ap (spelled 0) (last_digit more n k) ∙ omega arith)
    (λ k.
    let e = ap (spelled 0) (next_digit more n k) ∙ spelled_append (digits_by more (n / 10)) 0 (48 + n % 10) in
    let r = digits-spell_by more (n / 10) (omega arith) in e ∙ omega (arith, r)) (lt_or_ge n 10)

-- The digits of a number spell it.
pub digits-spell : DigitsSpell
unfolding decimal
digits-spell n = digits-spell_by (suc n) n (omega arith)

first_append : (xs : List ℕ) (d : ℕ) → 1 ≤ length xs → get_or (xs ++ (d ∷ [])) 0 0 ≡ get_or xs 0 0
first_append [] d h = absurd (omega arith)
first_append (x ∷ xs) d h = refl

-- the first of one or more digits is 1 or more
record First (ds : List ℕ) : Type 0 where
  some : 1 ≤ length ds
  above : 49 ≤ get_or ds 0 0

first_digit : (more n : ℕ) → n < more → 1 ≤ n → First (digits_by more n)
first_digit zero n h k = absurd (omega arith)
first_digit (suc more) n h k =
    ⊎_elim (λ b. rw (last_digit more n b) (record { some = omega arith; above = omega arith }))
    (λ b.
    let w = first_digit more (n / 10) (omega arith) (omega arith) in
    let f = first_append (digits_by more (n / 10)) (48 + n % 10) w.some in
    let a = w.above in
    rw (next_digit more n b) (record { some = length_some (digits_by more (n / 10)) _; above = omega arith })) (lt_or_ge n 10)
  where
    length_some : (xs : List ℕ) (d : ℕ) → 1 ≤ length (xs ++ (d ∷ []))
    length_some [] d = omega arith
    length_some (x ∷ xs) d = omega arith

-- No digit 0 stands in front.
pub no_zero_in_front : NoZeroInFront
unfolding decimal
no_zero_in_front n h e = let w = (first_digit (suc n) n (omega arith) h).above in omega arith

-- ---- refusals
module _ (s : List ℕ) (tol : Float) (room room' : ℕ) (h : most_text 800 ≤ room) (k : file_size 64 800 ≤ room') where
  alike_passed : FilePassed s → refusal (text_rows s tol room) ≡ refusal (file_fit_rows s tol room')
  alike_passed p = either (tolerance tol) refl
    where
      sized : not (tolerance tol) ≡ false → refusal (text_rows s tol room) ≡ refusal (file_fit_rows s tol room')
      sized t =
          let l = (not_big s p.small).1 in
          ⊎_elim
          (λ few. text_0 s tol room p t (omega arith) (omega arith) ∙ sym (fit_sizes s tol room' p t ∙ size_0 (lap_count s) (laps_most tol origin (laps_of s)) room' (omega arith) (omega arith)))
          (λ many. text_8 s tol room p t (omega arith) ∙ sym (fit_sizes s tol room' p t ∙ size_8 (lap_count s) (laps_most tol origin (laps_of s)) room' (omega arith)))
          (lt_or_ge (laps_most tol origin (laps_of s)) 801)

      either : (t : Bool) → tolerance tol ≡ t → refusal (text_rows s tol room) ≡ refusal (file_fit_rows s tol room')
      either true e = sized (ap not e)
      either false e = text_6 s tol room p (ap not e) ∙ sym (fit_6 s tol room' p (ap not e))

  alike : (n : ℕ) → refusal (file_rows s) ≡ n → refusal (text_rows s tol room) ≡ refusal (file_fit_rows s tol room')
  unfolding text_rows file_fit_rows
  alike zero e = alike_passed (file_passed s 0 (sym e) refl)
  alike (suc n) e = sym (refusal-front (file_rows s) _ (omega arith)) ∙ refusal-front (file_rows s) _ (omega arith)

-- With room for 800 rows and 64 laps, the listing is refused exactly where the fit is, by the same row.
pub refused_alike : RefusedAlike
refused_alike s tol room room' h k = alike s tol room room' h k (refusal (file_rows s)) refl

-- Each file that the fit accepts is listed.
pub each-is-listed : EachIsListed
unfolding list_file
each-is-listed s f tol room room' e h =
    let q = (accepted (laps_rule tol) s room' f e).passed in
    let m = q.few in
    unless-gives (refusal (text_rows s tol room)) _ (text_0 s tol room q.file (ap not q.within) m (omega arith))

-- ---- kinds
kind-bytes : (cs : List Command) → map kind_byte (map enc cs) ≡ map kind_of cs
unfolding enc
kind-bytes [] = refl
kind-bytes (c ∷ cs) = ap (λ (l : List ℕ). kind_of c ∷ l) (kind-bytes cs)

-- The rows of lap k have, one for one and in order, the kinds of the commands in the fitted lap.
pub kinds_of_the_fit : KindsOfTheFit
unfolding lap_rows
kinds_of_the_fit s f tol room e k a b =
    let cs = map decoded (lap_at s k) in
    let l = (laps_are_fitted tol s f room e).1 k a b in
    course_kinds (laps_rule tol) (start_of k (laps_of s)) cs ∙ sym (ap (map kind_byte) l ∙ kind-bytes (fit_on (laps_rule tol) (start_of k (laps_of s)) cs))

-- ---- steps
-- They are those of the lap's parts in order,
pub rows_of_the_parts : RowsOfTheParts
unfolding lap_rows rows_on rows_of
rows_of_the_parts s tol k = refl

-- of a chain one for each piece of its fit, with the piece's steps.
pub rows_of_a_chain : RowsOfAChain
unfolding part_rows chain_rows
rows_of_a_chain tol points = refl

-- The steps that they give are, together, those of the lap's chains.
pub steps_of_the_chains : StepsOfTheChains
unfolding lap_rows
steps_of_the_chains s f tol room e k a b = course_steps (laps_rule tol) (tolerance-positive tol (accepted (laps_rule tol) s room f e).passed.within) (start_of k (laps_of s)) (map decoded (lap_at s k))

-- ---- the sum under the listing
-- a file that is listed passes the rows, and the text is its listing
pub listed-passes : (s text : List ℕ) (tol : Float) (room : ℕ) → list_file s tol room ≡ gives text → TextPassed s tol room × (list_text tol (laps_of s) ≡ text)
unfolding list_file
listed-passes s text tol room e =
    let g = unless-given (refusal (text_rows s tol room)) (list_text tol (laps_of s)) text e in (text_passed s tol room g.0, g.1)

laps_sum : (tol : Float) → (+0 ≺ tol) ≡ true → (p : Point3D) (ls : List Lap) → laps_steps tol p ls ≡ sum_of (steps_in (all_rows tol p ls))
unfolding laps_steps all_rows
laps_sum tol pos p [] = unfold sum_of steps_in in refl
laps_sum tol pos p (l ∷ ls) =
    let a = rows-steps tol pos p l in
    let b = laps_sum tol pos (lap_end p l) ls in
    let e = ap sum_of (steps_append (lap_rows tol p l) (all_rows tol (lap_end p l) ls)) in
    let d = sum_append (steps_in (lap_rows tol p l)) (steps_in (all_rows tol (lap_end p l) ls)) in omega arith

-- The sum, which is worked out over the thinned chains, is that of the steps in all rows, and is at most 800.
pub sum_of_the_rows : SumOfTheRows
sum_of_the_rows s text tol room e =
    let p = (listed-passes s text tol room e).0 in
    let f = laps-few tol origin (laps_of s) in
    let m = p.few in (laps_sum tol (tolerance-positive tol p.within) origin (laps_of s), omega arith)
