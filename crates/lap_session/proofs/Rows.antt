-- The rows of an asking and of a commit: what each test of the code tells of a row, what a call has that passes them, and what it answers. Assumes nothing.
use Prim.Native.Nat.{ℕ, ◌+◌, ◌*◌, ◌/◌, ◌≤◌, ◌<◌}
use mathlib.Core.Path.{◌≡◌, refl, sym, ap, ◌∙◌}
use mathlib.Core.Bool.{not, ◌||◌}
use mathlib.Core.List.{List, [], ◌++◌}
use native.Mathlib.Omega.{arith}
use borrow.Author.Tests.{eq-eqb, ne_eqb, eqb-true, not-false, lt-ltb, le-ltb, ltb-false, le-leb, lt-leb, leb-true, leb-false}
use lib.ListN.{length, drop}
use lib.Dec.{ltb, leb, eqb}
use lib.Ieee.{Float}
use Rattle.floats.proofs.Order.{or_false}
use Rattle.std.specs.Prelude.{Result, Ok, Err}
use Rattle.geo.specs.declared.refusal.Refusal.{Refusal}
use Rattle.geo.specs.Outcome.{refusal, unless, left}
use Rattle.geo.specs.Refusal.{number}
use Rattle.geo.specs.Wrote.{answer}
use Rattle.geo.proofs.Rows.{row_fails, row-passes, row_passed, done, unless-gives}
use Rattle.geo.proofs.Wrote.{refused-is}
use Rattle.chain.specs.Chains.{cap}
use Rattle.chain.proofs.Count.{cap-few}
use Rattle.laps.specs.File.{Lap, lap_count, laps_of, big, command_count}
use Rattle.laps.specs.Rows.{file_size, size_rows}
use Rattle.laps.proofs.Rows.{refused-front}
use Rattle.lap_fit.proofs.Cap.{told_more, told_below}
use Rattle.lap_swap.specs.Swap.{swap_both, next_lacks, PutBoth}
use Rattle.lap_checks.specs.Checks.{NewLap, row2, new_rows, most_with, replace_rows}
use Rattle.lap_checks.proofs.Rows.{NewPassed, new_passed_with, behind_new, new_refused, new_sizes, sizes_with, replace_passed}
use Rattle.lap_session.specs.declared.session.Session.{Session}
use Rattle.lap_session.specs.declared.session.Ticket.{Ticket}
use Rattle.lap_session.specs.Session.{edited, most_edits, ask_rows, Answered, answer_for, asked_as, bytes_asked, Answers, part_new, commit_rows, Stored, bytes_stored, session_after, Commits}

-- ---- an asking
module _ (s f : List ℕ) (k : ℕ) (new : NewLap) (tol : Float) (room : ℕ) where
  pub ask_refused : (cause : Refusal) → number cause ≡ refusal (new_rows s f k new tol) → number cause ≡ refusal (ask_rows s f k new tol room)
  unfolding ask_rows
  ask_refused cause e = refused-front (new_rows s f k new tol) _ cause e

  -- the new lap's most, which is told, and with it the other laps' commands
  module _ (p : NewPassed s f k new tol) (r t : ℕ) (e : r ≡ cap new.most) (g : t ≡ r + command_count (swap_both (next_lacks k (laps_of s)) k [] [] (laps_of f))) where
    pub ask_8 : 800 < t → 8 ≡ refusal (ask_rows s f k new tol room)
    unfolding ask_rows most_with
    ask_8 h =
        let a = told_more r new.most e in
        sym (behind_new s f k new tol _ p ∙ row_fails 8 _ _ (lt-ltb 800 (new.most + command_count (swap_both (next_lacks k (laps_of s)) k [] [] (laps_of f))) (omega (arith, a, g, h))))

    pub ask_9 : t ≤ 800 → room < 73 * r → 9 ≡ refusal (ask_rows s f k new tol room)
    unfolding ask_rows most_with
    ask_9 h l =
        let a = told_below r new.most e (omega (arith, g, h)) in
        sym (behind_new s f k new tol _ p ∙ row-passes 8 _ _ (le-ltb 800 (new.most + command_count (swap_both (next_lacks k (laps_of s)) k [] [] (laps_of f))) (omega (arith, a, g, h)))
        ∙ row_fails 9 _ _ (lt-ltb room (73 * new.most) (omega (arith, a, l))))

    pub ask_0 : t ≤ 800 → 73 * r ≤ room → 0 ≡ refusal (ask_rows s f k new tol room)
    unfolding ask_rows most_with
    ask_0 h l =
        let a = told_below r new.most e (omega (arith, g, h)) in
        sym (behind_new s f k new tol _ p ∙ row-passes 8 _ _ (le-ltb 800 (new.most + command_count (swap_both (next_lacks k (laps_of s)) k [] [] (laps_of f))) (omega (arith, a, g, h)))
        ∙ row-passes 9 _ _ (le-ltb room (73 * new.most) (omega (arith, a, l))) ∙ done)

  pub ask_passed : 0 ≡ refusal (ask_rows s f k new tol room) → NewPassed s f k new tol × (most_with new k s f ≤ 800) × (73 * new.most ≤ room)
  unfolding ask_rows
  ask_passed e =
      let a = new_passed_with s f k new tol _ e in
      let b = row_passed 7 (ltb 800 (most_with new k s f)) _ a.1 in
      let c = row_passed 8 (ltb room (73 * new.most)) _ b.1 in
      (a.0, ltb-false 800 (most_with new k s f) b.0, ltb-false room (73 * new.most) c.0)

-- what it answers, n being the number that its table gives
pub not_asked : (n : ℕ) (cause : Refusal) (a : Answered) (buffer : List ℕ) (r : Result Ticket Refusal) → number cause ≡ n → r ≡ Err cause → Answers (unless n a) buffer buffer r
unfolding asked_as bytes_asked left
not_asked n cause a buffer r e h = rw (h, sym (refused-is n cause e a)) (record { says = refl; leaves = refl })

pub is_asked : (n : ℕ) (e : Session) (k : ℕ) (tol : Float) (new next : Lap) (buffer buffer' : List ℕ) (i j : ℕ) → 0 ≡ n → PutBoth new next buffer buffer' i j
    → Answers (unless n (answer_for e k tol new next)) buffer buffer' (Ok (record { lap = k; tolerance = tol; edit = e.edits; count = i; next = j }))
unfolding asked_as bytes_asked left
is_asked n e k tol new next buffer buffer' i j z put =
    rw (unless-gives n (answer_for e k tol new next) (sym z), put.count, put.behind) (record { says = refl; leaves = put.bytes })

-- ---- a commit
module _ (t : Ticket) (e : Session) (s f part : List ℕ) (room : ℕ) where
  pub commit_12 : (t.edit ≡ e.edits → ⊥) → 12 ≡ refusal (commit_rows t e s f part room)
  unfolding commit_rows
  commit_12 h = sym (row_fails 12 _ _ (ap not (ne_eqb t.edit e.edits h)))

  pub commit_13 : t.edit ≡ e.edits → most_edits ≤ e.edits → 13 ≡ refusal (commit_rows t e s f part room)
  unfolding commit_rows
  commit_13 h g = sym (row-passes 12 _ _ (ap not (eq-eqb t.edit e.edits h)) ∙ row_fails 13 _ _ (le-leb most_edits e.edits g))

  module _ (h : t.edit ≡ e.edits) (g : e.edits < most_edits) where
    pub behind-session : refusal (commit_rows t e s f part room) ≡ refusal (replace_rows s f t.lap (part_new t (laps_of s) part) t.tolerance room)
    unfolding commit_rows
    behind-session = row-passes 12 _ _ (ap not (eq-eqb t.edit e.edits h)) ∙ row-passes 13 _ _ (lt-leb most_edits e.edits g)

    pub part_refused : (cause : Refusal) → number cause ≡ refusal (new_rows s f t.lap (part_new t (laps_of s) part) t.tolerance) → number cause ≡ refusal (commit_rows t e s f part room)
    part_refused cause q = new_refused s f t.lap (part_new t (laps_of s) part) t.tolerance room cause q ∙ sym behind-session

    pub part_sizes : NewPassed s f t.lap (part_new t (laps_of s) part) t.tolerance → (l m : ℕ) → l ≡ lap_count f → length part / 73 ≤ 800
        → m ≡ length part / 73 + command_count (swap_both (next_lacks t.lap (laps_of s)) t.lap [] [] (laps_of f)) → refusal (size_rows l m room) ≡ refusal (commit_rows t e s f part room)
    part_sizes p l m a b c =
        sizes_with (part_new t (laps_of s) part) t.lap s f l (length part / 73) m room a (sym (cap-few (length part / 73) b)) c
        ∙ sym (new_sizes s f t.lap (part_new t (laps_of s) part) t.tolerance room p) ∙ sym behind-session

  pub record CommitPassed : Type 0 where
    pub current : t.edit ≡ e.edits
    pub below : e.edits < most_edits
    pub rows : NewPassed s f t.lap (part_new t (laps_of s) part) t.tolerance
    pub few : most_with (part_new t (laps_of s) part) t.lap s f ≤ 800
    pub space : file_size (lap_count f) (most_with (part_new t (laps_of s) part) t.lap s f) ≤ room

  pub commit_passed : 0 ≡ refusal (commit_rows t e s f part room) → CommitPassed
  unfolding commit_rows
  commit_passed z =
      let a = row_passed 11 (not (eqb t.edit e.edits)) _ z in
      let b = row_passed 12 (leb most_edits e.edits) _ a.1 in
      let c = replace_passed s f t.lap (part_new t (laps_of s) part) t.tolerance room b.1 in
      record {
        current = eqb-true t.edit e.edits (not-false _ a.0);
        below = leb-false most_edits e.edits b.0;
        rows = c.0;
        few = c.1;
        space = c.2;
      }

-- a part that passes row 2
pub few_part : (t : Ticket) (s f part : List ℕ) → NewPassed s f t.lap (part_new t (laps_of s) part) t.tolerance → length part / 73 ≤ 800
unfolding row2
few_part t s f part p = leb-true (length part / 73) 800 (not-false _ (or_false (big s || big f) _ p.p2).1)

-- what it answers
pub not_stored : (n : ℕ) (cause : Refusal) (e : Session) (a : Stored) (out : List ℕ) (r : Result ℕ Refusal) → number cause ≡ n → r ≡ Err cause → Commits e e (unless n a) out out r
unfolding bytes_stored session_after answer left
not_stored n cause e a out r h k = rw (k, sym (refused-is n cause h a)) (record { wrote = record { says = refl; leaves = refl }; session = refl })

pub is-stored : (n : ℕ) (e : Session) (bs out out' : List ℕ) (k : ℕ) → 0 ≡ n → (k ≡ length bs) × (out' ≡ bs ++ drop (length bs) out)
    → Commits e (edited e) (unless n (record { bytes = bs; session = edited e })) out out' (Ok k)
unfolding bytes_stored session_after answer left
is-stored n e bs out out' k z w =
    let a : Stored = record { bytes = bs; session = edited e } in
    rw (unless-gives n a (sym z)) (record { wrote = record { says = rw w.0; leaves = w.1 }; session = refl })
