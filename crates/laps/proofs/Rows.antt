-- The rows of the public calls: what each test of the code tells of a row, and what a call has that passes them. Assumes nothing.
use Prim.Native.Nat.{ℕ, ◌*◌, ◌/◌, ◌%◌, ◌≤◌, ◌<◌}
use mathlib.Core.Path.{◌≡◌, refl, sym, ap, ◌∙◌, subst}
use mathlib.Core.Bool.{Bool, true, false, not}
use mathlib.Core.List.{List, [], ◌++◌}
use native.Mathlib.Omega.{arith}
use borrow.Author.Tests.{eq-eqb, ne_eqb, eqb-true, eqb-false, not-false, lt-ltb, le-ltb, ltb-false}
use lib.ListN.{length, drop}
use lib.Dec.{eqb, ltb}
use Rattle.std.specs.Prelude.{Result, Ok, Err}
use Rattle.geo.specs.declared.refusal.Refusal.{Refusal}
use Rattle.geo.specs.Outcome.{Row, refusal, unless, left}
use Rattle.geo.specs.Refusal.{number, refused_by}
use Rattle.geo.specs.Wrote.{answer, Wrote}
use Rattle.geo.proofs.Wrote.{number-positive}
use Rattle.geo.proofs.Rows.{row_fails, row-passes, row_passed, refusal-front, done, unless-gives}
use Rattle.laps.specs.File.{laps_of, short, big, table_ok, laps_ok, form_ok, domain_ok}
use Rattle.laps.specs.Rows.{file_size, file_rows, size_rows}
use Rattle.laps.proofs.Walks.{not_short}

-- a cause that is handed on
pub refused_on : {A : Type 0} (n : ℕ) (cause : Refusal) (r : Result A Refusal) → r ≡ Err cause → number cause ≡ n → refused_by r ≡ n
refused_on n cause r e h = rw e h

-- whole commands: nine numbers each
pub nines : (n k : ℕ) → n % 9 ≡ 0 → eqb (n / 9) k ≡ eqb n (9 * k)
nines n k h = either (eqb (n / 9) k) refl
  where
    either : (t : Bool) → eqb (n / 9) k ≡ t → eqb (n / 9) k ≡ eqb n (9 * k)
    either true e = let q = eqb-true (n / 9) k e in e ∙ sym (eq-eqb n (9 * k) (omega arith))
    either false e = let q = eqb-false (n / 9) k e in e ∙ sym (ne_eqb n (9 * k) (λ z. q (omega arith)))

-- which is some cause
pub cause_some : (cause : Refusal) → number cause ≡ 0 → ⊥
cause_some cause e = let h = number-positive cause in omega (arith, h, e)

-- a row that decides whatever rows come later
pub refused-front : (rs ts : List Row) (cause : Refusal) → number cause ≡ refusal rs → number cause ≡ refusal (rs ++ ts)
refused-front rs ts cause e = e ∙ refusal-front rs ts (subst (λ (k : ℕ). 0 < k) e (number-positive cause))

-- ---- rows 1 to 5 of a file
pub record FilePassed (s : List ℕ) : Type 0 where
  pub long : short s ≡ false
  pub small : big s ≡ false
  pub table : table_ok s ≡ true
  pub formed : laps_ok form_ok true (laps_of s) ≡ true
  pub near : laps_ok domain_ok true (laps_of s) ≡ true

-- with rows behind them
pub file_passed_with : (s : List ℕ) (ts : List Row) → 0 ≡ refusal (file_rows s ++ ts) → FilePassed s × (0 ≡ refusal ts)
unfolding file_rows
file_passed_with s ts e =
    let a = row_passed 0 (short s) _ e in
    let b = row_passed 1 (big s) _ a.1 in
    let c = row_passed 2 (not (table_ok s)) _ b.1 in
    let d = row_passed 3 (not (laps_ok form_ok true (laps_of s))) _ c.1 in
    let f = row_passed 4 (not (laps_ok domain_ok true (laps_of s))) _ d.1 in
    (record { long = a.0; small = b.0; table = not-false _ c.0; formed = not-false _ d.0; near = not-false _ f.0 }, f.1)

pub file_passed : (s : List ℕ) (r : ℕ) → r ≡ refusal (file_rows s) → r ≡ 0 → FilePassed s
unfolding file_rows
file_passed s r e z = (file_passed_with s [] (sym z ∙ e)).0

pub behind-file : (s : List ℕ) (ts : List Row) → FilePassed s → refusal (file_rows s ++ ts) ≡ refusal ts
unfolding file_rows
behind-file s ts p =
    row-passes 1 (short s) _ p.long ∙ row-passes 2 (big s) _ p.small ∙ row-passes 3 (not (table_ok s)) _ (ap not p.table)
    ∙ row-passes 4 (not (laps_ok form_ok true (laps_of s))) _ (ap not p.formed) ∙ row-passes 5 (not (laps_ok domain_ok true (laps_of s))) _ (ap not p.near)

pub long_of : (s : List ℕ) → FilePassed s → 8 ≤ length s
long_of s p = not_short s p.long

-- ---- rows 8 and 9
module _ (laps most room : ℕ) where
  pub size_8 : 800 < most → refusal (size_rows laps most room) ≡ 8
  unfolding size_rows
  size_8 h = row_fails 8 _ _ (lt-ltb 800 most h)

  pub size_9 : most ≤ 800 → room < file_size laps most → refusal (size_rows laps most room) ≡ 9
  unfolding size_rows
  size_9 h k = row-passes 8 _ _ (le-ltb 800 most h) ∙ row_fails 9 _ _ (lt-ltb room (file_size laps most) k)

  pub size_0 : most ≤ 800 → file_size laps most ≤ room → refusal (size_rows laps most room) ≡ 0
  unfolding size_rows
  size_0 h k = row-passes 8 _ _ (le-ltb 800 most h) ∙ row-passes 9 _ _ (le-ltb room (file_size laps most) k) ∙ done

  pub sized : 0 ≡ refusal (size_rows laps most room) → (most ≤ 800) × (file_size laps most ≤ room)
  unfolding size_rows
  sized e =
      let a = row_passed 7 (ltb 800 most) _ e in
      let b = row_passed 8 (ltb room (file_size laps most)) _ a.1 in
      (ltb-false 800 most a.0, ltb-false room (file_size laps most) b.0)

-- ---- what an accepted call answers and leaves: n is the number that its table gives
pub wrote-bytes : (n : ℕ) → 0 ≡ n → (bs out out' : List ℕ) (k : ℕ) → (k ≡ length bs) × (out' ≡ bs ++ drop (length bs) out)
    → Wrote (λ (bytes : List ℕ). bytes) (unless n bs) out out' (Ok k)
unfolding answer left
wrote-bytes n z bs out out' k w = rw (unless-gives n bs (sym z)) record { says = rw w.0; leaves = w.1 }
