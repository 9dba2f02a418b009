-- The rows of the replacement of a lap: what each test of the code tells of a row, and what a call has that passes them. Assumes nothing.
use Prim.Native.Nat.{ℕ, ◌+◌, ◌*◌, ◌≤◌}
use mathlib.Core.Path.{◌≡◌, sym, ap, ◌∙◌}
use mathlib.Core.Bool.{Bool, true, false, not, ◌||◌}
use mathlib.Core.List.{List, [], ◌++◌}
use mathlib.Core.Logic.{⊎_elim}
use native.Mathlib.Omega.{arith}
use borrow.Author.Tests.{eqb-true, eqb-false, not-false, ltb-false}
use lib.Dec.{eqb}
use lib.ListN.{length}
use lib.Ieee.{Float}
use Rattle.floats.proofs.Order.{lt_or_ge, or_false}
use Rattle.geo.specs.declared.refusal.Refusal.{Refusal}
use Rattle.geo.specs.Outcome.{Row, refusal}
use Rattle.geo.specs.Refusal.{number}
use Rattle.geo.specs.Domain.{tolerance}
use Rattle.geo.proofs.Rows.{row_fails, row-passes, row_passed}
use Rattle.chain.specs.Chains.{cap}
use Rattle.laps.specs.File.{lap_count, laps_of, command_count, short, big, table_ok}
use Rattle.laps.specs.Rows.{file_size, size_rows}
use Rattle.laps.proofs.Rows.{refused-front, sized, size_8}
use Rattle.laps.proofs.Walks.{not_short, not_big}
use Rattle.lap_fit.proofs.Cap.{told_more, told_below}
use Rattle.lap_swap.specs.Swap.{swap_both, next_lacks}
use Rattle.lap_checks.specs.Checks.{NewLap, lent_whole, row1, row2, row3, row4, row5, row7, table_rows, later_rows, new_rows, most_with, replace_rows}

-- ---- what each passed row tells
pub lent-nine : (ks : List ℕ) (ns : List Float) → lent_whole ks ns ≡ true → length ns ≡ 9 * length ks
unfolding lent_whole
lent-nine ks ns e = eqb-true (length ns) (9 * length ks) e

module _ (s f : List ℕ) where
  pub past_1 : (whole : Bool) → row1 s f whole ≡ false → (8 ≤ length s) × (8 ≤ length f) × (whole ≡ true)
  unfolding row1
  past_1 whole e =
      let a = or_false (short s || short f) _ e in
      let b = or_false (short s) (short f) a.0 in
      (not_short s b.0, not_short f b.1, not-false _ a.1)

  pub past_2 : (few : Bool) → row2 s f few ≡ false → (lap_count s ≤ 64) × (lap_count f ≤ 64)
  unfolding row2
  past_2 few e =
      let a = or_false (big s || big f) _ e in
      let b = or_false (big s) (big f) a.0 in
      ((not_big s b.0).1, (not_big f b.1).1)

  pub past_3 : row3 s f ≡ false → (table_ok s ≡ true) × (table_ok f ≡ true)
  unfolding row3
  past_3 e =
      let a = or_false (not (table_ok s) || not (table_ok f)) _ e in
      let b = or_false (not (table_ok s)) (not (table_ok f)) a.0 in
      (not-false _ b.0, not-false _ b.1)

pub past_7 : (k : ℕ) (s : List ℕ) → row7 k s ≡ false → (1 ≤ k) × (k ≤ lap_count s)
unfolding row7
past_7 k s e =
    let a = or_false (eqb k 0) _ e in
    let z = eqb-false k 0 a.0 in (omega (arith, z), ltb-false (lap_count s) k a.1)

-- ---- rows 1 to 7, of a new lap in whatever form
pub record NewPassed (s f : List ℕ) (k : ℕ) (new : NewLap) (tol : Float) : Type 0 where
  pub p1 : row1 s f new.whole ≡ false
  pub p2 : row2 s f new.few ≡ false
  pub p3 : row3 s f ≡ false
  pub counted : new.counted ≡ true
  pub p4 : row4 s new.formed ≡ false
  pub p5 : row5 s new.near ≡ false
  pub p6 : tolerance tol ≡ true
  pub p7 : row7 k s ≡ false

module _ (s f : List ℕ) (k : ℕ) (new : NewLap) (tol : Float) where
  pub new_passed_with : (ts : List Row) → 0 ≡ refusal (new_rows s f k new tol ++ ts) → NewPassed s f k new tol × (0 ≡ refusal ts)
  unfolding new_rows table_rows later_rows
  new_passed_with ts e =
      let a = row_passed 0 (row1 s f new.whole) _ e in
      let b = row_passed 1 (row2 s f new.few) _ a.1 in
      let c = row_passed 2 (row3 s f) _ b.1 in
      let n = row_passed 2 (not new.counted) _ c.1 in
      let d = row_passed 3 (row4 s new.formed) _ n.1 in
      let g = row_passed 4 (row5 s new.near) _ d.1 in
      let h = row_passed 5 (not (tolerance tol)) _ g.1 in
      let i = row_passed 6 (row7 k s) _ h.1 in
      (record { p1 = a.0; p2 = b.0; p3 = c.0; counted = not-false _ n.0; p4 = d.0; p5 = g.0; p6 = not-false _ h.0; p7 = i.0 }, i.1)

  pub new_passed : 0 ≡ refusal (new_rows s f k new tol) → NewPassed s f k new tol
  unfolding new_rows table_rows later_rows
  new_passed e = (new_passed_with [] e).0

  pub behind_new : (ts : List Row) → NewPassed s f k new tol → refusal (new_rows s f k new tol ++ ts) ≡ refusal ts
  unfolding new_rows table_rows later_rows
  behind_new ts p =
      row-passes 1 (row1 s f new.whole) _ p.p1 ∙ row-passes 2 (row2 s f new.few) _ p.p2 ∙ row-passes 3 (row3 s f) _ p.p3 ∙ row-passes 3 (not new.counted) _ (ap not p.counted)
      ∙ row-passes 4 (row4 s new.formed) _ p.p4
      ∙ row-passes 5 (row5 s new.near) _ p.p5 ∙ row-passes 6 (not (tolerance tol)) _ (ap not p.p6) ∙ row-passes 7 (row7 k s) _ p.p7

  pub new_refused : (room : ℕ) (cause : Refusal) → number cause ≡ refusal (new_rows s f k new tol) → number cause ≡ refusal (replace_rows s f k new tol room)
  unfolding replace_rows
  new_refused room cause e = refused-front (new_rows s f k new tol) _ cause e

  pub new_sizes : (room : ℕ) → NewPassed s f k new tol → refusal (replace_rows s f k new tol room) ≡ refusal (size_rows (lap_count f) (most_with new k s f) room)
  unfolding replace_rows
  new_sizes room p = behind_new _ p

  pub replace_passed : (room : ℕ) → 0 ≡ refusal (replace_rows s f k new tol room) → NewPassed s f k new tol × (most_with new k s f ≤ 800) × (file_size (lap_count f) (most_with new k s f) ≤ room)
  unfolding replace_rows
  replace_passed room e =
      let a = new_passed_with _ e in
      let b = sized (lap_count f) (most_with new k s f) room a.1 in
      (a.0, b.0, b.1)

-- the sizes by the new lap's most, which is told, and the other laps' commands
pub sizes_with : (new : NewLap) (k : ℕ) (s f : List ℕ) (l r t room : ℕ) → l ≡ lap_count f → r ≡ cap new.most → t ≡ r + command_count (swap_both (next_lacks k (laps_of s)) k [] [] (laps_of f))
    → refusal (size_rows l t room) ≡ refusal (size_rows (lap_count f) (most_with new k s f) room)
unfolding most_with
sizes_with new k s f l r t room e p q =
    ⊎_elim (λ h. let a = told_more r new.most p in size_8 l t room h ∙ sym (size_8 (lap_count f) (new.most + command_count (swap_both (next_lacks k (laps_of s)) k [] [] (laps_of f))) room (omega arith)))
    (λ h. rw (e, q, told_below r new.most p (omega arith))) (lt_or_ge 800 t)

-- the new lap's most, as it is told, where the whole file's is no more than 800
pub most_told : (new : NewLap) (k : ℕ) (s f : List ℕ) (r : ℕ) → r ≡ cap new.most → most_with new k s f ≤ 800 → (r ≡ new.most) × (r ≤ 800)
unfolding most_with
most_told new k s f r e h =
    let m = told_more r new.most e in
    let l : r ≤ 800 = omega (arith, m, h) in (told_below r new.most e l, l)

-- ---- the rows by their two halves, of what the code found of the new lap
pub tables_of : (s f : List ℕ) (w W few : Bool) (r : ℕ) → r ≡ refusal (table_rows s f w few) → w ≡ W → r ≡ refusal (table_rows s f W few)
tables_of s f w W few r e h = e ∙ ap (λ (b : Bool). refusal (table_rows s f b few)) h

pub laps_of_lem : (s : List ℕ) (k : ℕ) (a A b B : Bool) (tol : Float) (r : ℕ) → r ≡ refusal (later_rows s k a b tol) → a ≡ A → b ≡ B → r ≡ refusal (later_rows s k A B tol)
laps_of_lem s k a A b B tol r e g h = e ∙ ap (λ (c : Bool). refusal (later_rows s k c b tol)) g ∙ ap (λ (c : Bool). refusal (later_rows s k A c tol)) h

module _ (s f : List ℕ) (whole few : Bool) where
  pub tables_passed : 0 ≡ refusal (table_rows s f whole few) → (row1 s f whole ≡ false) × (row2 s f few ≡ false) × (row3 s f ≡ false)
  unfolding table_rows
  tables_passed e =
      let a = row_passed 0 (row1 s f whole) _ e in
      let b = row_passed 1 (row2 s f few) _ a.1 in
      let c = row_passed 2 (row3 s f) _ b.1 in
      (a.0, b.0, c.0)

  behind_tables : (ts : List Row) → (row1 s f whole ≡ false) × (row2 s f few ≡ false) × (row3 s f ≡ false) → refusal (table_rows s f whole few ++ ts) ≡ refusal ts
  unfolding table_rows
  behind_tables ts p = row-passes 1 (row1 s f whole) _ p.0 ∙ row-passes 2 (row2 s f few) _ p.1 ∙ row-passes 3 (row3 s f) _ p.2

module _ (s f : List ℕ) (k : ℕ) (new : NewLap) (tol : Float) where
  pub tables_refused : (cause : Refusal) → number cause ≡ refusal (table_rows s f new.whole new.few) → number cause ≡ refusal (new_rows s f k new tol)
  unfolding new_rows
  tables_refused cause e = refused-front (table_rows s f new.whole new.few) _ cause e

  module _ (e : 0 ≡ refusal (table_rows s f new.whole new.few)) where
    pub counts-refused : new.counted ≡ false → 3 ≡ refusal (new_rows s f k new tol)
    unfolding new_rows
    counts-refused g = sym (behind_tables s f new.whole new.few _ (tables_passed s f new.whole new.few e) ∙ row_fails 3 (not new.counted) _ (ap not g))

    pub laps_decide : new.counted ≡ true → (t : ℕ) → t ≡ refusal (later_rows s k new.formed new.near tol) → t ≡ refusal (new_rows s f k new tol)
    unfolding new_rows
    laps_decide g t w = w ∙ sym (behind_tables s f new.whole new.few _ (tables_passed s f new.whole new.few e) ∙ row-passes 3 (not new.counted) _ (ap not g))
