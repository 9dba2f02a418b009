-- The lines of a lap: the rows that stand in two arrays, written one by one. Assumes nothing.
use Prim.Native.Nat.{ℕ, zero, suc, ◌+◌, ◌-◌, ◌*◌, ◌≤◌, ◌<◌}
use mathlib.Core.Path.{◌≡◌, refl, sym, ap, ◌∙◌, subst}
use mathlib.Core.List.{List, [], ◌∷◌, ◌++◌}
use native.Mathlib.Nat.{zero-add}
use native.Mathlib.Omega.{arith}
use lib.ListN.{length, get_or, take}
use Rattle.std.proofs.Math.Seq.{take-append_seam}
use Rattle.geo.specs.Lent.{flat}
use Rattle.geo.specs.Walk.{list_from}
use Rattle.geo.proofs.Stores.{sets_front}
use Rattle.geo.proofs.Walk.{list_step, list_done}
use Rattle.listing.specs.Rows.{ListRow, kinds_of, steps_in, sum_of}
use Rattle.listing.specs.Placed.{RowsPlaced}
use Rattle.listing.proofs.Columns.{kinds_length, steps_length}
use Rattle.lap_text.specs.Text.{row_text, rows_text}
use Rattle.lap_text.specs.Left.{TextPut, row_at, rows_from}
use Rattle.lap_text.proofs.Written.{line_length, Writing, write_start, write_step, write_done}

-- the steps of the rows from i on, together
abbrev pub sum_from : List ℕ → List ℕ → ℕ → ℕ → ℕ
sum_from ks ss n i = sum_of (steps_in (rows_from ks ss n i))

-- where the loop stands before row i: what is left, written from here, gives the whole, and has room; its steps, added to `sum`, are all
pub record Lines (ks ss : List ℕ) (n lap : ℕ) (out₀ out : List ℕ) (at to sum i : ℕ) : Type 0 where
  pub inside : i ≤ n
  pub few : sum_from ks ss n 0 < 1000
  pub adding : sum + sum_from ks ss (n - i) i ≡ sum_from ks ss n 0
  pub room : to + 9 * (n - i) ≤ length out₀
  pub going : Writing out₀ out at to (rows_text lap (rows_from ks ss (n - i) i)) (rows_text lap (rows_from ks ss n 0))

module _ (ks ss : List ℕ) (n lap : ℕ) (out₀ : List ℕ) (at : ℕ) where
  rows_step : (i : ℕ) → i < n → rows_from ks ss (n - i) i ≡ row_at ks ss i ∷ rows_from ks ss (n - (i + 1)) (i + 1)
  unfolding rows_from
  rows_step i h = list_step (row_at ks ss) n i h

  steps_step : (i : ℕ) → i < n → sum_from ks ss (n - i) i ≡ get_or ss i 0 + sum_from ks ss (n - (i + 1)) (i + 1)
  unfolding sum_of steps_in
  steps_step i h = ap (λ (rs : List ListRow). sum_of (steps_in rs)) (rows_step i h)

  steps-done : (i : ℕ) → n ≤ i → sum_from ks ss (n - i) i ≡ 0
  unfolding sum_of steps_in rows_from
  steps-done i h = ap (λ (rs : List ListRow). sum_of (steps_in rs)) (list_done (row_at ks ss) n i h)

  text_step : (i : ℕ) → i < n → rows_text lap (rows_from ks ss (n - i) i) ≡ row_text lap (row_at ks ss i) ++ rows_text lap (rows_from ks ss (n - (i + 1)) (i + 1))
  unfolding rows_text flat
  text_step i h = ap (λ (rs : List ListRow). flat (row_text lap) rs) (rows_step i h)

  text-done : (i : ℕ) → n ≤ i → rows_text lap (rows_from ks ss (n - i) i) ≡ []
  unfolding rows_text flat rows_from
  text-done i h = ap (λ (rs : List ListRow). flat (row_text lap) rs) (list_done (row_at ks ss) n i h)

  pub lines_start : sum_from ks ss n 0 < 1000 → at + 9 * n ≤ length out₀ → Lines ks ss n lap out₀ out₀ at at 0 0
  lines_start w h =
      let e : n - 0 ≡ n = omega arith in
      record {
        inside = omega arith;
        few = w;
        adding = rw e (zero-add (sum_from ks ss n 0));
        room = rw e h;
        going = write_start out₀ at _ _ (rw e);
      }

  -- row i is short, and has room
  pub line-short : (out : List ℕ) (to sum i : ℕ) → Lines ks ss n lap out₀ out at to sum i → i < n → sum + get_or ss i 0 < 1000
  line-short out to sum i w h =
      let f = w.few in
      let a = w.adding in
      let s = steps_step i h in omega arith

  pub line-room : (out : List ℕ) (to sum i : ℕ) → Lines ks ss n lap out₀ out at to sum i → i < n → to + 9 ≤ length out
  line-room out to sum i w h = let r = w.room in let l = w.going.same in omega arith

  pub lines_step : lap < 100 → (out out' : List ℕ) (to to' sum i : ℕ) → Lines ks ss n lap out₀ out at to sum i → i < n
      → TextPut (row_text lap (row_at ks ss i)) out out' to to' → Lines ks ss n lap out₀ out' at to' (sum + get_or ss i 0) (i + 1)
  lines_step b out out' to to' sum i w h p =
      let r = w.room in
      let e = p.ends in
      let a = w.adding in
      let s = steps_step i h in
      let k = line-short out to sum i w h in
      let l = line_length lap (row_at ks ss i) b (omega arith) in
      record {
        inside = omega arith;
        few = w.few;
        adding = omega arith;
        room = omega arith;
        going = write_step out₀ out out' at to to' (row_text lap (row_at ks ss i)) _ _ _ (text_step i h) p w.going;
      }

  pub lines-done : (out : List ℕ) (to sum i : ℕ) → Lines ks ss n lap out₀ out at to sum i → n ≤ i
      → TextPut (rows_text lap (rows_from ks ss n 0)) out₀ out at to × (sum ≡ sum_from ks ss n 0)
  lines-done out to sum i w h =
      let a = w.adding in
      let z = steps-done i h in (write_done out₀ out at to _ _ (text-done i h) w.going, omega arith)

-- ---- rows by another name
pub placed_same : (rs ts : List ListRow) (n : ℕ) (ks ks' ss ss' : List ℕ) → rs ≡ ts → RowsPlaced rs n ks ks' ss ss' → RowsPlaced ts n ks ks' ss ss'
placed_same rs ts n ks ks' ss ss' e p = subst (λ (xs : List ListRow). RowsPlaced xs n ks ks' ss ss') e p

-- ---- rows written to two arrays, read back
rows_shift : (k s : ℕ) (ks ss : List ℕ) (n i : ℕ) → rows_from (k ∷ ks) (s ∷ ss) n (i + 1) ≡ rows_from ks ss n i
unfolding rows_from list_from
rows_shift k s ks ss zero i = refl
rows_shift k s ks ss (suc n) i =
    let e : i + 1 ≡ suc i = omega arith in
    ap (λ (r : ListRow). r ∷ rows_from (k ∷ ks) (s ∷ ss) n (i + 1 + 1)) (ap (row_at (k ∷ ks) (s ∷ ss)) e) ∙ ap (λ (rs : List ListRow). row_at ks ss i ∷ rs) (rows_shift k s ks ss n (i + 1))

rows-front : (rs : List ListRow) → rows_from (kinds_of rs) (steps_in rs) (length rs) 0 ≡ rs
unfolding rows_from list_from kinds_of steps_in
rows-front [] = refl
rows-front (r ∷ rs) = ap (λ (ts : List ListRow). r ∷ ts) (rows_shift r.kind r.steps (kinds_of rs) (steps_in rs) (length rs) 0 ∙ rows-front rs)

-- the columns of the n rows, cut from the arrays
pub columns_back : (rs : List ListRow) (n : ℕ) (ks ks' ss ss' : List ℕ) → RowsPlaced rs n ks ks' ss ss' → length rs ≤ length ks → length rs ≤ length ss
    → (take n ks' ≡ kinds_of rs) × (take n ss' ≡ steps_in rs)
columns_back rs n ks ks' ss ss' p h k =
    let a = kinds_length rs in
    let b = steps_length rs in
    (rw (p.kinds ∙ sets_front (kinds_of rs) ks (rw a h), p.count ∙ sym a) (take-append_seam (kinds_of rs) _), rw (p.steps ∙ sets_front (steps_in rs) ss (rw b k), p.count ∙ sym b) (take-append_seam (steps_in rs) _))

pub rows_back : (rs : List ListRow) (n : ℕ) (ks ks' ss ss' : List ℕ) → RowsPlaced rs n ks ks' ss ss' → length rs ≤ length ks → length rs ≤ length ss
    → rows_from (take n ks') (take n ss') (length (take n ks')) 0 ≡ rs
rows_back rs n ks ks' ss ss' p h k = let c = columns_back rs n ks ks' ss ss' p h k in rw (c.0, c.1, kinds_length rs) (rows-front rs)

pub text_same : (lap : ℕ) (rs ts : List ListRow) (out out' : List ℕ) (at to : ℕ) → rs ≡ ts → TextPut (rows_text lap rs) out out' at to → TextPut (rows_text lap ts) out out' at to
text_same lap rs ts out out' at to e p = subst (λ (xs : List ListRow). TextPut (rows_text lap xs) out out' at to) e p
