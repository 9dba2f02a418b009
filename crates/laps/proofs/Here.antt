-- A place in a file whose table is right: lap j starts at `at`, and n laps are left. Assumes nothing.
use Prim.Native.Nat.{ℕ, zero, suc, ◌+◌, ◌-◌, ◌*◌, ◌≤◌, ◌<◌}
use mathlib.Core.Path.{◌≡◌, refl, sym, ◌∙◌, subst}
use mathlib.Core.Bool.{Bool, true, false, cond}
use mathlib.Core.List.{List}
use native.Mathlib.Nat.{sub-zero}
use native.Mathlib.Omega.{arith}
use borrow.Author.Tests.{eqb-true, eqb-false, ltb-false}
use lib.ListN.{length}
use lib.Dec.{T, eqb, ltb}
use Rattle.laps.specs.File.{lap_count, offset_at, count_at, laps_at, laps_of, has_mark, walk, table_ok}
use Rattle.laps.proofs.Walks.{walk_step}

-- taking a chain of tests apart
pub cond_false : (b : Bool) (x : Bool) → cond b x false ≡ true → (b ≡ true) × (x ≡ true)
cond_false true x e = (refl, e)
cond_false false x e = absurd (subst T (sym e) tt)

pub cond_not : (b : Bool) (x : Bool) → cond b false x ≡ true → (b ≡ false) × (x ≡ true)
cond_not true x e = absurd (subst T (sym e) tt)
cond_not false x e = (refl, e)

-- a walk that passes
pub record Here (s : List ℕ) (j at l : ℕ) : Type 0 where
  pub total : ℕ
  pub passes : walk s j at total (l - j) ≡ true
  pub few : total ≤ 800
  pub table : 8 + 8 * l ≤ length s
  pub past : at ≡ 8 + 8 * l + 73 * total

pub record Next (s : List ℕ) (j at l : ℕ) : Type 0 where
  pub offset : offset_at s j ≡ at
  pub some : 0 < count_at s j
  pub few : count_at s j ≤ 800
  pub then : Here s (j + 1) (at + 73 * count_at s j) l

pub start : (s : List ℕ) → table_ok s ≡ true → Here s 0 (8 + 8 * lap_count s) (lap_count s)
unfolding table_ok
start s e =
    let a = cond_false (has_mark s) _ e in
    let b = cond_not (ltb (length s) (8 + 8 * lap_count s)) _ a.1 in
    record { total = 0; passes = rw sub-zero b.1; few = omega arith; table = ltb-false (length s) (8 + 8 * lap_count s) b.0; past = omega arith }

pub next : (s : List ℕ) (j at l : ℕ) → Here s j at l → j < l → Next s j at l
next s j at l w h =
    let a = cond_false (eqb (offset_at s j) at) _ (sym (walk_step s j at w.total l h) ∙ w.passes) in
    let b = cond_not (eqb (count_at s j) 0) _ a.1 in
    let d = cond_not (ltb 800 (w.total + count_at s j)) _ b.1 in
    let m = ltb-false 800 (w.total + count_at s j) d.0 in
    let z = eqb-false (count_at s j) 0 b.0 in
    let p = w.past in
    record {
      offset = eqb-true (offset_at s j) at a.0;
      some = omega (arith, z);
      few = omega (arith, m);
      then = record { total = w.total + count_at s j; passes = d.1; few = m; table = w.table; past = omega (arith, p) };
    }

-- a place lies within the file
inside : (s : List ℕ) (j at total n : ℕ) → walk s j at total n ≡ true → at ≤ length s
unfolding walk
inside s j at total zero e = let h = eqb-true at (length s) e in omega (arith, h)
inside s j at total (suc n) e =
    let a = cond_false (eqb (offset_at s j) at) _ e in
    let b = cond_not (eqb (count_at s j) 0) _ a.1 in
    let d = cond_not (ltb 800 (total + count_at s j)) _ b.1 in
    let h = inside s (j + 1) (at + 73 * count_at s j) (total + count_at s j) n d.1 in
    omega (arith, h)

pub within : (s : List ℕ) (j at l : ℕ) → Here s j at l → at ≤ length s
within s j at l w = inside s j at w.total (l - j) w.passes

-- ---- what a loop over the laps needs
pub start_at : (s : List ℕ) (l : ℕ) → l ≡ lap_count s → table_ok s ≡ true → Here s 0 (8 + 8 * l) l
start_at s l e h = rw e (start s h)

pub all-laps : (s : List ℕ) (l : ℕ) → l ≡ lap_count s → laps_at s 0 (8 + 8 * l) (l - 0) ≡ laps_of s
unfolding laps_of
all-laps s l e = rw (e, sub-zero)

pub record Step (s : List ℕ) (j at l n : ℕ) : Type 0 where
  pub offset : offset_at s j ≡ at
  pub some : 0 < n
  pub few : n ≤ 800
  pub fits : at + 73 * n ≤ length s
  pub then : Here s (j + 1) (at + 73 * n) l

pub step : (s : List ℕ) (j at l n : ℕ) → n ≡ count_at s j → Here s j at l → j < l → Step s j at l n
step s j at l n e w h =
    let x = next s j at l w h in
    rw e (record { offset = x.offset; some = x.some; few = x.few; fits = within s (j + 1) (at + 73 * count_at s j) l x.then; then = x.then })
