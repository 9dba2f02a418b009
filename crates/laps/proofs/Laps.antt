-- What the laps of a file with a right table are: whole, none empty, at most 800 commands. Assumes nothing.
use Prim.Native.Nat.{ℕ, zero, suc, ◌+◌, ◌-◌, ◌*◌, ◌≤◌, ◌<◌}
use mathlib.Core.Path.{◌≡◌, refl, subst}
use mathlib.Core.Bool.{true}
use mathlib.Core.List.{List, []}
use native.Mathlib.Nat.{zero-add}
use native.Mathlib.Omega.{arith}
use borrow.Author.Tests.{ltb-false}
use lib.Dec.{eqb, ltb}
use lib.ListN.{length, get_or}
use Rattle.file.specs.Command.{commands_at}
use Rattle.laps.specs.File.{Lap, lap_count, offset_at, count_at, laps_at, laps_of, walk, table_ok, command_count, AllFull}
use Rattle.laps.proofs.Here.{Here, step, start, cond_false, cond_not}
use Rattle.laps.proofs.ReadBack.{Somes}
use Rattle.laps.proofs.Whole.{length_commands, whole-commands}

-- each command is whole
wholes_from : (s : List ℕ) (j at l n : ℕ) → n ≡ l - j → Here s j at l → AllFull (laps_at s j at n)
unfolding laps_at
wholes_from s j at l zero e h = tt
wholes_from s j at l (suc n) e h =
    let w = step s j at l (count_at s j) refl h (omega arith) in
    (whole-commands s at (count_at s j) w.fits, wholes_from s (j + 1) (at + 73 * count_at s j) l n (omega arith) w.then)

pub wholes_of : (s : List ℕ) → table_ok s ≡ true → AllFull (laps_of s)
unfolding laps_of
wholes_of s h = wholes_from s 0 (8 + 8 * lap_count s) (lap_count s) (lap_count s) (omega arith) (start s h)

-- no lap of a file with a right table is empty
somes_from : (s : List ℕ) (j at l n : ℕ) → n ≡ l - j → Here s j at l → Somes (laps_at s j at n)
unfolding laps_at
somes_from s j at l zero e h = tt
somes_from s j at l (suc n) e h =
    let w = step s j at l (count_at s j) refl h (omega arith) in
    let d = length_commands s at (count_at s j) in
    let p : 0 < count_at s j = w.some in
    (omega (arith, d), somes_from s (j + 1) (at + 73 * count_at s j) l n (omega arith) w.then)

pub somes_of : (s : List ℕ) → table_ok s ≡ true → Somes (laps_of s)
unfolding laps_of
somes_of s h = somes_from s 0 (8 + 8 * lap_count s) (lap_count s) (lap_count s) (omega arith) (start s h)

-- a right table has at most 800 commands
walked : (s : List ℕ) (j at t n : ℕ) → t ≤ 800 → walk s j at t n ≡ true → t + command_count (laps_at s j at n) ≤ 800
unfolding walk laps_at command_count
walked s j at t zero h e = omega arith
walked s j at t (suc n) h e =
    let a = cond_false (eqb (offset_at s j) at) _ e in
    let b = cond_not (eqb (count_at s j) 0) _ a.1 in
    let d = cond_not (ltb 800 (t + count_at s j)) _ b.1 in
    let m = ltb-false 800 (t + count_at s j) d.0 in
    let r = walked s (j + 1) (at + 73 * count_at s j) (t + count_at s j) n m d.1 in
    let l = length_commands s at (count_at s j) in omega arith

pub few-commands : (s : List ℕ) → table_ok s ≡ true → command_count (laps_of s) ≤ 800
unfolding laps_of
few-commands s h =
    let w = start s h in
    let t = w.total in
    let z : 8 + 8 * lap_count s ≡ 8 + 8 * lap_count s + 73 * t = w.past in
    let y : lap_count s - 0 ≡ lap_count s = omega arith in
    let p : walk s 0 (8 + 8 * lap_count s) t (lap_count s) ≡ true = rw y at w.passes in
    let r = walked s 0 (8 + 8 * lap_count s) t (lap_count s) w.few p in omega arith

-- ---- the lap l stands where entry j says
pub record At (s : List ℕ) (j : ℕ) (l : Lap) : Type 0 where
  pub lap : l ≡ commands_at s (offset_at s j) (count_at s j)
  pub fits : offset_at s j + 73 * count_at s j ≤ length s
  pub some : 0 < count_at s j
  pub few : count_at s j ≤ 800

at_from : (s : List ℕ) (j at l n i : ℕ) → n ≡ l - j → Here s j at l → i < n → At s (j + i) (get_or (laps_at s j at n) i [])
unfolding laps_at
at_from s j at l zero i e h g = absurd (omega arith)
at_from s j at l (suc n) zero e h g =
    let w = step s j at l (count_at s j) refl h (omega arith) in
    let z : j + 0 ≡ j = omega arith in
    let o : offset_at s j ≡ at = w.offset in
    let f : at + 73 * count_at s j ≤ length s = w.fits in
    rw z (record { lap = rw o; fits = rw o f; some = w.some; few = w.few })
at_from s j at l (suc n) (suc i) e h g =
    let w = step s j at l (count_at s j) refl h (omega arith) in
    let z : j + suc i ≡ j + 1 + i = omega arith in
    rw z (at_from s (j + 1) (at + 73 * count_at s j) l n i (omega arith) w.then (omega arith))

pub lap_at : (s : List ℕ) → table_ok s ≡ true → (i : ℕ) → i < lap_count s → At s i (get_or (laps_of s) i [])
unfolding laps_of
lap_at s t i h =
    subst (λ (j : ℕ). At s j (get_or (laps_at s 0 (8 + 8 * lap_count s) (lap_count s)) i [])) (zero-add i)
    (at_from s 0 (8 + 8 * lap_count s) (lap_count s) (lap_count s) i (omega arith) (start s t) h)

-- a right table lies in its file
pub table_fits : (s : List ℕ) → table_ok s ≡ true → 8 + 8 * lap_count s ≤ length s
table_fits s t = (start s t).table
