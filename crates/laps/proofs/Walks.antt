-- One turn of each walk over a file: a lap's commands, the laps, the table. Assumes nothing.
use Prim.Native.Nat.{ℕ, zero, suc, ◌+◌, ◌-◌, ◌*◌, ◌≤◌, ◌<◌}
use mathlib.Core.Path.{◌≡◌, refl, sym, ap, ◌∙◌}
use mathlib.Core.Bool.{Bool, true, false, cond, not}
use mathlib.Core.List.{List, [], ◌∷◌}
use mathlib.Core.Logic.{⊎_elim}
use native.Mathlib.Omega.{arith}
use borrow.Author.Tests.{eq-eqb, ne_eqb, lt-ltb, le-ltb, ltb-false}
use lib.ListN.{length, get_or, take, drop}
use lib.Seq.{drop-cons}
use lib.Dec.{eqb, ltb}
use Rattle.std.proofs.lemmas.List.{drop_all}
use Rattle.std.specs.List.{list_all, range_with_len}
use Rattle.floats.proofs.Order.{either, or_false}
use Rattle.file.specs.Command.{commands_at}
use Rattle.laps.specs.File.{Lap, lap_count, offset_at, count_at, has_mark, walk, table_ok, lacks, lap_ok, lap_tested, laps_ok, short, big}

-- ---- the commands of a lap
lap_step : (test : Bool → List ℕ → Bool) (first : Bool) (s : List ℕ) (b n i : ℕ) → i < n
    → lap_ok test first (commands_at s b (n - i)) ≡ cond (test first (take 73 (drop b s))) (lap_ok test false (commands_at s (b + 73) (n - (i + 1)))) false
unfolding lap_ok commands_at
lap_step test first s b n i h = let e : n - i ≡ suc (n - (i + 1)) = omega arith in rw e

module _ (test : Bool → List ℕ → Bool) (first : Bool) (s : List ℕ) (at n i : ℕ) (t : Bool) (h : i < n) (r : Bool) (q : r ≡ test first (take 73 (drop (at + 73 * i) s)))
    (v : lap_ok test first (commands_at s (at + 73 * i) (n - i)) ≡ t) where
  pub lap_go : r ≡ true → lap_ok test false (commands_at s (at + 73 * (i + 1)) (n - (i + 1))) ≡ t
  lap_go y = let z : at + 73 * (i + 1) ≡ at + 73 * i + 73 = omega arith in rw z (sym (lap_step test first s (at + 73 * i) n i h ∙ rw (sym q ∙ y)) ∙ v)

  pub lap_stop : r ≡ false → false ≡ t
  lap_stop y = sym (lap_step test first s (at + 73 * i) n i h ∙ rw (sym q ∙ y)) ∙ v

pub lap-end : (test : Bool → List ℕ → Bool) (first : Bool) (s : List ℕ) (at n i : ℕ) (t : Bool) → n ≤ i → lap_ok test first (commands_at s (at + 73 * i) (n - i)) ≡ t → true ≡ t
unfolding lap_ok commands_at
lap-end test first s at n i t h v = (let e : n - i ≡ zero = omega arith in sym (rw e)) ∙ v

-- the first command is tested first
pub lap_begin : (test : Bool → List ℕ → Bool) (first : Bool) (s : List ℕ) (at n : ℕ) → lap_ok test first (commands_at s (at + 73 * 0) (n - 0)) ≡ lap_ok test first (commands_at s at n)
lap_begin test first s at n = let z : n - 0 ≡ n = omega arith in let w : at + 73 * 0 ≡ at = omega arith in rw (z, w)

-- whether a lap lacks its Move is told by its first byte
pub lacks-none : (s : List ℕ) (at n : ℕ) → n ≡ 0 → false ≡ lacks (commands_at s at n)
unfolding lacks commands_at
lacks-none s at n e = rw e

pub lacks-first : (s : List ℕ) (at n : ℕ) → (n ≡ 0 → ⊥) → at + 73 * n ≤ length s → not (eqb (get_or s at 0) 0) ≡ lacks (commands_at s at n)
unfolding lacks commands_at
lacks-first s at zero h k = absurd (h refl)
lacks-first s at (suc n) h k = ap (λ (x : ℕ). not (eqb x 0)) (first_byte s at (omega arith))
  where
    first_byte : (l : List ℕ) (i : ℕ) → i < length l → get_or l i 0 ≡ get_or (take 73 (drop i l)) 0 0
    first_byte l i g = ap (λ (xs : List ℕ). get_or (take 73 xs) 0 0) (sym (drop-cons l i 0 g))

-- ---- the laps of a file
laps_step : (test : Bool → List ℕ → Bool) (must : Bool) (ls : List Lap) (j : ℕ) → j < length ls
    → laps_ok test must (drop j ls) ≡ cond (lap_tested test must (get_or ls j [])) (laps_ok test false (drop (j + 1) ls)) false
unfolding laps_ok
laps_step test must ls j h = let e : drop j ls ≡ get_or ls j [] ∷ drop (suc j) ls = drop-cons ls j [] h in let z : j + 1 ≡ suc j = omega arith in rw (e, z)

module _ (test : Bool → List ℕ → Bool) (ls : List Lap) (j : ℕ) (t : Bool) (h : j < length ls) (r : Bool) (q : r ≡ lap_tested test (eqb j 0) (get_or ls j []))
    (v : laps_ok test (eqb j 0) (drop j ls) ≡ t) where
  pub laps_go : r ≡ true → laps_ok test (eqb (j + 1) 0) (drop (j + 1) ls) ≡ t
  laps_go y = rw (ne_eqb (j + 1) 0 (λ z. omega arith)) (sym (laps_step test (eqb j 0) ls j h ∙ rw (sym q ∙ y)) ∙ v)

  pub laps_stop : r ≡ false → false ≡ t
  laps_stop y = sym (laps_step test (eqb j 0) ls j h ∙ rw (sym q ∙ y)) ∙ v

pub laps-end : (test : Bool → List ℕ → Bool) (must : Bool) (ls : List Lap) (j : ℕ) (t : Bool) → length ls ≤ j → laps_ok test must (drop j ls) ≡ t → true ≡ t
unfolding laps_ok
laps-end test must ls j t h v = (let e : drop j ls ≡ [] = drop_all j ls h in sym (rw e)) ∙ v

-- each lap's test by its index
pub all_laps : (test : Bool → List ℕ → Bool) (ls : List Lap) (n j : ℕ) → n ≡ length ls - j → list_all (λ i. lap_tested test (eqb i 0) (get_or ls i [])) (range_with_len j n) ≡ laps_ok test (eqb j 0) (drop j ls)
all_laps test ls zero j e = laps-end test (eqb j 0) ls j _ (omega arith) refl
all_laps test ls (suc n) j e =
    ⊎_elim (λ h. rw h (all_laps test ls n (j + 1) (omega arith) ∙ laps_go test ls j _ (omega arith) _ refl refl h)) (λ h. rw h (laps_stop test ls j _ (omega arith) _ refl refl h))
    (either (lap_tested test (eqb j 0) (get_or ls j [])))

-- ---- the table
pub walk_step : (s : List ℕ) (j at total l : ℕ) → j < l
    → walk s j at total (l - j) ≡ cond (eqb (offset_at s j) at) (cond (eqb (count_at s j) 0) false (cond (ltb 800 (total + count_at s j)) false (walk s (j + 1) (at + 73 * count_at s j) (total + count_at s j) (l - (j + 1))))) false
unfolding walk
walk_step s j at total l h = let e : l - j ≡ suc (l - (j + 1)) = omega arith in rw e

module _ (s : List ℕ) (j at total l : ℕ) (t : Bool) (h : j < l) (o : ℕ) (p : o ≡ offset_at s j) (v : walk s j at total (l - j) ≡ t) where
  pub walk_gap : (o ≡ at → ⊥) → false ≡ t
  walk_gap y = sym (walk_step s j at total l h ∙ rw (← p, ne_eqb o at y)) ∙ v

  pub walk_none : o ≡ at → (n : ℕ) → n ≡ count_at s j → n ≡ 0 → false ≡ t
  walk_none y n q z = sym (walk_step s j at total l h ∙ rw (← p, eq-eqb o at y, ← q, eq-eqb n 0 z)) ∙ v

  pub walk_many : o ≡ at → (n : ℕ) → n ≡ count_at s j → (n ≡ 0 → ⊥) → 800 < total + n → false ≡ t
  walk_many y n q z m = sym (walk_step s j at total l h ∙ rw (← p, eq-eqb o at y, ← q, ne_eqb n 0 z, lt-ltb 800 (total + n) m)) ∙ v

  pub walk_go : o ≡ at → (n : ℕ) → n ≡ count_at s j → (n ≡ 0 → ⊥) → total + n ≤ 800 → walk s (j + 1) (at + 73 * n) (total + n) (l - (j + 1)) ≡ t
  walk_go y n q z m = sym (walk_step s j at total l h ∙ rw (← p, eq-eqb o at y, ← q, ne_eqb n 0 z, le-ltb 800 (total + n) m)) ∙ v

pub walk_end : (s : List ℕ) (j at total l : ℕ) (t : Bool) → l ≤ j → walk s j at total (l - j) ≡ t → eqb at (length s) ≡ t
unfolding walk
walk_end s j at total l t h v = (let e : l - j ≡ zero = omega arith in sym (rw e)) ∙ v

pub no_mark : (s : List ℕ) → has_mark s ≡ false → false ≡ table_ok s
unfolding table_ok
no_mark s e = rw e

pub no_room : (s : List ℕ) → has_mark s ≡ true → length s < 8 + 8 * lap_count s → false ≡ table_ok s
unfolding table_ok
no_room s e h = rw (e, lt-ltb (length s) (8 + 8 * lap_count s) h)

pub by_walk : (s : List ℕ) → has_mark s ≡ true → 8 + 8 * lap_count s ≤ length s → walk s 0 (8 + 8 * lap_count s) 0 (lap_count s) ≡ table_ok s
unfolding table_ok
by_walk s e h = rw (e, le-ltb (length s) (8 + 8 * lap_count s) h)

-- ---- what a passed row tells
pub not_short : (s : List ℕ) → short s ≡ false → 8 ≤ length s
unfolding short
not_short s e = ltb-false (length s) 8 e

pub not_big : (s : List ℕ) → big s ≡ false → (length s ≤ 65536) × (lap_count s ≤ 64)
unfolding big
not_big s e = let w = or_false (ltb 65536 (length s)) (ltb 64 (lap_count s)) e in (ltb-false 65536 (length s) w.0, ltb-false 64 (lap_count s) w.1)
