-- The laps of a file with one or two replaced, as a loop meets them: those from number j on; and the turns of the two loops. Assumes nothing.
use Prim.Native.Nat.{ℕ, zero, suc, ◌+◌, ◌-◌, ◌*◌, ◌≤◌, ◌<◌}
use mathlib.Core.Path.{◌≡◌, refl, sym, ap, ◌∙◌}
use mathlib.Core.Bool.{Bool, true, false, cond, ◌&&◌}
use mathlib.Core.List.{List, [], ◌∷◌, ◌++◌}
use native.Mathlib.Nat.{zero-add}
use native.Mathlib.Omega.{arith}
use borrow.Author.Tests.{eq-eqb, ne_eqb, eqb-true, eqb-false}
use lib.ListN.{length, get_or, drop, set}
use lib.Seq.{sets}
use lib.Dec.{eqb}
use Rattle.file.specs.Bytes.{u32_bytes}
use Rattle.laps.specs.File.{Lap, lap_count, laps_of, table_ok, mark, encode, EachFull, command_count}
use Rattle.laps.specs.Rows.{file_size}
use Rattle.laps.proofs.Going.{Going, begin, done}
use Rattle.laps.proofs.Laps.{wholes_of}
use Rattle.laps.proofs.Turns.{laps_next, laps_over, length_laps_of}
use Rattle.lap_swap.specs.Swap.{swap_both}
use Rattle.lap_swap.proofs.Replaced.{wholes_both, length_both}

-- lap number j of the new file, which was l
abbrev pub chosen : Bool → ℕ → Lap → Lap → ℕ → Lap → Lap
chosen both k new next j l = cond (eqb j k) new (cond (both && eqb j (k + 1)) next l)

-- the laps from number j on
unfoldable pub both_from : Bool → ℕ → Lap → Lap → ℕ → List Lap → List Lap
both_from both k new next j [] = []
both_from both k new next j (l ∷ ls) = chosen both k new next j l ∷ both_from both k new next (j + 1) ls

and_none : (b : Bool) → (b && false) ≡ false
and_none true = refl
and_none false = refl

and_all : (b : Bool) → (b && true) ≡ b
and_all true = refl
and_all false = refl

-- ---- these are the laps with the two replaced
module _ (both : Bool) (k : ℕ) (new next : Lap) where
  -- behind lap k + 1 nothing changes
  past : (j : ℕ) (ls : List Lap) → k + 1 < j → both_from both k new next j ls ≡ ls
  unfolding both_from
  past j [] h = refl
  past j (l ∷ ls) h = rw (ne_eqb j k (λ e. omega arith), ne_eqb j (k + 1) (λ e. omega arith), and_none both, past (j + 1) ls (omega arith))

  -- just behind lap k
  behind : (ls : List Lap) → both_from both k new next (k + 1) ls ≡ cond both (set ls 0 next) ls
  unfolding both_from
  behind [] = either both
    where
      either : (t : Bool) → [] ≡ cond t (set [] 0 next) []
      either true = refl
      either false = refl
  behind (l ∷ ls) = rw (ne_eqb (k + 1) k (λ e. omega arith), eq-eqb (k + 1) (k + 1) refl, and_all both, past (k + 1 + 1) ls (omega arith)) (either both)
    where
      either : (t : Bool) → cond t next l ∷ ls ≡ cond t (set (l ∷ ls) 0 next) (l ∷ ls)
      either true = refl
      either false = refl

  from : (j : ℕ) (ls : List Lap) → j ≤ k → both_from both k new next j ls ≡ cond both (set (set ls (k - j) new) (k + 1 - j) next) (set ls (k - j) new)
  unfolding both_from
  from j [] h = either both
    where
      either : (t : Bool) → [] ≡ cond t (set (set [] (k - j) new) (k + 1 - j) next) (set [] (k - j) new)
      either true = refl
      either false = refl
  from j (l ∷ ls) h = either (eqb j k) refl (λ e. from (j + 1) ls (omega (arith, e)))
    where
      at_k : (t : Bool) → new ∷ cond t (set ls 0 next) ls ≡ cond t (set (set (l ∷ ls) 0 new) 1 next) (set (l ∷ ls) 0 new)
      at_k true = refl
      at_k false = refl

      before_k : (t : Bool) (x y : ℕ) → l ∷ cond t (set (set ls x new) y next) (set ls x new) ≡ cond t (set (set (l ∷ ls) (suc x) new) (suc y) next) (set (l ∷ ls) (suc x) new)
      before_k true x y = refl
      before_k false x y = refl

      either : (t : Bool) → eqb j k ≡ t
          → ((j ≡ k → ⊥) → both_from both k new next (j + 1) ls ≡ cond both (set (set ls (k - (j + 1)) new) (k + 1 - (j + 1)) next) (set ls (k - (j + 1)) new))
          → chosen both k new next j l ∷ both_from both k new next (j + 1) ls ≡ cond both (set (set (l ∷ ls) (k - j) new) (k + 1 - j) next) (set (l ∷ ls) (k - j) new)
      either true q rec =
          let e = eqb-true j k q in
          let z : k - j ≡ zero = omega (arith, e) in
          let o : k + 1 - j ≡ 1 = omega (arith, e) in
          let w : j + 1 ≡ k + 1 = omega (arith, e) in
          rw (q, z, o, w, behind ls) (at_k both)
      either false q rec =
          let e = eqb-false j k q in
          let z : k - j ≡ suc (k - (j + 1)) = omega (arith, e) in
          let o : k + 1 - j ≡ suc (k + 1 - (j + 1)) = omega (arith, e) in
          rw (q, ne_eqb j (k + 1) (λ f. omega arith), and_none both, z, o, rec e) (before_k both (k - (j + 1)) (k + 1 - (j + 1)))

  pub both_is : (ls : List Lap) → 1 ≤ k → both_from both k new next 1 ls ≡ swap_both both k new next ls
  unfolding swap_both
  both_is ls h = from 1 ls h

  both_cons : (ls : List Lap) (j : ℕ) (l : Lap) → j < length ls → l ≡ get_or ls j []
      → both_from both k new next (j + 1) (drop j ls) ≡ chosen both k new next (j + 1) l ∷ both_from both k new next (j + 1 + 1) (drop (j + 1) ls)
  unfolding both_from
  both_cons ls j l h e = rw (laps_next ls j h, e)

-- ---- the commands in the other laps, which are those with the two emptied
length_or : (t u : Bool) (l : Lap) → length (cond t [] (cond u [] l)) ≡ cond t 0 (cond u 0 (length l))
length_or true u l = refl
length_or false true l = refl
length_or false false l = refl

module _ (both : Bool) (k : ℕ) where
  others_step : (ls : List Lap) (j n : ℕ) (l : Lap) → j < length ls → l ≡ get_or ls j [] → n ≡ length l
      → command_count (both_from both k [] [] (j + 1) (drop j ls))
      ≡ cond (eqb (j + 1) k) 0 (cond (both && eqb (j + 1) (k + 1)) 0 n) + command_count (both_from both k [] [] (j + 1 + 1) (drop (j + 1) ls))
  unfolding command_count
  others_step ls j n l h e f = rw (both_cons both k [] [] ls j l h e, length_or (eqb (j + 1) k) (both && eqb (j + 1) (k + 1)) l, f)

  others-end : (ls : List Lap) (j : ℕ) → length ls ≤ j → command_count (both_from both k [] [] (j + 1) (drop j ls)) ≡ 0
  unfolding command_count both_from
  others-end ls j h = rw (laps_over ls j h)

-- where the count stands before lap j + 1: m commands so far
pub record Counting (both : Bool) (ls : List Lap) (k m j : ℕ) : Type 0 where
  pub small : m + command_count (drop j ls) ≤ command_count ls
  pub rest : m + command_count (both_from both k [] [] (j + 1) (drop j ls)) ≡ command_count (swap_both both k [] [] ls)

module _ (both : Bool) (ls : List Lap) (k : ℕ) where
  pub counting_start : 1 ≤ k → Counting both ls k 0 0
  counting_start b = record { small = omega arith; rest = rw zero-add (ap command_count (both_is both k [] [] ls b)) }

  pub counting_step : (m j n o : ℕ) (l : Lap) → Counting both ls k m j → j < length ls → l ≡ get_or ls j [] → n ≡ length l
      → o ≡ cond (eqb (j + 1) k) 0 (cond (both && eqb (j + 1) (k + 1)) 0 n) → o ≤ n → Counting both ls k (m + o) (j + 1)
  unfolding command_count
  counting_step m j n o l c h e d f g =
      let x = others_step both k ls j n l h e d in
      let z : command_count (drop j ls) ≡ length l + command_count (drop (j + 1) ls) = rw (laps_next ls j h, e) in
      let y = c.rest in
      let w = c.small in record { small = omega arith; rest = omega arith }

  pub counting_few : (m j : ℕ) → command_count ls ≤ 800 → Counting both ls k m j → m ≤ 800
  counting_few m j h c = let d = c.small in omega arith

  pub counting_done : (m j : ℕ) → command_count ls ≤ 800 → Counting both ls k m j → length ls ≤ j → (m ≡ command_count (swap_both both k [] [] ls)) × (m ≤ 800)
  counting_done m j t c h = let x = others-end both k ls j h in let y = c.rest in (omega arith, counting_few m j t c)

-- ---- the file with new laps, written lap by lap
module _ (s : List ℕ) (both : Bool) (k : ℕ) (new next : Lap) where
  pub swap_begin : (out : List ℕ) (l : ℕ) → 1 ≤ k → l ≡ lap_count s → file_size l (command_count (swap_both both k new next (laps_of s))) ≤ length out
      → Going out out l 0 (8 + 8 * l) (both_from both k new next (0 + 1) (laps_of s)) (swap_both both k new next (laps_of s))
  swap_begin out l b e h = rw (both_is both k new next (laps_of s) b) (begin out l (swap_both both k new next (laps_of s)) h)

  -- x is what lap number j + 1 becomes
  pub swap_turn : (out₀ out : List ℕ) (l j to : ℕ) (x y : Lap) (all : List Lap) → j < lap_count s → y ≡ get_or (laps_of s) j [] → x ≡ chosen both k new next (j + 1) y
      → Going out₀ out l j to (both_from both k new next (j + 1) (drop j (laps_of s))) all
      → Going out₀ out l j to (x ∷ both_from both k new next (j + 1 + 1) (drop (j + 1) (laps_of s))) all
  swap_turn out₀ out l j to x y all h e f g = let n = length_laps_of s in rw f (rw (both_cons both k new next (laps_of s) j y (omega arith) e) at g)

  pub swap-done : (out₀ out out' : List ℕ) (l j to : ℕ) → EachFull new → EachFull next → l ≡ lap_count s → l ≤ j → table_ok s ≡ true → out ≡ sets out₀ 0 (mark ++ u32_bytes l)
      → Going out out' l j to (both_from both k new next (j + 1) (drop j (laps_of s))) (swap_both both k new next (laps_of s))
      → (to ≡ length (encode (swap_both both k new next (laps_of s)))) × (out' ≡ encode (swap_both both k new next (laps_of s)) ++ drop (length (encode (swap_both both k new next (laps_of s)))) out₀)
  unfolding both_from
  swap-done out₀ out out' l j to w v e h t q g =
      let n = length_laps_of s in
      done out₀ out out' l j to (swap_both both k new next (laps_of s)) (rw (laps_over (laps_of s) j (omega arith)) at g)
      (e ∙ sym (length_laps_of s) ∙ sym (length_both both k new next (laps_of s))) (wholes_both both k new next (laps_of s) w v (wholes_of s t)) q
