-- Laws of the walks along indices, in the form in which a loop `for i in a..e` meets them: e - i are left. Assumes nothing.
use Prim.Native.Nat.{ℕ, zero, suc, ◌+◌, ◌-◌, ◌*◌, ◌/◌, ◌≤◌, ◌<◌}
use Rattle.std.proofs.Common.{if◌then◌else◌}
use mathlib.Core.Path.{◌≡◌, refl, sym, ap, ◌∙◌}
use mathlib.Core.Bool.{Bool, true, false, ◌&&◌}
use mathlib.Core.List.{List, [], ◌∷◌}
use native.Mathlib.Omega.{arith}
use lib.Dec.{eqb}
use lib.ListN.{length, get_or, set, take, drop, length-set}
use lib.Ieee.{Float, nan}
use lib.Seq.{sets, drop-cons, get_or-drop, take-length}
use Rattle.std.proofs.lemmas.List.{get_or-take, length-drop, length-take-le}
use Rattle.std.specs.Str.{bytes_eq}
use Rattle.geo.specs.Walk.{list_from}
use Rattle.geo.specs.Domain.{every_from}
use Rattle.geo.proofs.Every as every
use Rattle.file.specs.Bytes.{half_at, word_at}
use Rattle.records.specs.Words.{has_pattern, numbers_written, bytes_written}

-- ---- whether something holds at each index, told of the index rather than of a test
module _ (ok : ℕ → Bool) (e : ℕ) (w : Bool) where
  -- it holds at i
  pub every_step : (i : ℕ) → i < e → ok i ≡ true → every_from ok (e - i) i ≡ w → every_from ok (e - (i + 1)) (i + 1) ≡ w
  every_step i h t r = every.every_step ok e w i true h (sym t) refl r

  -- it fails there
  pub every_stop : (i : ℕ) → i < e → ok i ≡ false → every_from ok (e - i) i ≡ w → false ≡ w
  every_stop i h t r = every.every_stop ok e w i false h (sym t) refl r

-- ---- items stored one behind the other
-- i of the n items are stored: what is left, stored from here, gives the whole
pub record Storing {A : Type 0} (f : ℕ → A) (n : ℕ) (l₀ l : List A) (i : ℕ) : Type 0 where
  pub inside : i ≤ n
  pub long : length l ≡ length l₀
  pub rest : sets l i (list_from f (n - i) i) ≡ sets l₀ 0 (list_from f n 0)

module _ {A : Type 0} (f : ℕ → A) (n : ℕ) (l₀ : List A) where
  pub storing_start : Storing f n l₀ l₀ 0
  storing_start = let z : n - 0 ≡ n = omega arith in record { inside = omega arith; long = refl; rest = rw z }

  pub storing_step : (l : List A) (i : ℕ) (x : A) → i < n → x ≡ f i → Storing f n l₀ l i → Storing f n l₀ (set l i x) (i + 1)
  storing_step l i x h e r =
      let z : list_from f (n - i) i ≡ x ∷ list_from f (n - (i + 1)) (i + 1) = unfold list_from in let q : n - i ≡ suc (n - (i + 1)) = omega arith in rw (q, e) in
      let t : i + 1 ≡ suc i = omega arith in
      let s : sets (set l i x) (i + 1) (list_from f (n - (i + 1)) (i + 1)) ≡ sets l i (x ∷ list_from f (n - (i + 1)) (i + 1)) = ap (λ (k : ℕ). sets (set l i x) k (list_from f (n - (i + 1)) (i + 1))) t in
      record { inside = omega arith; long = length-set l i x ∙ r.long; rest = s ∙ sym (ap (sets l i) z) ∙ r.rest }

  pub storing_done : (l : List A) (i : ℕ) → n ≤ i → Storing f n l₀ l i → l ≡ sets l₀ 0 (list_from f n 0)
  storing_done l i h r =
      let z : list_from f (n - i) i ≡ [] = unfold list_from in let q : n - i ≡ 0 = omega arith in rw q in
      sym (ap (sets l i) z) ∙ r.rest

-- ---- bytes compared as two stretches of lists, and one by one
both_if : (x y : Bool) → (x && y) ≡ (if x then y else false)
both_if true y = refl
both_if false y = refl

stretch : (b s : List ℕ) (at n i : ℕ) → i + n ≤ length b → at + (i + n) ≤ length s
    → bytes_eq (take n (drop i b)) (take n (drop (at + i) s)) ≡ every_from (λ k. eqb (get_or b k 0) (get_or s (at + k) 0)) n i
unfolding every_from
stretch b s at zero i h k = refl
stretch b s at (suc n) i h k =
    let e : drop i b ≡ get_or b i 0 ∷ drop (suc i) b = drop-cons b i 0 (omega arith) in
    let f : drop (at + i) s ≡ get_or s (at + i) 0 ∷ drop (suc (at + i)) s = drop-cons s (at + i) 0 (omega arith) in
    let t : suc i ≡ i + 1 = omega arith in
    let u : suc (at + i) ≡ at + (i + 1) = omega arith in
    rw (e, f, t, u) (rw (stretch b s at n (i + 1) (omega arith) (omega arith)) (both_if (eqb (get_or b i 0) (get_or s (at + i) 0)) _))

pub same_bytes : (b s : List ℕ) → length s ≤ length b → bytes_eq (take (length s) b) s ≡ bytes_written s 0 (length s) b
unfolding bytes_written
same_bytes b s h = ap (bytes_eq (take (length s) b)) (sym (take-length s)) ∙ stretch b s 0 (length s) 0 (omega arith) (omega arith)

-- ---- the n words, or bytes, of s from `at` on, as a slice has them
-- what holds at each index by one test does by another that tells the same there
every_same : (f g : ℕ → Bool) (n i : ℕ) → ((j : ℕ) → i ≤ j → j < i + n → f j ≡ g j) → every_from f n i ≡ every_from g n i
unfolding every_from
every_same f g zero i h = refl
every_same f g (suc n) i h = rw (h i (omega arith) (omega arith), every_same f g n (i + 1) (λ j a b. h j (omega arith) (omega arith)))

module _ (s : List ℕ) (at m : ℕ) where
  byte_in : (j : ℕ) → j < m → get_or (take m (drop at s)) j 0 ≡ get_or s (at + j) 0
  byte_in j h = get_or-take m (drop at s) j 0 h ∙ get_or-drop at s j 0

  half_in : (j : ℕ) → j + 4 ≤ m → half_at (take m (drop at s)) j ≡ half_at s (at + j)
  unfolding half_at
  half_in j h =
      let e : at + j + 1 ≡ at + (j + 1) = omega arith in
      let f : at + j + 2 ≡ at + (j + 2) = omega arith in
      let g : at + j + 3 ≡ at + (j + 3) = omega arith in
      rw (e, f, g, byte_in j (omega arith), byte_in (j + 1) (omega arith), byte_in (j + 2) (omega arith), byte_in (j + 3) (omega arith))

  word_in : (j : ℕ) → j + 8 ≤ m → word_at (take m (drop at s)) j ≡ word_at s (at + j)
  unfolding word_at
  word_in j h = let e : at + j + 4 ≡ at + (j + 4) = omega arith in rw (e, half_in j (omega arith), half_in (j + 4) (omega arith))

module _ (s : List ℕ) (at n e : ℕ) where
  pub numbers_there : (out : List Float) → e ≡ at + 8 * n → e ≤ length s
      → numbers_written (take (e - at) (drop at s)) 0 (length (take (e - at) (drop at s)) / 8) out ≡ numbers_written s at n out
  unfolding numbers_written
  numbers_there out h k =
      let z : e - at ≡ 8 * n = omega arith in
      let l : length (take (8 * n) (drop at s)) / 8 ≡ n = let q = length-take-le (8 * n) (drop at s) (rw (length-drop at s) (omega arith)) in omega (arith, q) in
      rw (z, l) (every_same _ _ n 0 (λ j a b. ap (has_pattern (get_or out j nan)) (word_in s at (8 * n) (0 + 8 * j) (omega arith) ∙ ap (word_at s) (omega arith))))

  pub bytes_there : (bytes : List ℕ) → e ≡ at + n → e ≤ length s
      → bytes_written (take (e - at) (drop at s)) 0 (length (take (e - at) (drop at s))) bytes ≡ bytes_written s at n bytes
  unfolding bytes_written
  bytes_there bytes h k =
      let z : e - at ≡ n = omega arith in
      let l : length (take n (drop at s)) ≡ n = length-take-le n (drop at s) (rw (length-drop at s) (omega arith)) in
      rw (z, l) (every_same _ _ n 0 (λ j a b. ap (λ (x : ℕ). eqb (get_or bytes j 0) x) (byte_in s at n (0 + j) (omega arith) ∙ ap (λ (i : ℕ). get_or s i 0) (omega arith))))
