-- Runs of stores: one behind the other is one run. Assumes nothing.
use Prim.Native.Nat.{ℕ, suc, ◌+◌, ◌≤◌, ◌<◌}
use mathlib.Core.Path.{◌≡◌, refl, sym, ap, ◌∙◌}
use mathlib.Core.List.{List, [], ◌∷◌, ◌++◌}
use native.Mathlib.Nat.{add-zero, zero-add}
use native.Mathlib.Omega.{arith}
use lib.ListN.{length, set, take, drop, length-append}
use lib.Seq.{sets, sets-eq, set_comm}

module _ {A : Type 0} where
  pub two : (l : List A) (b : ℕ) (x y : A) → set (set l b x) (b + 1) y ≡ sets l b (x ∷ y ∷ [])
  two l b x y = let e : b + 1 ≡ suc b = omega arith in rw e

  pub three : (l : List A) (b : ℕ) (x y z : A) → set (set (set l b x) (b + 1) y) (b + 2) z ≡ sets l b (x ∷ y ∷ z ∷ [])
  three l b x y z =
      let e : b + 1 ≡ suc b = omega arith in
      let f : b + 2 ≡ suc (suc b) = omega arith in rw (e, f)

  -- a store before a run may come first
  pub set_before : (vs l : List A) (i j : ℕ) (x : A) → j < i → set (sets l i vs) j x ≡ sets (set l j x) i vs
  set_before [] l i j x h = refl
  set_before (v ∷ vs) l i j x h =
      set_before vs (set l i v) (suc i) j x (omega arith) ∙ ap (λ (k : List A). sets k (suc i) vs) (set_comm l i j v x (λ e. omega (arith, e)))

  -- a run, and another behind it
  pub sets_append : (xs ys l : List A) (i : ℕ) → sets l i (xs ++ ys) ≡ sets (sets l i xs) (i + length xs) ys
  sets_append [] ys l i = rw (add-zero i)
  sets_append (x ∷ xs) ys l i = sets_append xs ys (set l i x) (suc i) ∙ let e : suc i + length xs ≡ i + suc (length xs) = omega arith in rw e

  -- three runs of n each
  pub thrice : (n : ℕ) (xs ys zs l l₁ l₂ l₃ : List A) (b : ℕ) → length xs ≡ n → length ys ≡ n → l₁ ≡ sets l b xs → l₂ ≡ sets l₁ (b + n) ys
      → l₃ ≡ sets l₂ (b + (n + n)) zs → l₃ ≡ sets l b (xs ++ ys ++ zs)
  thrice n xs ys zs l l₁ l₂ l₃ b hx hy e₁ e₂ e₃ =
      let p : b + length xs ≡ b + n = omega arith in
      let q : b + length (xs ++ ys) ≡ b + (n + n) = omega (arith, length-append xs ys) in
      let h : l₂ ≡ sets l b (xs ++ ys) = e₂ ∙ rw e₁ (sym (sets_append xs ys l b ∙ rw p)) in
      e₃ ∙ sym (sets_append (xs ++ ys) zs l b ∙ rw (q, h))

  -- from the front on: the run, and then what stood there
  pub sets_front : (vs l : List A) → length vs ≤ length l → sets l 0 vs ≡ vs ++ drop (length vs) l
  sets_front vs l h = sets-eq vs l 0 (rw zero-add h) ∙ rw (zero-add (length vs))

  -- of a list in two parts, the first is its front
  pub take_front : (vs ws : List A) → take (length vs) (vs ++ ws) ≡ vs
  take_front [] ws = refl
  take_front (v ∷ vs) ws = ap (λ (l : List A). v ∷ l) (take_front vs ws)
