-- The selected items of a track close up to the front, item by item. Assumes nothing.
use Prim.Native.Nat.{ℕ, zero, suc, ◌+◌, ◌≤◌}
use mathlib.Core.Path.{◌≡◌, refl, sym, ap, ◌∙◌, subst}
use mathlib.Core.Logic.{⊎_elim}
use mathlib.Core.Bool.{Bool, true, false, ◌||◌}
use mathlib.Core.List.{List, [], ◌∷◌, ◌++◌, map}
use native.Mathlib.Omega.{arith}
use native.Mathlib.Nat.{add-zero, zero-add}
use lib.ListN.{length, length-append}
use Rattle.floats.proofs.Order.{either}
use Rattle.simplify.specs.Data.{select}

-- one index more
select_last : (p : ℕ → Bool) (n i : ℕ) (ks : List ℕ) → select p 1 (i + n) ≡ ks → select p (suc n) i ≡ select p n i ++ ks
unfolding select
select_last p zero i ks h = rw (add-zero i) at h
select_last p (suc n) i ks h =
    let q : i + 1 + n ≡ i + suc n = omega arith in
    let r = select_last p n (i + 1) ks (rw q h) in
    ⊎_elim (λ t. rw t (ap (λ (l : List ℕ). i ∷ l) r)) (λ t. rw t r) (either (p i))

module _ (p : ℕ → Bool) (i : ℕ) where
  select_take : p i ≡ true → select p (i + 1) 0 ≡ select p i 0 ++ i ∷ []
  unfolding select
  select_take t = let q : i + 1 ≡ suc i = omega arith in rw q (select_last p i 0 (i ∷ []) (rw (zero-add i, t)))

  select_skip : p i ≡ false → select p (i + 1) 0 ≡ select p i 0
  unfolding select
  select_skip t = let q : i + 1 ≡ suc i = omega arith in rw q (select_last p i 0 [] (rw (zero-add i, t)) ∙ nil_right (select p i 0))
    where
      nil_right : (l : List ℕ) → l ++ [] ≡ l
      nil_right [] = refl
      nil_right (y ∷ l) = ap (λ (k : List ℕ). y ∷ k) (nil_right l)

map_last : {A : Type 0} (at : ℕ → A) (ks : List ℕ) (i : ℕ) → map at (ks ++ i ∷ []) ≡ map at ks ++ at i ∷ []
map_last at [] i = refl
map_last at (k ∷ ks) i = ap (λ (l : List _). at k ∷ l) (map_last at ks i)

-- Where the closing up of a track s stands at i, t being what it is by then: what is selected of the items before i is written, and counted.
pub record Closing {P S : Type 0} (Placed : S → List P → S → Type 0) (at : ℕ → P) (p : ℕ → Bool) (s t : S) (count i : ℕ) : Type 0 where
  pub below : count ≤ i
  pub counted : count ≡ length (map at (select p i 0))
  pub placed : Placed s (map at (select p i 0)) t

module _ {P S : Type 0} (Placed : S → List P → S → Type 0) (at : ℕ → P) (p : ℕ → Bool) (s : S) where
  pub closing_start : Placed s [] s → Closing Placed at p s s 0 0
  unfolding select
  closing_start h = record { below = omega arith; counted = refl; placed = h }

  module _ (t t' : S) (count count' i : ℕ) (v : Closing Placed at p s t count i) where
    -- the item at i is selected and written
    pub closing_take : p i ≡ true → Placed s (map at (select p i 0) ++ at i ∷ []) t' → count' ≡ count + 1 → Closing Placed at p s t' count' (i + 1)
    closing_take h w ec =
        let e = ap (map at) (select_take p i h) ∙ map_last at (select p i 0) i in
        record {
          below = omega (arith, v.below);
          counted = omega (arith, v.counted, ap length e, length-append (map at (select p i 0)) (at i ∷ []));
          placed = subst (λ (l : List P). Placed s l t') (sym e) w;
        }

    pub closing_skip : p i ≡ false → t' ≡ t → count' ≡ count → Closing Placed at p s t' count' (i + 1)
    closing_skip h et ec =
        let e = ap (map at) (select_skip p i h) in
        rw (et, ec) record {
          below = omega (arith, v.below);
          counted = v.counted ∙ sym (ap length e);
          placed = subst (λ (l : List P). Placed s l t) (sym e) v.placed;
        }

-- an item is selected where it is always kept, or its flag is set; b is what the code found of the first
pub chosen_always : (a b c : Bool) → a ≡ b → b ≡ true → (a || c) ≡ true
chosen_always a b c e h = rw (e, h)

pub chosen_by_flag : (a b c : Bool) → a ≡ b → b ≡ false → c ≡ true → (a || c) ≡ true
chosen_by_flag a b c e h k = rw (e, h, k)

pub not_chosen : (a b c : Bool) → a ≡ b → b ≡ false → c ≡ false → (a || c) ≡ false
not_chosen a b c e h k = rw (e, h, k)
