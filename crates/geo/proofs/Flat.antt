-- Items laid out one behind the other, `width` numbers each, and loops that write them. Assumes nothing.
use Prim.Native.Nat.{ℕ, ◌+◌, ◌-◌, ◌*◌, ◌≤◌, ◌<◌}
use mathlib.Core.Path.{◌≡◌, refl, sym, ap, ◌∙◌}
use mathlib.Core.List.{List, [], ◌∷◌, ◌++◌, append_assoc}
use native.Mathlib.Nat.{mul-suc, mul-zero, mul-add, mul-one}
use native.Mathlib.Omega.{arith}
use lib.ListN.{length, length-append}
use lib.Seq.{sets, length-sets}
use Rattle.geo.specs.Walk.{list_from}
use Rattle.geo.specs.Lent.{flat}
use Rattle.geo.proofs.Walk.{list_step, list_done}
use Rattle.geo.proofs.Stores.{sets_append}

module _ {A B : Type 0} (f : A → List B) where
  pub flat_append : (xs ys : List A) → flat f (xs ++ ys) ≡ flat f xs ++ flat f ys
  unfolding flat
  flat_append [] ys = refl
  flat_append (x ∷ xs) ys = ap (λ (l : List B). f x ++ l) (flat_append xs ys) ∙ sym (append_assoc (f x) (flat f xs) (flat f ys))

  pub flat-one : (x : A) → flat f (x ∷ []) ≡ f x
  unfolding flat
  flat-one x = nil_right (f x)
    where
      nil_right : (l : List B) → l ++ [] ≡ l
      nil_right [] = refl
      nil_right (y ∷ l) = ap (λ (k : List B). y ∷ k) (nil_right l)

module _ {A B : Type 0} (f : A → List B) (width : ℕ) (same : (x : A) → length (f x) ≡ width) where
  pub flat_length : (xs : List A) → length (flat f xs) ≡ width * length xs
  unfolding flat
  flat_length [] = sym (mul-zero width)
  flat_length (x ∷ xs) = length-append (f x) (flat f xs) ∙ let a = same x in let b = flat_length xs in let c = mul-suc width (length xs) in omega arith

  -- one run of items, and another behind it
  pub sets_flat : (xs ys : List A) (l : List B) (at : ℕ) → sets l (width * at) (flat f (xs ++ ys)) ≡ sets (sets l (width * at) (flat f xs)) (width * (at + length xs)) (flat f ys)
  sets_flat xs ys l at =
      let e : width * at + length (flat f xs) ≡ width * (at + length xs) = let a = flat_length xs in let b = mul-add width at (length xs) in omega arith in
      ap (sets l (width * at)) (flat_append f xs ys) ∙ sets_append (flat f xs) (flat f ys) l (width * at) ∙ rw e

  -- Where a loop stands that writes item after item, `items i` at place i, up to place n: what is left to write, written from here, gives the whole.
  pub record Writing (items : ℕ → A) (n : ℕ) (out₀ out : List B) (i : ℕ) : Type 0 where
    pub long : length out ≡ length out₀
    pub rest : sets out (width * i) (flat f (list_from items (n - i) i)) ≡ sets out₀ 0 (flat f (list_from items n 0))

  module _ (items : ℕ → A) (n : ℕ) (out₀ : List B) where
    pub writing_start : Writing items n out₀ out₀ 0
    writing_start = let q : n - 0 ≡ n = omega arith in record { long = refl; rest = rw (mul-zero width, q) }

    pub writing_step : (out out' : List B) (i : ℕ) → Writing items n out₀ out i → i < n → out' ≡ sets out (width * i) (f (items i)) → Writing items n out₀ out' (i + 1)
    unfolding flat
    writing_step out out' i w h e =
        let k : width * i + length (f (items i)) ≡ width * (i + 1) = let a = same (items i) in let b = mul-add width i 1 in let c = mul-one width in omega arith in
        record {
          long = ap length e ∙ length-sets out (width * i) (f (items i)) ∙ w.long;
          rest =
              ap (λ (l : List B). sets l (width * (i + 1)) (flat f (list_from items (n - (i + 1)) (i + 1)))) e
              ∙ sym (ap (λ (l : List A). sets out (width * i) (flat f l)) (list_step items n i h)
              ∙ sets_append (f (items i)) (flat f (list_from items (n - (i + 1)) (i + 1))) out (width * i) ∙ rw k)
              ∙ w.rest;
        }

    pub writing_done : (out : List B) (i : ℕ) → Writing items n out₀ out i → n ≤ i → out ≡ sets out₀ 0 (flat f (list_from items n 0))
    unfolding flat
    writing_done out i w h = sym (ap (λ (l : List A). sets out (width * i) (flat f l)) (list_done items n i h)) ∙ w.rest
