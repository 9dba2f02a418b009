-- A loop that writes item after item from a place on. Assumes nothing.
use Rattle.std.proofs.Common.{◌≡◌, ℕ, ◌+◌, ◌-◌, ◌*◌, ◌<◌, ◌≤◌, List, length, sym, refl, ap, ◌∙◌, mul-one, mul-add, arith}
use lib.Seq.{sets, length-sets}
use Rattle.geo.specs.Walk.{list_from}
use Rattle.geo.specs.Lent.{flat}
use Rattle.geo.proofs.Walk.{list_step, list_done}
use Rattle.geo.proofs.Stores.{sets_append}

module _ {A B : Type 0} (f : A → List B) (width : ℕ) (same : (x : A) → length (f x) ≡ width) where
  -- Where the loop stands that writes `items i` at place at + i, up to n items: what is left to write, written from here, gives the whole.
  pub record WritingAt (items : ℕ → A) (n at : ℕ) (out₀ out : List B) (i : ℕ) : Type 0 where
    pub long : length out ≡ length out₀
    pub rest : sets out (width * (at + i)) (flat f (list_from items (n - i) i)) ≡ sets out₀ (width * at) (flat f (list_from items n 0))

  module _ (items : ℕ → A) (n at : ℕ) (out₀ : List B) where
    pub writing_at_start : WritingAt items n at out₀ out₀ 0
    writing_at_start = let q : n - 0 ≡ n = omega arith in let z : at + 0 ≡ at = omega arith in record { long = refl; rest = rw (z, q) }

    pub writing_at_step : (out out' : List B) (i : ℕ) → WritingAt items n at out₀ out i → i < n → out' ≡ sets out (width * (at + i)) (f (items i)) → WritingAt items n at out₀ out' (i + 1)
    unfolding flat
    writing_at_step out out' i w h e =
        let k : width * (at + i) + length (f (items i)) ≡ width * (at + (i + 1)) = let a = same (items i) in let b = mul-add width (at + i) 1 in let c = mul-one width in let d : at + (i + 1) ≡ at + i + 1 = omega arith in rw d (omega arith) in
        record {
          long = ap length e ∙ length-sets out (width * (at + i)) (f (items i)) ∙ w.long;
          rest =
              ap (λ (l : List B). sets l (width * (at + (i + 1))) (flat f (list_from items (n - (i + 1)) (i + 1)))) e
              ∙ sym (ap (λ (l : List A). sets out (width * (at + i)) (flat f l)) (list_step items n i h)
              ∙ sets_append (f (items i)) (flat f (list_from items (n - (i + 1)) (i + 1))) out (width * (at + i)) ∙ rw k)
              ∙ w.rest;
        }

    pub writing_at_done : (out : List B) (i : ℕ) → WritingAt items n at out₀ out i → n ≤ i → out ≡ sets out₀ (width * at) (flat f (list_from items n 0))
    unfolding flat
    writing_at_done out i w h = sym (ap (λ (l : List A). sets out (width * (at + i)) (flat f l)) (list_done items n i h)) ∙ w.rest
