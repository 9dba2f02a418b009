-- A curve halved, by the tests that the code makes: where it stops, where it goes on, and that it has at most 2 ^ depth parts. Assumes nothing.
use Rattle.std.proofs.Common.{◌≡◌, ℕ, zero, suc, ◌-◌, ◌*◌, ◌^◌, ◌≤◌, Bool, true, false, cond, List, [], ◌∷◌, ◌++◌, length, sym, ap, ◌∙◌, subst, le_trans, mul-le-mul_left, mul_comm, le-mul_of_pos_right, arith}
use native.Mathlib.Nat.{pow-succ'}
use lib.Pow.{pow_pos}
use lib.ListN.{length-append}
use lib.Ieee.{Float}
use Rattle.geo.specs.declared.types.CubicBezier.{CubicBezier}
use Rattle.geo.specs.Outcome.{Placed}
use Rattle.bezier.specs.declared.bezier.Halves.{Halves}
use Rattle.subdivision.specs.Flatten.{parts}

-- one end, or the ends of two halves
fewer : {A : Type 0} (d : ℕ) (b : Bool) (x : A) (xs ys : List A) → length xs ≤ 2 ^ d → length ys ≤ 2 ^ d → length (cond b (x ∷ []) (xs ++ ys)) ≤ 2 ^ suc d
fewer d true x xs ys h g = let p = pow_pos (suc d) in omega arith
fewer d false x xs ys h g = let p = pow-succ' 2 d in omega (arith, length-append xs ys)

-- what a depth that is not 0 is the next of
next : (d : ℕ) → (d ≡ 0 → ⊥) → d ≡ suc (d - 1)
next d h = omega arith

-- a level less of depth is half as many ends
pub half_power : (d : ℕ) → (d ≡ 0 → ⊥) → 2 ^ d ≡ 2 * 2 ^ (d - 1)
half_power d some = ap (λ (k : ℕ). 2 ^ k) (next d some) ∙ pow-succ' 2 (d - 1)

-- where m items have room, k of them have
pub room : (width k m : ℕ) (size : ℕ) → width * m ≤ size → k ≤ m → width * k ≤ size
room width k m size h g = le_trans (mul-le-mul_left width g) h

-- a place is no greater than the numbers before it are many
pub place : (width k size : ℕ) → 1 ≤ width → width * k ≤ size → k ≤ size
place width k size w h = let e = mul_comm width k in let g : k ≤ k * width = le-mul_of_pos_right k w in omega arith

module _ {P : Type 0} (flat : CubicBezier P → Float → Bool) (halved : CubicBezier P → Halves P) where
  pub parts_length : (d : ℕ) (limit : Float) (q : CubicBezier P) → length (parts flat halved d limit q) ≤ 2 ^ d
  unfolding parts
  parts_length zero limit q = omega arith
  parts_length (suc d) limit q = let h = halved q in
      fewer d (flat q limit) q.3 (parts flat halved d limit h.left) (parts flat halved d limit h.right) (parts_length d limit h.left) (parts_length d limit h.right)

  -- of what a call answered
  pub parts-few : (d : ℕ) (limit : Float) (q : CubicBezier P) {lay : P → List Float} {width at n : ℕ} {out out' : List Float} → Placed lay width (parts flat halved d limit q) at n out out' → n ≤ 2 ^ d
  parts-few d limit q p = subst (λ (k : ℕ). k ≤ 2 ^ d) (sym p.count) (parts_length d limit q)

  module _ (d : ℕ) (limit : Float) (q : CubicBezier P) where
    pub parts-end : d ≡ 0 → parts flat halved d limit q ≡ q.3 ∷ []
    unfolding parts
    parts-end h = rw h

    pub parts-flat : (d ≡ 0 → ⊥) → (b : Bool) → b ≡ flat q limit → b ≡ true → parts flat halved d limit q ≡ q.3 ∷ []
    unfolding parts
    parts-flat some b e t = let h : flat q limit ≡ true = sym e ∙ t in ap (λ (k : ℕ). parts flat halved k limit q) (next d some) ∙ rw h

    pub parts_halves : (d ≡ 0 → ⊥) → (b : Bool) (h : Halves P) → b ≡ flat q limit → b ≡ false → h ≡ halved q
        → parts flat halved d limit q ≡ parts flat halved (d - 1) limit h.left ++ parts flat halved (d - 1) limit h.right
    unfolding parts
    parts_halves some b h e t eh =
        let f : flat q limit ≡ false = sym e ∙ t in
        ap (λ (k : ℕ). parts flat halved k limit q) (next d some) ∙ rw (f, eh)
