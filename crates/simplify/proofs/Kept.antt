-- What thinning keeps between two points, by one cut; over any measure. Assumes nothing.
use Prim.Native.Nat.{ℕ, zero, suc, ◌+◌, ◌-◌, ◌≤◌, ◌<◌}
use mathlib.Core.Path.{◌≡◌, refl, sym, ap, ◌∙◌, subst}
use mathlib.Core.Logic.{⊎_elim}
use mathlib.Core.Bool.{true, false}
use mathlib.Core.List.{List, [], ◌∷◌, ◌++◌}
use native.Mathlib.Omega.{arith}
use lib.Ieee.{Float}
use Rattle.floats.specs.Ops.{◌≺◌, +0}
use Rattle.floats.proofs.Order.{either, clash}
use Rattle.farthest.specs.declared.farthest.Farthest.{Farthest}
use Rattle.farthest.specs.Measure.{Measure}
use Rattle.farthest.specs.Farthest.{farthest_in}
use Rattle.farthest.specs.Words.{FirstAbove}
use Rattle.farthest.proofs.First.{distance, found_in}
use Rattle.simplify.specs.Thin.{cut_at, kept_by, kept_in, thinned}
use Rattle.simplify.specs.Words.{Ascending}

-- the two cases of a cut
pub cut_yes : (inside : ℕ → ℕ → List ℕ) (limit : Float) (lo hi : ℕ) (w : Farthest) → (limit ≺ w.square) ≡ true
    → cut_at inside limit lo hi w ≡ inside lo w.index ++ w.index ∷ inside w.index hi
cut_yes inside limit lo hi w h = rw h

pub cut_no : (inside : ℕ → ℕ → List ℕ) (limit : Float) (lo hi : ℕ) (w : Farthest) → (limit ≺ w.square) ≡ false → cut_at inside limit lo hi w ≡ []
cut_no inside limit lo hi w h = rw h

-- `pos`: the limit is not below zero, as a square is not
module _ {P : Type 0} (m : Measure P) (limit : Float) (pos : (limit ≺ +0) ≡ false) (at : ℕ → P) where
  -- a range that is cut is cut at its first farthest point
  pub cut-first : (lo hi : ℕ) → (limit ≺ (farthest_in m at lo hi).square) ≡ true → FirstAbove (distance m at lo hi) (lo + 1) hi +0 (farthest_in m at lo hi)
  cut-first lo hi h =
      ⊎_elim (λ z. clash (sym pos ∙ subst (λ (w : Farthest). (limit ≺ w.square) ≡ true) z.0 h)) (λ r. r) (found_in m at lo hi)

  -- strictly inside
  pub cut_inside : (lo hi : ℕ) → (limit ≺ (farthest_in m at lo hi).square) ≡ true
      → (lo < (farthest_in m at lo hi).index) × ((farthest_in m at lo hi).index < hi)
  cut_inside lo hi h = let r = cut-first lo hi h in omega (arith, r.from, r.to)

  -- a range without a point inside is not cut
  pub no_cut : (lo hi : ℕ) → hi - lo ≤ 1 → (limit ≺ (farthest_in m at lo hi).square) ≡ false
  no_cut lo hi h = ⊎_elim (λ e. let r = cut_inside lo hi e in absurd (omega (arith, r))) (λ e. e) (either (limit ≺ (farthest_in m at lo hi).square))

  -- two ways to go on that agree on each shorter range give the same
  cut-same : (f g : ℕ → ℕ → List ℕ) (lo hi : ℕ) → ((a b : ℕ) → b - a < hi - lo → f a b ≡ g a b)
      → cut_at f limit lo hi (farthest_in m at lo hi) ≡ cut_at g limit lo hi (farthest_in m at lo hi)
  cut-same f g lo hi e =
      let w = farthest_in m at lo hi in
      ⊎_elim
      (λ h. let r = cut_inside lo hi h in
      cut_yes f limit lo hi w h ∙ rw (e lo w.index (omega (arith, r)), e w.index hi (omega (arith, r))) (sym (cut_yes g limit lo hi w h)))
      (λ h. cut_no f limit lo hi w h ∙ sym (cut_no g limit lo hi w h)) (either (limit ≺ w.square))

  -- how many cuts are allowed does not matter, once they are enough
  kept_enough : (n k lo hi : ℕ) → hi - lo ≤ n → hi - lo ≤ k → kept_by m limit at n lo hi ≡ kept_by m limit at k lo hi
  unfolding kept_by
  kept_enough zero zero lo hi p q = refl
  kept_enough zero (suc k) lo hi p q = sym (cut_no (kept_by m limit at k) limit lo hi (farthest_in m at lo hi) (no_cut lo hi (omega arith)))
  kept_enough (suc n) zero lo hi p q = cut_no (kept_by m limit at n) limit lo hi (farthest_in m at lo hi) (no_cut lo hi (omega arith))
  kept_enough (suc n) (suc k) lo hi p q =
      cut-same (kept_by m limit at n) (kept_by m limit at k) lo hi (λ a b h. kept_enough n k a b (omega arith) (omega arith))

  -- what is kept of a range is what one cut and the two ranges beside it give
  pub kept-cut : (lo hi : ℕ) → kept_in m limit at lo hi ≡ cut_at (kept_in m limit at) limit lo hi (farthest_in m at lo hi)
  unfolding kept_by
  kept-cut lo hi =
      kept_enough (hi - lo) (suc (hi - lo)) lo hi (omega arith) (omega arith)
      ∙ cut-same (kept_by m limit at (hi - lo)) (kept_in m limit at) lo hi (λ a b h. kept_enough (hi - lo) (b - a) a b (omega arith) (omega arith))

  -- w is what the search found in the range
  module _ (lo hi : ℕ) (w : Farthest) (e : w ≡ farthest_in m at lo hi) where
    pub found_inside : (limit ≺ w.square) ≡ true → (lo < w.index) × (w.index < hi)
    found_inside = rw e (cut_inside lo hi)

    pub kept_yes : (limit ≺ w.square) ≡ true
        → kept_in m limit at lo hi ≡ kept_in m limit at lo w.index ++ w.index ∷ kept_in m limit at w.index hi
    kept_yes t = kept-cut lo hi ∙ ap (cut_at (kept_in m limit at) limit lo hi) (sym e) ∙ cut_yes (kept_in m limit at) limit lo hi w t

    pub kept_no : (limit ≺ w.square) ≡ false → kept_in m limit at lo hi ≡ []
    kept_no t = kept-cut lo hi ∙ ap (cut_at (kept_in m limit at) limit lo hi) (sym e) ∙ cut_no (kept_in m limit at) limit lo hi w t

-- ---- what is kept ascends
pub ascending_append : (i e k : ℕ) (xs ys : List ℕ) → Ascending i k xs → i ≤ k → k < e → Ascending (k + 1) e ys → Ascending i e (xs ++ k ∷ ys)
ascending_append i e k [] ys a h l b = (h, l, b)
ascending_append i e k (x ∷ xs) ys a h l b = (a.0, omega (arith, a.1), ascending_append (x + 1) e k xs ys a.2 (omega (arith, a.1)) l b)

module _ {P : Type 0} (m : Measure P) (limit : Float) (pos : (limit ≺ +0) ≡ false) (at : ℕ → P) where
  pub kept-ascending : (n lo hi : ℕ) → Ascending (lo + 1) hi (kept_by m limit at n lo hi)
  unfolding kept_by
  kept-ascending zero lo hi = tt
  kept-ascending (suc n) lo hi =
      let w = farthest_in m at lo hi in
      ⊎_elim
      (λ h. let r = cut_inside m limit pos at lo hi h in
      rw (cut_yes (kept_by m limit at n) limit lo hi w h)
      (ascending_append (lo + 1) hi w.index (kept_by m limit at n lo w.index) (kept_by m limit at n w.index hi) (kept-ascending n lo w.index)
      (omega (arith, r)) r.1 (kept-ascending n w.index hi)))
      (λ h. rw (cut_no (kept_by m limit at n) limit lo hi w h) tt) (either (limit ≺ w.square))

  pub thinned-ascending : (n : ℕ) → Ascending 0 n (thinned m limit at n)
  unfolding thinned
  thinned-ascending zero = tt
  thinned-ascending (suc zero) = (omega arith, omega arith, tt)
  thinned-ascending (suc (suc n)) = (
    omega arith,
    omega arith,
    ascending_append 1 (suc (suc n)) (suc n) (kept_in m limit at 0 (suc n)) [] (kept-ascending (suc n - 0) 0 (suc n)) (omega arith) (omega arith) tt,
  )
