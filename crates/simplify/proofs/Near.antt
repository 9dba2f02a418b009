-- No point that thinning leaves out lies farther from the chord of its kept neighbours than the limit. Assumes nothing.
use Prim.Native.Nat.{ℕ, zero, suc, ◌+◌, ◌-◌, ◌≤◌, ◌<◌}
use mathlib.Core.Path.{◌≡◌, refl, sym, ◌∙◌, subst}
use mathlib.Core.Logic.{⊎_elim}
use mathlib.Core.Bool.{Bool, true, false}
use mathlib.Core.List.{List, [], ◌∷◌, ◌++◌}
use native.Mathlib.Omega.{arith}
use native.Mathlib.Nat.{eq-or-lt_of_le}
use lib.Ieee.{Float, is_nan, of_bits}
use Rattle.floats.specs.Ops.{◌≺◌, +0}
use Rattle.floats.proofs.Order.{either, clash, lt_or_ge, lt_trans, lt_nan, lt_right}
use Rattle.floats.proofs.Unsigned.{not_above}
use Rattle.farthest.specs.declared.farthest.Farthest.{Farthest}
use Rattle.farthest.specs.Measure.{Measure}
use Rattle.farthest.specs.Farthest.{farthest_in}
use Rattle.farthest.specs.Words.{FirstAbove}
use Rattle.farthest.proofs.First.{distance, found_in}
use Rattle.simplify.specs.Thin.{kept_by}
use Rattle.simplify.specs.Words.{Near, Neighbours}
use Rattle.simplify.proofs.Kept.{cut_yes, cut_no, cut_inside}

-- ---- what is not above a number
not_true : (b : Bool) → (b ≡ true → ⊥) → b ≡ false
not_true b h = ⊎_elim (λ e. absurd (h e)) (λ e. e) (either b)

zero_number : is_nan +0 ≡ false
unfolding is_nan of_bits
zero_number = refl

-- where the first of the greatest is not above the limit, none is
first_not_above : (f : ℕ → Float) (i e : ℕ) (b limit : Float) (w : Farthest) → FirstAbove f i e b w → (limit ≺ w.square) ≡ false
    → (j : ℕ) → i ≤ j → j < e → (limit ≺ f j) ≡ false
first_not_above f i e b limit w r h j p q =
    ⊎_elim
    (λ l. ⊎_elim (λ u. not_true (limit ≺ f j) (λ t. clash (sym h ∙ lt_trans limit (f j) w.square t u))) (λ u. lt_nan limit (f j) u) (r.before j p l))
    (λ l. ⊎_elim (λ z. subst (λ (x : ℕ). (limit ≺ f x) ≡ false) z (subst (λ (x : Float). (limit ≺ x) ≡ false) r.value h))
    (λ g. not_above limit w.square (f j) (lt_right b w.square r.above) h (r.after j g q)) (eq-or-lt_of_le l))
    (lt_or_ge j w.index)

neighbours_append : (R : ℕ → ℕ → Type 0) (a k b : ℕ) (xs ys : List ℕ) → Neighbours R a xs k → Neighbours R k ys b → Neighbours R a (xs ++ k ∷ ys) b
neighbours_append R a k b [] ys p q = (p, q)
neighbours_append R a k b (x ∷ xs) ys p q = (p.0, neighbours_append R x k b xs ys p.1 q)

module _ {P : Type 0} (m : Measure P) (limit : Float) (pos : (limit ≺ +0) ≡ false) (at : ℕ → P) where
  -- a range that is not cut
  uncut-near : (lo hi : ℕ) → (limit ≺ (farthest_in m at lo hi).square) ≡ false → Near m limit at lo hi
  uncut-near lo hi h i p q =
      ⊎_elim (λ z. not_above limit +0 (distance m at lo hi i) zero_number pos (z.1 i (omega arith) q))
      (λ r. first_not_above (distance m at lo hi) (lo + 1) hi +0 limit (farthest_in m at lo hi) r h i (omega arith) q) (found_in m at lo hi)

  pub kept_near : (n lo hi : ℕ) → hi - lo ≤ n → Neighbours (Near m limit at) lo (kept_by m limit at n lo hi) hi
  unfolding kept_by
  kept_near zero lo hi h = λ i p q. absurd (omega arith)
  kept_near (suc n) lo hi h =
      let w = farthest_in m at lo hi in
      ⊎_elim
      (λ t. let r = cut_inside m limit pos at lo hi t in
      rw (cut_yes (kept_by m limit at n) limit lo hi w t)
      (neighbours_append (Near m limit at) lo w.index hi (kept_by m limit at n lo w.index) (kept_by m limit at n w.index hi)
      (kept_near n lo w.index (omega (arith, r))) (kept_near n w.index hi (omega (arith, r)))))
      (λ t. rw (cut_no (kept_by m limit at n) limit lo hi w t) (uncut-near lo hi t)) (either (limit ≺ w.square))
