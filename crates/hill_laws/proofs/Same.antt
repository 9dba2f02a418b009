-- Two measures that agree on the points thin them alike. Assumes nothing.
use Prim.Native.Nat.{ℕ, zero, suc, ◌+◌, ◌-◌, ◌≤◌, ◌<◌}
use mathlib.Core.Path.{◌≡◌, refl, sym, ap, ◌∙◌}
use mathlib.Core.Logic.{⊎_elim}
use mathlib.Core.Bool.{false}
use mathlib.Core.List.{List, [], ◌∷◌, ◌++◌, map}
use native.Mathlib.Omega.{arith}
use lib.Ieee.{Float}
use Rattle.floats.specs.Ops.{◌≺◌, +0}
use Rattle.floats.proofs.Order.{either}
use Rattle.farthest.specs.declared.farthest.Farthest.{Farthest}
use Rattle.farthest.specs.Measure.{Measure}
use Rattle.farthest.specs.Farthest.{farther, farthest_of, farthest_in}
use Rattle.simplify.specs.Thin.{cut_at, kept_by, thinned, thinned_points}
use Rattle.simplify.proofs.Kept.{cut_yes, cut_no, cut_inside}

pub farthest_of_same : (f g : ℕ → Float) (n i : ℕ) (best : Farthest) → ((j : ℕ) → i ≤ j → j < i + n → f j ≡ g j) → farthest_of f n i best ≡ farthest_of g n i best
unfolding farthest_of
farthest_of_same f g zero i best h = refl
farthest_of_same f g (suc n) i best h =
    ap (λ (x : Float). farthest_of f n (i + 1) (farther x i best)) (h i (omega arith) (omega arith))
    ∙ farthest_of_same f g n (i + 1) (farther (g i) i best) (λ j a b. h j (omega arith) (omega arith))

module _ {P Q : Type 0} (m : Measure P) (m' : Measure Q) (limit : Float) (pos : (limit ≺ +0) ≡ false) (at : ℕ → P) (at' : ℕ → Q) (n : ℕ)
    (same : (i j k : ℕ) → i < n → j < n → k < n → m (at i) (at j) (at k) ≡ m' (at' i) (at' j) (at' k)) where
  farthest_in_same : (lo hi : ℕ) → lo < n → hi < n → farthest_in m at lo hi ≡ farthest_in m' at' lo hi
  unfolding farthest_in
  farthest_in_same lo hi a b =
      farthest_of_same (λ i. m (at lo) (at hi) (at i)) (λ i. m' (at' lo) (at' hi) (at' i)) (hi - (lo + 1)) (lo + 1) (record { square = +0; index = lo })
      (λ j u v. same lo hi j a b (omega arith))

  kept_by_same : (c lo hi : ℕ) → lo < n → hi < n → kept_by m limit at c lo hi ≡ kept_by m' limit at' c lo hi
  unfolding kept_by
  kept_by_same zero lo hi a b = refl
  kept_by_same (suc c) lo hi a b =
      let w = farthest_in m at lo hi in
      let go : cut_at (kept_by m limit at c) limit lo hi w ≡ cut_at (kept_by m' limit at' c) limit lo hi w =
      ⊎_elim
      (λ h. let r = cut_inside m limit pos at lo hi h in
      let k : w.index < n = omega (arith, r) in
      cut_yes (kept_by m limit at c) limit lo hi w h
      ∙ rw (kept_by_same c lo w.index a k, kept_by_same c w.index hi k b) (sym (cut_yes (kept_by m' limit at' c) limit lo hi w h)))
      (λ h. cut_no (kept_by m limit at c) limit lo hi w h ∙ sym (cut_no (kept_by m' limit at' c) limit lo hi w h)) (either (limit ≺ w.square)) in
      go ∙ ap (cut_at (kept_by m' limit at' c) limit lo hi) (farthest_in_same lo hi a b)

-- Two measures that agree on each three of n points, or of two lists of n points, keep the same indices.
pub thinned-same : {P Q : Type 0} (m : Measure P) (m' : Measure Q) (limit : Float) → (limit ≺ +0) ≡ false → (at : ℕ → P) (at' : ℕ → Q) (n : ℕ)
    → ((i j k : ℕ) → i < n → j < n → k < n → m (at i) (at j) (at k) ≡ m' (at' i) (at' j) (at' k)) → thinned m limit at n ≡ thinned m' limit at' n
unfolding thinned
thinned-same m m' limit pos at at' zero same = refl
thinned-same m m' limit pos at at' (suc zero) same = refl
thinned-same m m' limit pos at at' (suc (suc n)) same =
    ap (λ (ks : List ℕ). 0 ∷ (ks ++ suc n ∷ [])) (kept_by_same m m' limit pos at at' (suc (suc n)) same (suc n - 0) 0 (suc n) (omega arith) (omega arith))

-- and of one list the same points
pub thinned-points-same : {P : Type 0} (m m' : Measure P) (limit : Float) → (limit ≺ +0) ≡ false → (at : ℕ → P) (n : ℕ)
    → ((i j k : ℕ) → i < n → j < n → k < n → m (at i) (at j) (at k) ≡ m' (at i) (at j) (at k)) → thinned_points m limit at n ≡ thinned_points m' limit at n
unfolding thinned_points
thinned-points-same m m' limit pos at n same = ap (map at) (thinned-same m m' limit pos at at n same)
