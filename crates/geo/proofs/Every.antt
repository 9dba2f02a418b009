-- Laws of `every_from` in the form in which a loop `for i in 0..e` meets them: e - i indices are left. Assumes nothing.
use Prim.Native.Nat.{ℕ, zero, suc, ◌+◌, ◌-◌, ◌≤◌, ◌<◌}
use mathlib.Core.Path.{◌≡◌, refl, sym, subst, ◌∙◌}
use mathlib.Core.Logic.{⊎_elim}
use mathlib.Core.Bool.{Bool, true, false, not, ◌&&◌, and-true, and-false}
use native.Mathlib.Omega.{arith}
use native.Mathlib.Nat.{eq-or-lt_of_le}
use borrow.Author.Tests.{not-true, not-false}
use Rattle.std.specs.List.{list_all, range_with_len}
use Rattle.floats.proofs.Order.{either, clash}
use Rattle.geo.specs.Domain.{every_from}

module _ (ok : ℕ → Bool) (e : ℕ) (w : Bool) where
  -- b, the test at i, passed
  pub every_step : (i : ℕ) (b : Bool) → i < e → b ≡ ok i → not b ≡ false → every_from ok (e - i) i ≡ w → every_from ok (e - (i + 1)) (i + 1) ≡ w
  unfolding every_from
  every_step i b h q t r =
      let z : e - i ≡ suc (e - (i + 1)) = omega arith in
      let g : ok i ≡ true = sym q ∙ not-false b t in
      sym (rw (z, g)) ∙ r

  -- it failed
  pub every_stop : (i : ℕ) (b : Bool) → i < e → b ≡ ok i → not b ≡ true → every_from ok (e - i) i ≡ w → false ≡ w
  unfolding every_from
  every_stop i b h q t r =
      let z : e - i ≡ suc (e - (i + 1)) = omega arith in
      let g : ok i ≡ false = sym q ∙ not-true b t in
      sym (rw (z, g)) ∙ r

  pub every_start : every_from ok e 0 ≡ w → every_from ok (e - 0) 0 ≡ w
  every_start h = let q : e - 0 ≡ e = omega arith in rw q h

  pub every_done : (i : ℕ) → e ≤ i → every_from ok (e - i) i ≡ w → true ≡ w
  unfolding every_from
  every_done i h r = let q : e - i ≡ 0 = omega arith in sym (rw q) ∙ r

  -- ---- a walk that goes on whatever it meets: what it found so far, and the indices left
  -- the test at i failed, and the finding is false from here on
  pub all_fail : (i : ℕ) (b all : Bool) → i < e → b ≡ ok i → not b ≡ true → (all && every_from ok (e - i) i) ≡ w → false ≡ w
  unfolding every_from
  all_fail i b all h q t r =
      let z : e - i ≡ suc (e - (i + 1)) = omega arith in
      let g : ok i ≡ false = sym q ∙ not-true b t in
      sym (and-false all) ∙ sym (rw (z, g)) ∙ r

  -- it passed, and the finding stays
  pub all_pass : (i : ℕ) (b all : Bool) → i < e → b ≡ ok i → not b ≡ false → (all && every_from ok (e - i) i) ≡ w → (all && every_from ok (e - (i + 1)) (i + 1)) ≡ w
  unfolding every_from
  all_pass i b all h q t r =
      let z : e - i ≡ suc (e - (i + 1)) = omega arith in
      let g : ok i ≡ true = sym q ∙ not-false b t in
      sym (rw (z, g)) ∙ r

  pub all_done : (i : ℕ) (all : Bool) → e ≤ i → (all && every_from ok (e - i) i) ≡ w → all ≡ w
  unfolding every_from
  all_done i all h r = let q : e - i ≡ 0 = omega arith in sym (and-true all) ∙ sym (rw q) ∙ r

-- ---- what holds at each index
pub every_at : (ok : ℕ → Bool) (n i : ℕ) → every_from ok n i ≡ true → (j : ℕ) → i ≤ j → j < i + n → ok j ≡ true
unfolding every_from
every_at ok zero i h j a b = absurd (omega arith)
every_at ok (suc n) i h j a b =
    ⊎_elim
    (λ e. ⊎_elim (λ q. subst (λ (k : ℕ). ok k ≡ true) q e) (λ l. every_at ok n (i + 1) (sym (rw e) ∙ h) j (omega arith) (omega arith)) (eq-or-lt_of_le a))
    (λ e. clash (sym (rw e) ∙ h)) (either (ok i))

pub every_all : (ok : ℕ → Bool) (n i : ℕ) → ((j : ℕ) → i ≤ j → j < i + n → ok j ≡ true) → every_from ok n i ≡ true
unfolding every_from
every_all ok zero i h = refl
every_all ok (suc n) i h = rw (h i (omega arith) (omega arith)) (every_all ok n (i + 1) (λ j a b. h j (omega arith) (omega arith)))

-- ---- `all` along the indices of a range
pub all_every : (ok : ℕ → Bool) (n i : ℕ) → list_all ok (range_with_len i n) ≡ every_from ok n i
unfolding every_from
all_every ok zero i = refl
all_every ok (suc n) i = ⊎_elim (λ h. rw h (all_every ok n (i + 1))) (λ h. rw h refl) (either (ok i))
