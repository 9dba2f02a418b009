-- Laws of the walks along indices, in the form in which a loop `for i in a..e` meets them: e - i are left. Assumes nothing.
use Prim.Native.Nat.{ℕ, zero, suc, ◌+◌, ◌-◌, ◌≤◌, ◌<◌}
use mathlib.Core.Path.{◌≡◌, refl, sym, ap, ◌∙◌}
use mathlib.Core.List.{[], ◌∷◌}
use native.Mathlib.Omega.{arith}
use lib.ListN.{length}
use Rattle.geo.specs.Walk.{fold, list_from}

module _ {A : Type 0} (f : ℕ → A → A) (e : ℕ) where
  fold_step : (i : ℕ) (a : A) → i < e → fold f (e - i) i a ≡ fold f (e - (i + 1)) (i + 1) (f i a)
  unfolding fold
  fold_step i a h = let q : e - i ≡ suc (e - (i + 1)) = omega arith in rw q

  -- a turn: a' is the next state, and the walk that is left has the same end w
  pub fold_turn : (i : ℕ) (a a' w : A) → i < e → a' ≡ f i a → fold f (e - i) i a ≡ w → fold f (e - (i + 1)) (i + 1) a' ≡ w
  fold_turn i a a' w h q r = ap (fold f (e - (i + 1)) (i + 1)) q ∙ sym (fold_step i a h) ∙ r

  pub fold_done : (i : ℕ) (a w : A) → e ≤ i → fold f (e - i) i a ≡ w → a ≡ w
  unfolding fold
  fold_done i a w h r = let q : e - i ≡ 0 = omega arith in sym (rw q) ∙ r

module _ {A : Type 0} (f : ℕ → A) where
  pub list_step : (e i : ℕ) → i < e → list_from f (e - i) i ≡ f i ∷ list_from f (e - (i + 1)) (i + 1)
  unfolding list_from
  list_step e i h = let q : e - i ≡ suc (e - (i + 1)) = omega arith in rw q

  pub list_done : (e i : ℕ) → e ≤ i → list_from f (e - i) i ≡ []
  unfolding list_from
  list_done e i h = let q : e - i ≡ 0 = omega arith in rw q

  pub list_length : (n i : ℕ) → length (list_from f n i) ≡ n
  unfolding list_from
  list_length zero i = refl
  list_length (suc n) i = ap suc (list_length n (i + 1))
