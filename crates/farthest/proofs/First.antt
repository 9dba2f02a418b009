-- What the search for the farthest point finds: the first of the greatest, and nothing else. Assumes nothing.
use Prim.Native.Nat.{ℕ, zero, suc, ◌+◌, ◌-◌, ◌≤◌, ◌<◌}
use mathlib.Core.Path.{◌≡◌, refl, sym, ap, ◌∙◌, subst}
use mathlib.Core.Logic.{◌⊎◌, inl, inr, ⊎_elim}
use mathlib.Core.Bool.{true, false}
use native.Mathlib.Omega.{arith}
use native.Mathlib.Nat.{eq-or-lt_of_le}
use lib.Ieee.{Float, is_nan}
use Rattle.floats.specs.Ops.{◌≺◌, +0}
use Rattle.floats.proofs.Order.{either, clash, lt_or_ge, lt_gap, lt_trans, lt_right}
use Rattle.farthest.specs.declared.farthest.Farthest.{Farthest}
use Rattle.farthest.specs.Measure.{Measure}
use Rattle.farthest.specs.Farthest.{farther, farthest_of, farthest_in}
use Rattle.farthest.specs.Words.{NoneAbove, FirstAbove}

-- ---- one look
pub farther_yes : (d : Float) (i : ℕ) (best : Farthest) → (best.square ≺ d) ≡ true → farther d i best ≡ record { square = d; index = i }
unfolding farther
farther_yes d i best h = rw h

pub farther_no : (d : Float) (i : ℕ) (best : Farthest) → (best.square ≺ d) ≡ false → farther d i best ≡ best
unfolding farther
farther_no d i best h = rw h

-- what is not above b, while d is: it is below d, or no number
skipped : (b x d : Float) → (b ≺ x) ≡ false → (b ≺ d) ≡ true → ((x ≺ d) ≡ true) ⊎ (is_nan x ≡ true)
skipped b x d p q = ⊎_elim inr (λ n. ⊎_elim (λ z. clash (sym p ∙ z)) inl (lt_gap b x d n q)) (either (is_nan x))

-- ---- the first of the greatest, one point more in front
module _ (f : ℕ → Float) (i e : ℕ) (b : Float) where
  first-here : i < e → (b ≺ f i) ≡ true → NoneAbove f (i + 1) e (f i) → FirstAbove f i e b (record { square = f i; index = i })
  first-here h t a =
      record { from = omega arith; to = h; value = refl; above = t; before = λ j p q. absurd (omega arith); after = λ j p q. a j (omega arith) q }

  first-later : (w : Farthest) → (b ≺ f i) ≡ true → FirstAbove f (i + 1) e (f i) w → FirstAbove f i e b w
  first-later w t r =
      record {
        from = omega (arith, r.from);
        to = r.to;
        value = r.value;
        above = lt_trans b (f i) w.square t r.above;
        before = λ j p q. ⊎_elim (λ z. inl (subst (λ (x : ℕ). (f x ≺ w.square) ≡ true) z r.above)) (λ l. r.before j (omega arith) q) (eq-or-lt_of_le p);
        after = r.after;
      }

  first_skip : (w : Farthest) → (b ≺ f i) ≡ false → FirstAbove f (i + 1) e b w → FirstAbove f i e b w
  first_skip w t r =
      record {
        from = omega (arith, r.from);
        to = r.to;
        value = r.value;
        above = r.above;
        before = λ j p q.
            ⊎_elim (λ z. subst (λ (x : ℕ). ((f x ≺ w.square) ≡ true) ⊎ (is_nan (f x) ≡ true)) z (skipped b (f i) w.square t r.above))
            (λ l. r.before j (omega arith) q) (eq-or-lt_of_le p);
        after = r.after;
      }

  none_more : (b ≺ f i) ≡ false → NoneAbove f (i + 1) e b → NoneAbove f i e b
  none_more t a j p q = ⊎_elim (λ z. subst (λ (x : ℕ). (b ≺ f x) ≡ false) z t) (λ l. a j (omega arith) q) (eq-or-lt_of_le p)

-- the search stays where it was, or finds the first of the greatest
pub found : (f : ℕ → Float) (n i e : ℕ) (best : Farthest) → e ≡ i + n
    → ((farthest_of f n i best ≡ best) × NoneAbove f i e best.square) ⊎ FirstAbove f i e best.square (farthest_of f n i best)
unfolding farthest_of
found f zero i e best q = inl (refl, λ j p l. absurd (omega arith))
found f (suc n) i e best q =
    ⊎_elim
    (λ t. rw (farther_yes (f i) i best t)
    (⊎_elim (λ r. inr (rw r.0 (first-here f i e best.square (omega arith) t r.1)))
    (λ r. inr (first-later f i e best.square (farthest_of f n (i + 1) (record { square = f i; index = i })) t r))
    (found f n (i + 1) e (record { square = f i; index = i }) (omega arith))))
    (λ t. rw (farther_no (f i) i best t)
    (⊎_elim (λ r. inl (r.0, none_more f i e best.square t r.1))
    (λ r. inr (first_skip f i e best.square (farthest_of f n (i + 1) best) t r)) (found f n (i + 1) e best (omega arith))))
    (either (best.square ≺ f i))

-- ---- only one is the first of the greatest
stays : (f : ℕ → Float) (n i e : ℕ) (best : Farthest) → e ≡ i + n → NoneAbove f i e best.square → farthest_of f n i best ≡ best
unfolding farthest_of
stays f zero i e best q a = refl
stays f (suc n) i e best q a =
    rw (farther_no (f i) i best (a i (omega arith) (omega arith))) (stays f n (i + 1) e best (omega arith) (λ j p l. a j (omega arith) l))

rest-first : (f : ℕ → Float) (i e : ℕ) (b x d : Float) (k : ℕ) → FirstAbove f i e b (record { square = d; index = k }) → i < k → (x ≺ d) ≡ true
    → FirstAbove f (i + 1) e x (record { square = d; index = k })
rest-first f i e b x d k r l t =
    record { from = omega arith; to = r.to; value = r.value; above = t; before = λ j p u. r.before j (omega arith) u; after = r.after }

first_at : (f : ℕ → Float) (i e : ℕ) (b d : Float) (k : ℕ) → i ≡ k → FirstAbove f i e b (record { square = d; index = k })
    → ((b ≺ f i) ≡ true) × NoneAbove f (i + 1) e (f i) × ◌≡◌ {A = Farthest} (record { square = f i; index = i }) (record { square = d; index = k })
first_at f i e b d k z r =
    let v : f i ≡ d = ap f z ∙ sym r.value in (
      subst (λ (x : Float). (b ≺ x) ≡ true) (sym v) r.above,
      λ j p l. subst (λ (x : Float). (x ≺ f j) ≡ false) (sym v) (r.after j (omega arith) l),
      ap {B = Farthest} (λ (x : ℕ). record { square = f i; index = x }) z ∙ ap {B = Farthest} (λ (x : Float). record { square = x; index = k }) v,
    )

unique : (f : ℕ → Float) (n i e : ℕ) (best : Farthest) (d : Float) (k : ℕ) → e ≡ i + n → FirstAbove f i e best.square (record { square = d; index = k })
    → farthest_of f n i best ≡ record { square = d; index = k }
unfolding farthest_of
unique f zero i e best d k q r = absurd (omega (arith, r.from, r.to))
unique f (suc n) i e best d k q r =
    let q' : e ≡ i + 1 + n = omega arith in
    ⊎_elim
    (λ z. let a = first_at f i e best.square d k z r in
    ap (farthest_of f n (i + 1)) (farther_yes (f i) i best a.0) ∙ stays f n (i + 1) e (record { square = f i; index = i }) q' a.1 ∙ a.2)
    (λ l. ⊎_elim
    (λ t. ap (farthest_of f n (i + 1)) (farther_yes (f i) i best t)
    ∙ unique f n (i + 1) e (record { square = f i; index = i }) d k q'
    (rest-first f i e best.square (f i) d k r l
    (⊎_elim (λ u. u) (λ u. clash (sym (lt_right best.square (f i) t) ∙ u)) (r.before i (omega arith) l))))
    (λ t. ap (farthest_of f n (i + 1)) (farther_no (f i) i best t)
    ∙ unique f n (i + 1) e best d k q' (rest-first f i e best.square best.square d k r l r.above))
    (either (best.square ≺ f i)))
    (eq-or-lt_of_le r.from)

-- ---- of a range
abbrev pub distance : {P : Type 0} → Measure P → (ℕ → P) → ℕ → ℕ → ℕ → Float
distance m at lo hi i = m (at lo) (at hi) (at i)

module _ {P : Type 0} (m : Measure P) (at : ℕ → P) (lo hi : ℕ) where
  -- a range without a point inside
  empty : hi ≤ lo + 1 → farthest_in m at lo hi ≡ record { square = +0; index = lo }
  unfolding farthest_in farthest_of
  empty h = let z : hi - (lo + 1) ≡ 0 = omega arith in rw z

  pub found_in : ((farthest_in m at lo hi ≡ record { square = +0; index = lo }) × NoneAbove (distance m at lo hi) (lo + 1) hi +0)
      ⊎ FirstAbove (distance m at lo hi) (lo + 1) hi +0 (farthest_in m at lo hi)
  unfolding farthest_in
  found_in =
      ⊎_elim (λ h. found (distance m at lo hi) (hi - (lo + 1)) (lo + 1) hi (record { square = +0; index = lo }) (omega arith))
      (λ h. inl (empty h, λ j p q. absurd (omega arith))) (lt_or_ge (lo + 1) hi)

  pub unique_in : (d : Float) (k : ℕ) → FirstAbove (distance m at lo hi) (lo + 1) hi +0 (record { square = d; index = k })
      → farthest_in m at lo hi ≡ record { square = d; index = k }
  unfolding farthest_in
  unique_in d k r =
      unique (distance m at lo hi) (hi - (lo + 1)) (lo + 1) hi (record { square = +0; index = lo }) d k (omega (arith, r.from, r.to)) r

-- ---- the law alone
-- The search finds the first farthest point strictly between lo and hi, or +0 at lo where no point lies off the chord.
pub first_farthest : {P : Type 0} (m : Measure P) (at : ℕ → P) (lo hi : ℕ)
    → ((farthest_in m at lo hi ≡ record { square = +0; index = lo }) × NoneAbove (λ i. m (at lo) (at hi) (at i)) (lo + 1) hi +0)
    ⊎ FirstAbove (λ i. m (at lo) (at hi) (at i)) (lo + 1) hi +0 (farthest_in m at lo hi)
first_farthest m at lo hi = found_in m at lo hi
