-- Keep flags: those that a range sets, and the indices read back from them. Assumes nothing.
use Prim.Native.Nat.{ℕ, zero, suc, ◌+◌, ◌-◌, ◌≤◌, ◌<◌}
use mathlib.Core.Path.{◌≡◌, refl, sym, ap, ◌∙◌, subst}
use mathlib.Core.Logic.{⊎_elim}
use mathlib.Core.Bool.{Bool, true, false, ◌||◌}
use mathlib.Core.List.{List, [], ◌∷◌, ◌++◌, map}
use native.Mathlib.Omega.{arith}
use native.Mathlib.Nat.{eq-or-lt_of_le}
use borrow.Author.Tests.{eqb-true, eqb-false, eq-eqb, ne_eqb}
use lib.ListN.{length, get_or, set, replicate, length-set, length-replicate, get_or-replicate}
use lib.Seq.{set-set, get_or-set_same, get_or-set_other}
use lib.Arith.{lt_of_le-ne}
use lib.Dec.{eqb}
use lib.Ieee.{Float}
use Rattle.floats.specs.Ops.{◌≺◌, +0}
use Rattle.floats.proofs.Order.{either, or_true}
use Rattle.geo.specs.declared.types.Command.{Command}
use Rattle.farthest.specs.declared.farthest.Farthest.{Farthest}
use Rattle.farthest.specs.Measure.{Measure}
use Rattle.farthest.specs.Farthest.{farthest_in}
use Rattle.farthest.specs.Ends.{is_move, command_sq}
use Rattle.simplify.specs.Thin.{kept_by, kept_in, thinned, thinned_points}
use Rattle.simplify.specs.Data.{among, select, kept_commands, thinned_commands}
use Rattle.simplify.specs.Flags.{marked}
use Rattle.simplify.specs.Track.{flagged, kept_of, never}
use Rattle.simplify.specs.Words.{Ascending}
use Rattle.simplify.proofs.Kept.{kept_yes, kept_no, thinned-ascending}

marked_append : (xs ys : List ℕ) (l : List Bool) → marked (xs ++ ys) l ≡ marked ys (marked xs l)
unfolding marked
marked_append [] ys l = refl
marked_append (x ∷ xs) ys l = marked_append xs ys (set l x true)

-- the marking of a range, w being what the search found in it: left, cut, right; or nothing
module _ {P : Type 0} (m : Measure P) (limit : Float) (pos : (limit ≺ +0) ≡ false) (at : ℕ → P) (lo hi : ℕ) (w : Farthest) (e : w ≡ farthest_in m at lo hi) (l : List Bool) where
  pub mark-cut : (l₁ l₂ : List Bool) → (limit ≺ w.square) ≡ true → l₁ ≡ marked (kept_in m limit at lo w.index) l
      → l₂ ≡ marked (kept_in m limit at w.index hi) (set l₁ w.index true) → l₂ ≡ marked (kept_in m limit at lo hi) l
  unfolding marked
  mark-cut l₁ l₂ t e₁ e₂ =
      e₂ ∙ rw e₁
      (sym (ap (λ (ks : List ℕ). marked ks l) (kept_yes m limit pos at lo hi w e t)
      ∙ marked_append (kept_in m limit at lo w.index) (w.index ∷ kept_in m limit at w.index hi) l))

  pub mark-none : (limit ≺ w.square) ≡ false → l ≡ marked (kept_in m limit at lo hi) l
  unfolding marked
  mark-none t = sym (ap (λ (ks : List ℕ). marked ks l) (kept_no m limit pos at lo hi w e t))

-- ---- one flag
set_flag : (l : List Bool) (k j : ℕ) → k < length l → get_or (set l k true) j false ≡ (eqb j k || get_or l j false)
set_flag l k j h =
    ⊎_elim
    (λ e. let q = eqb-true j k e in rw (e, q) (get_or-set_same l k true false h))
    (λ e. rw e (get_or-set_other l k j true false (eqb-false j k e))) (either (eqb j k))

or_swap : (a b c : Bool) → (a || (b || c)) ≡ ((b || a) || c)
or_swap true true c = refl
or_swap true false c = refl
or_swap false true c = refl
or_swap false false c = refl

or_none : (a : Bool) → (a || false) ≡ a
or_none true = refl
or_none false = refl

marked_flag : (ks : List ℕ) (l : List Bool) (i e j : ℕ) → Ascending i e ks → e ≤ length l → get_or (marked ks l) j false ≡ (among j ks || get_or l j false)
unfolding marked among
marked_flag [] l i e j a h = refl
marked_flag (k ∷ ks) l i e j a h =
    marked_flag ks (set l k true) (k + 1) e j a.2 (rw length-set h)
    ∙ rw (set_flag l k j (omega (arith, a.1))) (or_swap (among j ks) (eqb j k) (get_or l j false))

-- ---- the indices of the flags that are set
pub select-same : (p q : ℕ → Bool) (n i e : ℕ) → e ≡ i + n → ((j : ℕ) → j < e → p j ≡ q j) → select p n i ≡ select q n i
unfolding select
select-same p q zero i e h f = refl
select-same p q (suc n) i e h f = rw (f i (omega arith), select-same p q n (i + 1) e (omega arith) f)

-- what is selected is among the selected
pub select_has : (p : ℕ → Bool) (n i j : ℕ) → i ≤ j → j < i + n → p j ≡ true → among j (select p n i) ≡ true
unfolding select among
select_has p zero i j a b t = absurd (omega arith)
select_has p (suc n) i j a b t =
    ⊎_elim (λ z. let h : p i ≡ true = ap p z ∙ t in rw (h, eq-eqb j i (sym z)))
    (λ l. let r = select_has p n (i + 1) j (omega arith) (omega arith) t in
    ⊎_elim (λ h. rw h (rw r (or_true (eqb j i)))) (λ h. rw h r) (either (p i))) (eq-or-lt_of_le a)

-- the cut of a list is among its parts
pub among-cut : (k : ℕ) (xs ys : List ℕ) → among k (xs ++ k ∷ ys) ≡ true
unfolding among
among-cut k [] ys = rw (eq-eqb k k refl)
among-cut k (x ∷ xs) ys = rw (among-cut k xs ys) (or_true (eqb k x))

not_among : (i e j : ℕ) (ks : List ℕ) → Ascending i e ks → j < i → among j ks ≡ false
unfolding among
not_among i e j [] a h = refl
not_among i e j (k ∷ ks) a h = rw (ne_eqb j k (λ q. omega (arith, a.0, q))) (not_among (k + 1) e j ks a.2 (omega (arith, a.0)))

-- ascending indices are those that are among them
select-among : (p : ℕ → Bool) (n i e : ℕ) (ks : List ℕ) → e ≡ i + n → Ascending i e ks → ((j : ℕ) → i ≤ j → j < e → p j ≡ among j ks) → select p n i ≡ ks
unfolding select among
select-among p zero i e [] q a f = refl
select-among p zero i e (k ∷ ks) q a f = absurd (omega (arith, a.0, a.1))
select-among p (suc n) i e [] q a f =
    rw (f i (omega arith) (omega arith)) (select-among p n (i + 1) e [] (omega arith) tt (λ j h t. f j (omega arith) t))
select-among p (suc n) i e (k ∷ ks) q a f =
    ⊎_elim
    (λ h. let z = eqb-true i k h in
    rw (f i (omega arith) (omega arith), h)
    (rw z (ap (λ (r : List ℕ). k ∷ r)
    (select-among p n (k + 1) e ks (omega arith) a.2 (λ j g t. f j (omega arith) t ∙ rw (ne_eqb j k (λ u. omega (arith, u))))))))
    (λ h. let u : i < k = lt_of_le-ne a.0 (eqb-false i k h) in
    rw (f i (omega arith) (omega arith), h, not_among (k + 1) e i ks a.2 (omega arith))
    (select-among p n (i + 1) e (k ∷ ks) (omega arith) (omega arith, a.1, a.2) (λ j g t. f j (omega arith) t))) (either (eqb i k))

-- ---- `size` flags for n points: set are those of the first point, of the kept ones between, and of the last
module _ {P : Type 0} (m : Measure P) (limit : Float) (pos : (limit ≺ +0) ≡ false) (at : ℕ → P) (size n : ℕ) (some : 0 < n) (room : n ≤ size) (l : List Bool)
    (e : l ≡ marked (kept_in m limit at 0 (n - 1)) (set (replicate size false) 0 true)) where
  all-marked : (k : ℕ) → n ≡ k → set (marked (kept_in m limit at 0 (k - 1)) (set (replicate size false) 0 true)) (k - 1) true ≡ marked (thinned m limit at k) (replicate size false)
  unfolding thinned marked kept_by
  all-marked zero q = absurd (omega arith)
  all-marked (suc zero) q = set-set (replicate size false) 0 true true
  all-marked (suc (suc k)) q = let z : suc (suc k) - 1 ≡ suc k = omega arith in rw z (sym (marked_append (kept_in m limit at 0 (suc k)) (suc k ∷ []) (set (replicate size false) 0 true)))

  -- a flag is set where its index is kept
  pub flag_kept : (j : ℕ) → j < n → get_or (set l (n - 1) true) j false ≡ among j (thinned m limit at n)
  flag_kept j h =
      ap (λ (k : List Bool). get_or (set k (n - 1) true) j false) e ∙ ap (λ (k : List Bool). get_or k j false) (all-marked n refl)
      ∙ marked_flag (thinned m limit at n) (replicate size false) 0 n j (thinned-ascending m limit pos at n) (rw length-replicate room)
      ∙ rw (get_or-replicate size j false false (omega arith)) (or_none (among j (thinned m limit at n)))

  -- and so what the flags keep, and what is always kept, is the list, thinned
  pub flagged_kept : (always : P → Bool) (k : ℕ) → n ≡ k → flagged always at (set l (n - 1) true) k ≡ kept_of always m limit at k
  flagged_kept always k z =
      subst (λ (k : ℕ). flagged always at (set l (n - 1) true) k ≡ kept_of always m limit at k) z
      (ap (map at) (select-same (λ j. always (at j) || get_or (set l (n - 1) true) j false) (λ j. always (at j) || among j (thinned m limit at n)) n 0 n (omega arith)
      (λ j h. ap (λ (b : Bool). always (at j) || b) (flag_kept j h))))

-- no items
pub none-kept : {P : Type 0} (always : P → Bool) (m : Measure P) (limit : Float) (at : ℕ → P) (n : ℕ) → n ≡ 0 → kept_of always m limit at n ≡ []
unfolding select
none-kept always m limit at n h = rw h

-- where none is always kept, those kept are the kept indices
pub points-kept : {P : Type 0} (m : Measure P) (limit : Float) → (limit ≺ +0) ≡ false → (at : ℕ → P) (n : ℕ) → kept_of never m limit at n ≡ thinned_points m limit at n
unfolding thinned_points
points-kept m limit pos at n =
    ap (map at) (select-among (λ i. among i (thinned m limit at n)) n 0 n (thinned m limit at n) (omega arith) (thinned-ascending m limit pos at n) (λ j g h. refl))

-- of commands every Move is
pub commands-kept : (limit : Float) (at : ℕ → Command) (n : ℕ) → kept_of is_move command_sq limit at n ≡ thinned_commands limit at n
unfolding thinned_commands kept_commands
commands-kept limit at n = refl
