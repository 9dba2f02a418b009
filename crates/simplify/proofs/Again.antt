-- Thinning the points that thinning kept keeps them all: in each range the first farthest point is still there, and still the first farthest. Assumes nothing.
use Prim.Native.Nat.{ℕ, zero, suc, ◌+◌, ◌-◌, ◌≤◌, ◌<◌}
use mathlib.Core.Path.{◌≡◌, refl, sym, ap, ◌∙◌, subst}
use mathlib.Core.Logic.{◌⊎◌, ⊎_elim}
use mathlib.Core.Bool.{true, false}
use mathlib.Core.List.{List, [], ◌∷◌, ◌++◌, map}
use native.Mathlib.Omega.{arith}
use native.Mathlib.Nat.{eq-or-lt_of_le}
use lib.ListN.{length, get_or, drop, length-append, length-map}
use lib.Seq.{get_or-drop, drop-drop}
use lib.Ieee.{Float, is_nan}
use Rattle.floats.specs.Ops.{◌≺◌, +0}
use Rattle.floats.proofs.Order.{either}
use Rattle.farthest.specs.declared.farthest.Farthest.{Farthest}
use Rattle.farthest.specs.Measure.{Measure}
use Rattle.farthest.specs.Farthest.{farthest_in}
use Rattle.farthest.specs.Words.{FirstAbove}
use Rattle.farthest.proofs.First.{distance, unique_in}
use Rattle.simplify.specs.Thin.{kept_by, kept_in, thinned, thinned_points, thin_list}
use Rattle.simplify.specs.Words.{Ascending}
use Rattle.simplify.proofs.Kept.{cut_yes, cut_no, cut-first, cut_inside, no_cut, kept_yes, kept_no, kept-ascending}

-- ---- runs of indices: i, i + 1, .., n of them
unfoldable run : ℕ → ℕ → List ℕ
run i zero = []
run i (suc n) = i ∷ run (i + 1) n

run_append : (i n k c : ℕ) → c ≡ i + n → run i n ++ c ∷ run (c + 1) k ≡ run i (n + suc k)
unfolding run
run_append i zero k c e = let z : c ≡ i = omega arith in let q : 0 + suc k ≡ suc k = omega arith in rw (z, q)
run_append i (suc n) k c e =
    let q : suc n + suc k ≡ suc (n + suc k) = omega arith in rw q (ap (λ (r : List ℕ). i ∷ r) (run_append (i + 1) n k c (omega arith)))

-- all of k + 2 indices, by what lies between the ends
run_ends : (k : ℕ) (ks : List ℕ) → ks ≡ run 1 k → 0 ∷ (ks ++ suc k ∷ []) ≡ run 0 (suc (suc k))
unfolding run
run_ends k ks e =
    let q : k + 1 ≡ suc k = omega arith in
    rw e (ap (λ (r : List ℕ). 0 ∷ r) (run_append 1 k 0 (suc k) (omega arith) ∙ rw q))

-- ---- g gives ks from position p on
abbrev Lists : (ℕ → ℕ) → ℕ → List ℕ → Type 0
Lists g p [] = Unit
Lists g p (k ∷ ks) = (g p ≡ k) × Lists g (p + 1) ks

lists_left : (g : ℕ → ℕ) (p : ℕ) (xs ys : List ℕ) → Lists g p (xs ++ ys) → Lists g p xs
lists_left g p [] ys l = tt
lists_left g p (x ∷ xs) ys l = (l.0, lists_left g (p + 1) xs ys l.1)

lists_right : (g : ℕ → ℕ) (p q : ℕ) (xs ys : List ℕ) → q ≡ p + length xs → Lists g p (xs ++ ys) → Lists g q ys
lists_right g p q [] ys e l = let z : q ≡ p = omega arith in rw z l
lists_right g p q (x ∷ xs) ys e l = lists_right g (p + 1) q xs ys (omega arith) l.1

-- what g gives of ascending indices lies where they do
lists_within : (g : ℕ → ℕ) (p i e : ℕ) (ks : List ℕ) → Ascending i e ks → Lists g p ks → (j : ℕ) → p ≤ j → j < p + length ks → (i ≤ g j) × (g j < e)
lists_within g p i e [] a l j u v = absurd (omega arith)
lists_within g p i e (k ∷ ks) a l j u v =
    ⊎_elim (λ z. let y : g j ≡ k = sym (ap g z) ∙ l.0 in (omega (arith, a.0), omega (arith, a.1)))
    (λ h. let r = lists_within g (p + 1) (k + 1) e ks a.2 l.1 j (omega arith) (omega arith) in (omega (arith, r.0, a.0), r.1))
    (eq-or-lt_of_le u)

-- ---- the kept points at' of the points at: position j among them is index g j of those
module _ {P : Type 0} (m : Measure P) (limit : Float) (pos : (limit ≺ +0) ≡ false) (at at' : ℕ → P) (g : ℕ → ℕ) where
  -- a range from lo to hi that is cut at w, with L and R kept beside w; among the kept points it goes from p to q, with w at c
  module _ (lo hi p c q : ℕ) (L R : List ℕ) (w : Farthest) (r : FirstAbove (distance m at lo hi) (lo + 1) hi +0 w)
      (aL : Ascending (lo + 1) w.index L) (aR : Ascending (w.index + 1) hi R) (ec : c ≡ p + 1 + length L) (eq : q ≡ c + 1 + length R)
      (gp : g p ≡ lo) (gc : g c ≡ w.index) (gq : g q ≡ hi) (lL : Lists g (p + 1) L) (lR : Lists g (c + 1) R)
      (same : (j : ℕ) → p ≤ j → j ≤ q → at' j ≡ at (g j)) where
    distance-same : (j : ℕ) → p ≤ j → j ≤ q → distance m at lo hi (g j) ≡ distance m at' p q j
    distance-same j a b =
        sym (rw (same j a b) (rw (same p (omega arith) (omega arith), same q (omega arith) (omega arith)) (rw (gp, gq))))

    -- the first farthest of the longer list is the first farthest of the shorter
    farthest_again : farthest_in m at' p q ≡ record { square = w.square; index = c }
    farthest_again =
        unique_in m at' p q w.square c record {
          from = omega arith;
          to = omega arith;
          value = r.value ∙ ap (distance m at lo hi) (sym gc) ∙ distance-same c (omega arith) (omega arith);
          above = r.above;
          before = λ j a b.
              let v = lists_within g (p + 1) (lo + 1) w.index L aL lL j a (omega arith) in
              subst (λ (x : Float). ((x ≺ w.square) ≡ true) ⊎ (is_nan x ≡ true)) (distance-same j (omega arith) (omega arith)) (r.before (g j) v.0 v.1);
          after = λ j a b.
              let v = lists_within g (c + 1) (w.index + 1) hi R aR lR j (omega arith) (omega arith) in
              subst (λ (x : Float). (w.square ≺ x) ≡ false) (distance-same j (omega arith) (omega arith)) (r.after (g j) (omega (arith, v.0)) v.1);
        }

    cut_again : (limit ≺ w.square) ≡ true → kept_in m limit at' p c ≡ run (p + 1) (length L) → kept_in m limit at' c q ≡ run (c + 1) (length R)
        → kept_in m limit at' p q ≡ run (p + 1) (length (L ++ w.index ∷ R))
    cut_again t eL eR =
        kept_yes m limit pos at' p q (record { square = w.square; index = c }) (sym farthest_again) t
        ∙ rw (eL, eR) (run_append (p + 1) (length L) (length R) c ec) ∙ ap (run (p + 1)) (sym (length-append L (w.index ∷ R)))

  none-again : (p q : ℕ) → q ≡ p + 1 + 0 → kept_in m limit at' p q ≡ run (p + 1) 0
  unfolding run
  none-again p q e = kept_no m limit pos at' p q (farthest_in m at' p q) refl (no_cut m limit pos at' p q (omega arith))

  -- the points kept of a range, thinned as the range was, are all kept
  kept_again : (n lo hi : ℕ) → hi - lo ≤ n → (p q : ℕ) → q ≡ p + 1 + length (kept_by m limit at n lo hi) → g p ≡ lo → g q ≡ hi
      → Lists g (p + 1) (kept_by m limit at n lo hi) → ((j : ℕ) → p ≤ j → j ≤ q → at' j ≡ at (g j))
      → kept_in m limit at' p q ≡ run (p + 1) (length (kept_by m limit at n lo hi))
  unfolding kept_by
  kept_again zero lo hi h p q = λ e gp gq l s. none-again p q e
  kept_again (suc n) lo hi h p q =
      let w = farthest_in m at lo hi in
      ⊎_elim
      (λ t. let r = cut_inside m limit pos at lo hi t in
      let L = kept_by m limit at n lo w.index in
      let R = kept_by m limit at n w.index hi in
      rw (cut_yes (kept_by m limit at n) limit lo hi w t)
      (λ e gp gq l s.
      let c = p + 1 + length L in
      let eq : q ≡ c + 1 + length R = omega (arith, length-append L (w.index ∷ R)) in
      let lL = lists_left g (p + 1) L (w.index ∷ R) l in
      let lR = lists_right g (p + 1) c L (w.index ∷ R) refl l in
      cut_again lo hi p c q L R w (cut-first m limit pos at lo hi t) (kept-ascending m limit pos at n lo w.index) (kept-ascending m limit pos at n w.index hi) refl eq
      gp lR.0 gq lL lR.1 s t
      (kept_again n lo w.index (omega (arith, r)) p c refl gp lR.0 lL (λ j a b. s j a (omega arith)))
      (kept_again n w.index hi (omega (arith, r)) c q eq lR.0 gq lR.1 (λ j a b. s j (omega arith) b))))
      (λ t. rw (cut_no (kept_by m limit at n) limit lo hi w t) (λ e gp gq l s. none-again p q e)) (either (limit ≺ w.square))

-- ---- whole lists
lists_of : (l : List ℕ) (p : ℕ) (xs : List ℕ) → drop p l ≡ xs → Lists (λ j. get_or l j 0) p xs
lists_of l p [] e = tt
lists_of l p (x ∷ xs) e =
    let z : p + 0 ≡ p = omega arith in
    ((rw z at (sym (get_or-drop p l 0 0))) ∙ ap (λ (k : List ℕ). get_or k 0 0) e, lists_of l (p + 1) xs (sym (drop-drop 1 p l) ∙ ap (λ (k : List ℕ). drop 1 k) e))

pub get_d_map : {A B : Type 0} (f : A → B) (l : List A) (j : ℕ) (a : A) (b : B) → j < length l → get_or (map f l) j b ≡ f (get_or l j a)
get_d_map f [] j a b h = absurd (omega arith)
get_d_map f (x ∷ l) zero a b h = refl
get_d_map f (x ∷ l) (suc j) a b h = get_d_map f l j a b (omega arith)

map_run : {A : Type 0} (d : A) (xs : List A) (f : ℕ → A) (i : ℕ) → ((j : ℕ) → j < length xs → f (i + j) ≡ get_or xs j d) → map f (run i (length xs)) ≡ xs
unfolding run
map_run d [] f i h = refl
map_run d (x ∷ xs) f i h =
    let z : i + 0 ≡ i = omega arith in
    let e : f i ≡ x = rw z at (h 0 (omega arith)) in
    rw e (ap (λ (r : List _). x ∷ r) (map_run d xs f (i + 1) (λ j l. let q : i + 1 + j ≡ i + suc j = omega arith in rw q (h (suc j) (omega arith)))))

module _ {P : Type 0} (m : Measure P) (limit : Float) (pos : (limit ≺ +0) ≡ false) where
  -- every point of the thinned list is kept again
  thinned-again : (at at' : ℕ → P) (n : ℕ) → ((j : ℕ) → j < length (thinned m limit at n) → at' j ≡ at (get_or (thinned m limit at n) j 0))
      → thinned m limit at' (length (thinned m limit at n)) ≡ run 0 (length (thinned m limit at n))
  unfolding thinned run
  thinned-again at at' zero s = refl
  thinned-again at at' (suc zero) s = refl
  thinned-again at at' (suc (suc n)) s =
      let K = kept_in m limit at 0 (suc n) in
      let ks : List ℕ = 0 ∷ (K ++ suc n ∷ []) in
      let g : ℕ → ℕ = λ j. get_or ks j 0 in
      let el : length (K ++ suc n ∷ []) ≡ suc (length K) = length-append K (suc n ∷ []) ∙ omega arith in
      let l : Lists g 1 (K ++ suc n ∷ []) = lists_of ks 1 (K ++ suc n ∷ []) refl in
      let a : kept_in m limit at' 0 (suc (length K)) ≡ run 1 (length K) =
      kept_again m limit pos at at' g (suc n - 0) 0 (suc n) (omega arith) 0 (suc (length K)) (omega arith) refl
      (lists_right g 1 (suc (length K)) K (suc n ∷ []) (omega arith) l).0 (lists_left g 1 K (suc n ∷ []) l) (λ j u v. s j (omega arith)) in
      rw el (run_ends (length K) (kept_in m limit at' 0 (suc (length K))) a)

  -- the points that are kept, thinned as they stand in another list, are all kept
  pub points-again : (at at' : ℕ → P) (n : ℕ) → ((j : ℕ) → j < length (thinned m limit at n) → at' j ≡ at (get_or (thinned m limit at n) j 0))
      → thinned_points m limit at' (length (thinned_points m limit at n)) ≡ thinned_points m limit at n
  unfolding thinned_points
  points-again at at' n h =
      let ks = thinned m limit at n in
      let e : length (map at ks) ≡ length ks = length-map ks at in
      ap (λ (k : ℕ). map at' (thinned m limit at' k)) e
      ∙ ap (map at') (thinned-again at at' n h)
      ∙ ap (λ (k : ℕ). map at' (run 0 k)) (sym e)
      ∙ map_run (at 0) (map at ks) at' 0 (λ j l. let q : 0 + j ≡ j = omega arith in rw q (h j (omega (arith, e)) ∙ sym (get_d_map at ks j 0 (at 0) (omega (arith, e)))))

  -- a list, thinned twice
  pub list_again : (d : P) (ps : List P) → thin_list m limit d (thin_list m limit d ps) ≡ thin_list m limit d ps
  unfolding thinned_points
  list_again d ps =
      let at : ℕ → P = λ i. get_or ps i d in
      points-again at (λ i. get_or (map at (thinned m limit at (length ps))) i d) (length ps) (λ j l. get_d_map at (thinned m limit at (length ps)) j 0 d l)
