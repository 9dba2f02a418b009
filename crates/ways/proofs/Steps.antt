-- The search step by step: a law for each. Assumes nothing.
use Prim.Native.Nat.{ℕ, zero, suc, ◌+◌, ◌-◌, ◌≤◌, ◌<◌}
use mathlib.Core.Path.{◌≡◌, refl, sym, ap, ◌∙◌, subst}
use mathlib.Core.Bool.{Bool, true, false}
use native.Mathlib.Omega.{arith}
use borrow.Author.Tests.{ltb-true, ltb-false, eqb-true, eqb-false, lt-ltb, le-ltb, eq-eqb, ne_eqb}
use lib.ListN.{get_or, set}
use lib.Dec.{eqb, ltb}
use Rattle.ways.specs.declared.phase.Phase.{Phase}
use Rattle.ways.specs.declared.phase.Phase.TheVariants.{Going, Arrived}
use Rattle.ways.specs.Way.{Test}
use Rattle.ways.specs.Layers.{State, going, spent, missed, reached, try_pair, in_order, try_point, closed, try_layer}

-- the layer number of the point i, 0 where it is not reached
abbrev pub lev : State → ℕ → ℕ
lev s i = get_or s.level i 0

-- by the two values of a flag
pub split : {X : Type 0} (b : Bool) → (b ≡ true → X) → (b ≡ false → X) → X
split true f g = f refl
split false f g = g refl

-- what each step carries on holds after all
pub in_order_lem : (P : ℕ → State → Type 0) (f : ℕ → State → State) (n i e : ℕ) (s : State) → i + n ≡ e
    → ((j : ℕ) (t : State) → i ≤ j → j < e → P j t → P (j + 1) (f j t)) → P i s → P e (in_order f n i s)
unfolding in_order
in_order_lem P f zero i e s h g p = let z : i ≡ e = omega arith in subst (λ (k : ℕ). P k s) z p
in_order_lem P f (suc n) i e s h g p = in_order_lem P f n (i + 1) e (f i s) (omega arith) (λ j t a b. g j t (omega arith) b) (g i s (omega arith) (omega arith) p)

-- a pair that comes up leaves the state, stops the search, misses or reaches: what holds of each holds
pub pair_cases : (ok : Test) (last budget u v : ℕ) (s : State) (P : State → Type 0)
    → (going s.phase ≡ false → P s)
    → (going s.phase ≡ true → 1 ≤ lev s v → P s)
    → (going s.phase ≡ true → lev s v ≡ 0 → s.tested ≡ budget → P (spent s))
    → (going s.phase ≡ true → lev s v ≡ 0 → (s.tested ≡ budget → ⊥) → ok u v ≡ false → P (missed s))
    → (going s.phase ≡ true → lev s v ≡ 0 → (s.tested ≡ budget → ⊥) → ok u v ≡ true → P (reached last u v s))
    → P (try_pair ok last budget u v s)
unfolding try_pair
pair_cases ok last budget u v s P stopped old due miss hit =
    split (going s.phase)
    (λ g. split (ltb 0 (lev s v))
    (λ l. rw (g, l) (old g (ltb-true 0 (lev s v) l)))
    (λ l. let z : lev s v ≡ 0 = omega (arith, ltb-false 0 (lev s v) l) in
    split (eqb s.tested budget)
    (λ b. rw (g, l, b) (due g z (eqb-true s.tested budget b)))
    (λ b. split (ok u v)
    (λ o. rw (g, l, b, o) (hit g z (eqb-false s.tested budget b) o))
    (λ o. rw (g, l, b, o) (miss g z (eqb-false s.tested budget b) o)))))
    (λ g. rw g (stopped g))

-- ---- the same as equations, for the code: each answer that a pair has in a search that goes on
module _ (ok : Test) (last budget u v : ℕ) (s : State) (g : going s.phase ≡ true) where
  pub pair_old : 0 < lev s v → s ≡ try_pair ok last budget u v s
  unfolding try_pair
  pair_old l = rw (g, lt-ltb 0 (lev s v) l)

  pub pair-spent : lev s v ≤ 0 → s.tested ≡ budget → spent s ≡ try_pair ok last budget u v s
  unfolding try_pair
  pair-spent l b = rw (g, le-ltb 0 (lev s v) l, eq-eqb s.tested budget b)

  pub pair-missed : lev s v ≤ 0 → (s.tested ≡ budget → ⊥) → ok u v ≡ false → missed s ≡ try_pair ok last budget u v s
  unfolding try_pair
  pair-missed l b o = rw (g, le-ltb 0 (lev s v) l, ne_eqb s.tested budget b, o)

  -- the state after a pair that passes, but for where the search stands
  abbrev pub reached_as : Phase → State
  reached_as p = record { level = set s.level v (s.finished + 2); parent = set s.parent v u; tested = s.tested + 1; finished = s.finished; phase = p }

  pub pair_end : lev s v ≤ 0 → (s.tested ≡ budget → ⊥) → ok u v ≡ true → v ≡ last → reached_as Arrived ≡ try_pair ok last budget u v s
  unfolding try_pair
  pair_end l b o e = rw (g, le-ltb 0 (lev s v) l, ne_eqb s.tested budget b, o, eq-eqb v last e)

  pub pair-on : lev s v ≤ 0 → (s.tested ≡ budget → ⊥) → ok u v ≡ true → (v ≡ last → ⊥) → reached_as Going ≡ try_pair ok last budget u v s
  unfolding try_pair
  pair-on l b o e = rw (g, le-ltb 0 (lev s v) l, ne_eqb s.tested budget b, o, ne_eqb v last e)

module _ (ok : Test) (last budget u : ℕ) (s : State) where
  pub point_now : (t : State) → lev s u ≡ s.finished + 1 → t ≡ in_order (try_pair ok last budget u) (last - u) (u + 1) s → t ≡ try_point ok last budget u s
  unfolding try_point
  point_now t e q = rw (eq-eqb (lev s u) (s.finished + 1) e) q

  pub point_else : (lev s u ≡ s.finished + 1 → ⊥) → s ≡ try_point ok last budget u s
  unfolding try_point
  point_else d = rw (ne_eqb (lev s u) (s.finished + 1) d)

-- ---- a search that has stopped stays as it is
in_order-same : (f : ℕ → State → State) (s : State) → ((j : ℕ) → f j s ≡ s) → (n i : ℕ) → in_order f n i s ≡ s
unfolding in_order
in_order-same f s h zero i = refl
in_order-same f s h (suc n) i = rw (h i) (in_order-same f s h n (i + 1))

module _ (ok : Test) (last budget : ℕ) (s : State) (g : going s.phase ≡ false) where
  pub pairs_stopped : (u n v : ℕ) → in_order (try_pair ok last budget u) n v s ≡ s
  unfolding try_pair
  pairs_stopped u n v = in_order-same (try_pair ok last budget u) s (λ j. rw g) n v

  point_stopped : (u : ℕ) → try_point ok last budget u s ≡ s
  unfolding try_point
  point_stopped u = split (eqb (lev s u) (s.finished + 1)) (λ e. rw e (pairs_stopped u (last - u) (u + 1))) (λ e. rw e)

  pub points_stopped : (n u : ℕ) → in_order (try_point ok last budget) n u s ≡ s
  points_stopped n u = in_order-same (try_point ok last budget) s point_stopped n u

  pub layer_stopped : try_layer ok last budget s ≡ s
  unfolding try_layer
  layer_stopped = rw (points_stopped (last + 1) 0, g)

  pub layers_stopped : (n i : ℕ) → in_order (λ i. try_layer ok last budget) n i s ≡ s
  layers_stopped n i = in_order-same (λ i. try_layer ok last budget) s (λ j. layer_stopped) n i

-- a layer in which the search did not stop is finished
pub closed_on : (s : State) → going s.phase ≡ true
    → closed s ≡ record { level = s.level; parent = s.parent; tested = s.tested; finished = s.finished + 1; phase = s.phase }
closed_on s g = rw g

pub closed_off : (s : State) → going s.phase ≡ false → closed s ≡ s
closed_off s g = rw g

-- ---- the budget is never passed
module _ (ok : Test) (last budget : ℕ) where
  pub pair-paid : (u v : ℕ) (s : State) → s.tested ≤ budget → (try_pair ok last budget u v s).tested ≤ budget
  pair-paid u v s h =
      pair_cases ok last budget u v s (λ (t : State). t.tested ≤ budget) (λ g. h) (λ g a. h) (λ g a b. h) (λ g a b c. omega arith) (λ g a b c. omega arith)

  pub point-paid : (u : ℕ) (s : State) → s.tested ≤ budget → (try_point ok last budget u s).tested ≤ budget
  unfolding try_point
  point-paid u s h =
      split (eqb (lev s u) (s.finished + 1))
      (λ e. rw e
      (in_order_lem (λ (v : ℕ) (t : State). t.tested ≤ budget) (try_pair ok last budget u) (last - u) (u + 1) (u + 1 + (last - u)) s refl
      (λ v t a b q. pair-paid u v t q) h))
      (λ e. rw e h)

  pub points-paid : (s : State) → s.tested ≤ budget → (in_order (try_point ok last budget) (last + 1) 0 s).tested ≤ budget
  points-paid s h =
      in_order_lem (λ (u : ℕ) (t : State). t.tested ≤ budget) (try_point ok last budget) (last + 1) 0 (last + 1) s (omega arith) (λ u t a b q. point-paid u t q) h

  layer_paid : (s : State) → s.tested ≤ budget → (try_layer ok last budget s).tested ≤ budget
  unfolding try_layer
  layer_paid s h =
      let t = in_order (try_point ok last budget) (last + 1) 0 s in
      let r = points-paid s h in split (going t.phase) (λ g. rw (closed_on t g) r) (λ g. rw (closed_off t g) r)

-- ---- steps that keep within the budget, and leave a search that has stopped as it is
pub record Steady (f : ℕ → State → State) (budget : ℕ) : Type 0 where
  pub pays : (i : ℕ) (s : State) → s.tested ≤ budget → (f i s).tested ≤ budget
  pub stays : (s : State) → going s.phase ≡ false → (n i : ℕ) → in_order f n i s ≡ s

module _ (ok : Test) (last budget : ℕ) where
  pub pairs-steady : (u : ℕ) → Steady (try_pair ok last budget u) budget
  pairs-steady u = record { pays = pair-paid ok last budget u; stays = λ s g. pairs_stopped ok last budget s g u }

  pub points-steady : Steady (try_point ok last budget) budget
  points-steady = record { pays = point-paid ok last budget; stays = points_stopped ok last budget }

  pub layers_steady : Steady (λ i. try_layer ok last budget) budget
  layers_steady = record { pays = λ i. layer_paid ok last budget; stays = layers_stopped ok last budget }

-- ---- a loop over steps in order: the steps left from the state s at i on, up to e, give the whole
pub record Loop (f : ℕ → State → State) (e budget : ℕ) (whole s : State) (i : ℕ) : Type 0 where
  pub on : going s.phase ≡ true
  pub paid : s.tested ≤ budget
  pub to : i ≤ e
  pub rest : in_order f (e - i) i s ≡ whole

module _ (f : ℕ → State → State) (e budget : ℕ) where
  pub loop_start : (n i : ℕ) (s : State) → going s.phase ≡ true → s.tested ≤ budget → i + n ≡ e → Loop f e budget (in_order f n i s) s i
  loop_start n i s g h q =
      let z : e - i ≡ n = omega arith in record { on = g; paid = h; to = omega arith; rest = ap (λ (k : ℕ). in_order f k i s) z }

  step : (i : ℕ) (s : State) → i < e → in_order f (e - i) i s ≡ in_order f (e - (i + 1)) (i + 1) (f i s)
  unfolding in_order
  step i s h = let z : e - i ≡ suc (e - (i + 1)) = omega arith in ap (λ (k : ℕ). in_order f k i s) z

  module _ (whole s : State) (i : ℕ) (l : Loop f e budget whole s i) where
    pub loop_done : e ≤ i → s ≡ whole
    unfolding in_order
    loop_done h = let z : e - i ≡ 0 = omega arith in sym (ap (λ (k : ℕ). in_order f k i s) z) ∙ l.rest

    -- after one step more, which led to t
    module _ (k : Steady f budget) (t : State) (h : i < e) (q : t ≡ f i s) where
      left : in_order f (e - (i + 1)) (i + 1) t ≡ whole
      left = ap (in_order f (e - (i + 1)) (i + 1)) q ∙ sym (step i s h) ∙ l.rest

      pub loop_next : going t.phase ≡ true → Loop f e budget whole t (i + 1)
      loop_next g = record { on = g; paid = rw q (k.pays i s l.paid); to = omega arith; rest = left }

      pub loop_stop : going t.phase ≡ false → t ≡ whole
      loop_stop g = sym (k.stays t g (e - (i + 1)) (i + 1)) ∙ left

-- ---- a layer, from the state t after its points
module _ (ok : Test) (last budget : ℕ) (s t : State) (q : t ≡ in_order (try_point ok last budget) (last + 1) 0 s) where
  pub layer_end : going t.phase ≡ false → t ≡ try_layer ok last budget s
  unfolding try_layer
  layer_end g = sym (closed_off t g) ∙ ap (λ (x : State). closed x) q

  pub layer_on : going t.phase ≡ true
      → record { level = t.level; parent = t.parent; tested = t.tested; finished = t.finished + 1; phase = t.phase } ≡ try_layer ok last budget s
  unfolding try_layer
  layer_on g = sym (closed_on t g) ∙ ap (λ (x : State). closed x) q
