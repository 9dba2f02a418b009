-- What a state holds in a run: the slots are the last points fed, the anchor first, and the line from the anchor to the last one passed. A point fed keeps
-- this, and so do the held points fed again under a new tolerance. Assumes nothing.
use Prim.Native.Nat.{ℕ, zero, suc, ◌+◌, ◌-◌, ◌≤◌, ◌<◌}
use mathlib.Core.Path.{◌≡◌, refl, sym, ap, ◌∙◌, subst}
use mathlib.Core.Logic.{⊎_elim}
use mathlib.Core.Bool.{Bool, true, false, ◌||◌}
use mathlib.Core.List.{List, [], ◌∷◌, map, map-append}
use native.Mathlib.Omega.{arith}
use native.Mathlib.Nat.{eq-or-lt_of_le, eq-zero-or-pos, add-zero}
use borrow.Author.Tests.{ltb-true, ltb-false}
use lib.ListN.{length}
use lib.Dec.{ltb}
use lib.Ieee.{Float}
use Rattle.floats.specs.Ops.{◌≺◌}
use Rattle.floats.specs.Root.{root_of}
use Rattle.floats.proofs.Order.{either, and_right, or_false, or_right}
use Rattle.geo.specs.declared.types.Point3D.{Point3D}
use Rattle.geo.specs.Lent.{point_at}
use Rattle.geo.specs.Domain.{point3_in}
use Rattle.deviations.specs.Line.{line_deviation}
use Rattle.farthest.specs.Measure.{line_sq}
use Rattle.live.specs.declared.live.Live.{Live}
use Rattle.live.specs.Thinner.{Next, slot_count, slot, put, behind, cutting, goes_on, push, feed_again, anchored, forgotten, retuned}
use Rattle.live_runs.specs.Run.{LineEnd, end_under}
use Rattle.live_runs.specs.Drawn.{Gap}
use Rattle.live.proofs.Counts.{goes-room}
use Rattle.live_runs.proofs.Near.{each_below}
use Rattle.live_runs.proofs.Slots.{put_length, put_same, put_other}
use Rattle.live_runs.proofs.Places.{Chain, chain-none, chain-one, chain_append}

-- after n points `at` the state s has its anchor at place a
pub record Holds (at : ℕ → Point3D) (n : ℕ) (s : Live) (a : ℕ) : Type 0 where
  pub long : length s.points ≡ 195
  pub few : s.count ≤ 65
  pub fill : a + s.count ≡ n
  pub some : s.count ≡ 0 → n ≡ 0
  pub slots : (j : ℕ) → j < s.count → slot s j ≡ at (a + j)
  pub domain : (i : ℕ) → i < n → point3_in (at i) ≡ true
  pub near : (j : ℕ) → a < j → j + 1 < n → (root_of (line_sq (at a) (at (n - 1)) (at j)) ≺ s.tolerance) ≡ true

-- what a step makes of such a state, by the tolerance t: its ends lead on to the new anchor
pub record Moved (at : ℕ → Point3D) (n a : ℕ) (t : Float) (closed : Bool) (r : Next) : Type 0 where
  pub reach : ℕ
  pub chain : Chain at a (map (end_under t) r.ends) reach
  pub holds : Holds at n r.state reach
  pub under : r.state.tolerance ≡ t
  pub shut : r.state.closed ≡ closed

-- ---- one point fed
pub push-held : (s : Live) (p : Point3D) → (ltb s.count 2 || goes_on s p) ≡ true → push s p ≡ record { state = behind s p; ends = [] }
unfolding push
push-held s p h = rw h

pub push-cut : (s : Live) (p : Point3D) → (ltb s.count 2 || goes_on s p) ≡ false → push s p ≡ record { state = cutting s p; ends = slot s (s.count - 1) ∷ [] }
unfolding push
push-cut s p h = rw h

-- the last point as an end
module _ (at : ℕ → Point3D) (n : ℕ) (s : Live) (a : ℕ) (i : Holds at n s a) where
  pub last_gap : (t : Float) → s.tolerance ≡ t → 2 ≤ s.count → Gap at a (n - 1) (end_under t (slot s (s.count - 1)))
  last_gap t z l =
      record {
        fed = i.slots (s.count - 1) (omega arith) ∙ ap at (let e : a + (s.count - 1) ≡ n - 1 = omega (arith, i.fill) in e);
        later = omega (arith, i.fill);
        short = omega (arith, i.fill, i.few);
        below = λ j h k. subst (λ (x : Float). (root_of (line_sq (at a) (at (n - 1)) (at j)) ≺ x) ≡ true) z (i.near j h (omega arith));
      }

module _ (at : ℕ → Point3D) (n : ℕ) (s : Live) (a : ℕ) (i : Holds at n s a) (p : Point3D) (is : at n ≡ p) (ok : point3_in p ≡ true) where
  -- the slots with p behind them
  with_new : s.count < 65 → (j : ℕ) → j ≤ s.count → point_at (put s.points s.count p) j ≡ at (a + j)
  unfolding slot
  with_new l j h =
      ⊎_elim (λ e. rw e (put_same s.points s.count p (omega (arith, i.long)) ∙ sym is ∙ ap at (sym i.fill)))
      (λ e. put_other s.points s.count j p (λ q. omega arith) ∙ i.slots j e) (eq-or-lt_of_le h)

  domain_on : (k : ℕ) → k < n + 1 → point3_in (at k) ≡ true
  domain_on k h = ⊎_elim (λ e. subst (λ (x : Point3D). point3_in x ≡ true) (sym is ∙ ap at (sym e)) ok) (λ e. i.domain k e) (eq-or-lt_of_le (let z : k ≤ n = omega arith in z))

  held_on : s.count < 65 → ((j : ℕ) → a < j → j < n → (root_of (line_sq (at a) (at n) (at j)) ≺ s.tolerance) ≡ true) → Holds at (n + 1) (behind s p) a
  unfolding behind slot
  held_on l h =
      record {
        long = put_length s.points s.count p ∙ i.long;
        few = omega arith;
        fill = omega (arith, i.fill);
        some = λ e. absurd (omega (arith, e));
        slots = λ j k. with_new l j (omega arith);
        domain = domain_on;
        near = λ j k m. let z : n + 1 - 1 ≡ n = omega arith in rw z (h j k (omega arith));
      }

  -- no point between
  near-few : s.count < 2 → (j : ℕ) → a < j → j < n → (root_of (line_sq (at a) (at n) (at j)) ≺ s.tolerance) ≡ true
  near-few l j h k = absurd (omega (arith, i.fill))

  -- the points between passed
  near_passed : s.count < 65 → ((line_deviation line_sq (point_at (put s.points s.count p)) 0 s.count).dist ≺ s.tolerance) ≡ true
      → (j : ℕ) → a < j → j < n → (root_of (line_sq (at a) (at n) (at j)) ≺ s.tolerance) ≡ true
  near_passed l d j h k =
      let at' : ℕ → Point3D = point_at (put s.points s.count p) in
      let f : (x : ℕ) → x ≤ s.count → at' x ≡ at (a + x) = with_new l in
      let e₀ : at' 0 ≡ at a = f 0 (omega arith) ∙ ap at (add-zero a) in
      let e₁ : at' s.count ≡ at n = f s.count (omega arith) ∙ ap at i.fill in
      let e₂ : at' (j - a) ≡ at j = f (j - a) (omega (arith, i.fill)) ∙ ap at (let z : a + (j - a) ≡ j = omega arith in z) in
      let b = each_below at' 0 s.count (λ x u v. rw (f x v) (domain_on (a + x) (omega (arith, i.fill)))) s.tolerance d (j - a) (omega arith) (omega (arith, i.fill)) in
      subst (λ (x : Point3D). (root_of (line_sq x (at n) (at j)) ≺ s.tolerance) ≡ true) e₀
      (subst (λ (x : Point3D). (root_of (line_sq (at' 0) x (at j)) ≺ s.tolerance) ≡ true) e₁
      (subst (λ (x : Point3D). (root_of (line_sq (at' 0) (at' s.count) x) ≺ s.tolerance) ≡ true) e₂ b))

  cut_on : 2 ≤ s.count → Holds at (n + 1) (cutting s p) (n - 1)
  unfolding cutting slot
  cut_on l =
      let ps = s.points in
      let q = point_at ps (s.count - 1) in
      let e : a + (s.count - 1) ≡ n - 1 = omega (arith, i.fill) in
      let long₀ : length (put ps 0 q) ≡ 195 = put_length ps 0 q ∙ i.long in
      let s₀ : point_at (put (put ps 0 q) 1 p) 0 ≡ at (n - 1) =
      put_other (put ps 0 q) 1 0 p (λ z. omega (arith, z)) ∙ put_same ps 0 q (omega (arith, i.long)) ∙ i.slots (s.count - 1) (omega arith) ∙ ap at e in
      let s₁ : point_at (put (put ps 0 q) 1 p) 1 ≡ at n = put_same (put ps 0 q) 1 p (omega (arith, long₀)) ∙ sym is in
      record {
        long = put_length (put ps 0 q) 1 p ∙ long₀;
        few = omega arith;
        fill = omega (arith, i.fill);
        some = λ z. absurd (omega (arith, z));
        slots = λ j k. two_slots (point_at (put (put ps 0 q) 1 p)) j k s₀ s₁;
        domain = domain_on;
        near = λ j k m. absurd (omega arith);
      }
    where
      two_slots : (f : ℕ → Point3D) (j : ℕ) → j < 2 → f 0 ≡ at (n - 1) → f 1 ≡ at n → f j ≡ at (n - 1 + j)
      two_slots f zero h u v = u ∙ ap at (sym (add-zero (n - 1)))
      two_slots f (suc zero) h u v = v ∙ ap at (let z : n ≡ n - 1 + 1 = omega (arith, i.fill, l) in z)
      two_slots f (suc (suc j)) h u v = absurd (omega arith)

  kept_on : (ltb s.count 2 || goes_on s p) ≡ true → Holds at (n + 1) (behind s p) a
  unfolding goes_on slot behind
  kept_on h =
      ⊎_elim (λ e. let l = ltb-true s.count 2 e in held_on (omega arith) (near-few l))
      (λ e. let g = or_right (ltb s.count 2) (goes_on s p) h e in
      let l = goes-room s p g in
      held_on l (near_passed l (and_right (ltb s.count slot_count) _ g)))
      (either (ltb s.count 2))

  pub pushed : (t : Float) → s.tolerance ≡ t → Moved at (n + 1) a t s.closed (push s p)
  unfolding behind cutting
  pushed t z =
      ⊎_elim
      (λ h. rw (push-held s p h) (record { reach = a; chain = chain-none at a; holds = kept_on h; under = z; shut = refl }))
      (λ h. let l = ltb-false s.count 2 (or_false (ltb s.count 2) (goes_on s p) h).0 in
      rw (push-cut s p h) (record { reach = n - 1; chain = chain-one at a (n - 1) _ (last_gap at n s a i t z l); holds = cut_on l; under = z; shut = refl }))
      (either (ltb s.count 2 || goes_on s p))

-- ---- several points fed
pub replayed : (at : ℕ → Point3D) (from : ℕ → Point3D) (m i n : ℕ) (s : Live) (a : ℕ) (t : Float) → Holds at n s a → s.tolerance ≡ t
    → ((j : ℕ) → j < m → from (i + j) ≡ at (n + j)) → ((j : ℕ) → j < n + m → point3_in (at j) ≡ true) → Moved at (n + m) a t s.closed (feed_again from m i s)
unfolding feed_again
replayed at from zero i n s a t h z f d =
    let e : n + 0 ≡ n = omega arith in
    record { reach = a; chain = chain-none at a; holds = rw e h; under = z; shut = refl }
replayed at from (suc m) i n s a t h z f d =
    let p = from i in
    let e₀ : at n ≡ p = ap at (sym (add-zero n)) ∙ sym (f 0 (omega arith)) ∙ ap from (add-zero i) in
    let u = pushed at n s a h p e₀ (subst (λ (x : Point3D). point3_in x ≡ true) e₀ (d n (omega arith))) t z in
    let v = replayed at from m (i + 1) (n + 1) (push s p).state u.reach t u.holds u.under (λ j l. further j l) (λ j l. d j (omega arith)) in
    let e : n + suc m ≡ n + 1 + m = omega arith in
    rw e (record {
      reach = v.reach;
      chain = subst (λ (l : List LineEnd). Chain at a l v.reach) (sym (map-append (end_under t) (push s p).ends (feed_again from m (i + 1) (push s p).state).ends))
          (chain_append at a u.reach v.reach _ _ u.chain v.chain);
      holds = v.holds;
      under = v.under;
      shut = v.shut ∙ u.shut;
    })
  where
    further : (j : ℕ) → j < m → from (i + 1 + j) ≡ at (n + 1 + j)
    further j l =
        let x : i + 1 + j ≡ i + suc j = omega arith in
        let y : n + suc j ≡ n + 1 + j = omega arith in
        ap from x ∙ f (suc j) (omega arith) ∙ ap at y

-- ---- a new tolerance
module _ (at : ℕ → Point3D) (n : ℕ) (s : Live) (a : ℕ) (i : Holds at n s a) (t : Float) where
  forgotten-none : s.count ≡ 0 → Holds at n (forgotten s t) a
  unfolding forgotten anchored slot
  forgotten-none e =
      rw e (record {
        long = i.long;
        few = omega arith;
        fill = omega (arith, i.fill);
        some = λ z. i.some e;
        slots = λ j l. absurd (omega arith);
        domain = i.domain;
        near = λ j l k. absurd (omega (arith, i.fill));
      })

  forgotten-some : 0 < s.count → Holds at (a + 1) (forgotten s t) a
  unfolding forgotten anchored slot
  forgotten-some h =
      let e : s.count ≡ suc (s.count - 1) = omega arith in
      rw e (record {
        long = i.long;
        few = omega arith;
        fill = refl;
        some = λ z. absurd (omega (arith, z));
        slots = λ j l. i.slots j (omega arith);
        domain = λ j l. i.domain j (omega (arith, i.fill));
        near = λ j l k. absurd (omega arith);
      })

  pub retuned_moves : Moved at n a t s.closed (retuned s t)
  unfolding retuned forgotten slot
  retuned_moves =
      ⊎_elim
      (λ e. let z : n + (s.count - 1) ≡ n = omega arith in
      subst (λ (k : ℕ). Moved at k a t s.closed (feed_again (slot s) (s.count - 1) 1 (forgotten s t))) z
      (replayed at (slot s) (s.count - 1) 1 n (forgotten s t) a t (forgotten-none e) refl (λ j l. absurd (omega arith)) (λ j l. i.domain j (omega arith))))
      (λ h. let z : a + 1 + (s.count - 1) ≡ n = omega (arith, i.fill) in
      subst (λ (k : ℕ). Moved at k a t s.closed (feed_again (slot s) (s.count - 1) 1 (forgotten s t))) z
      (replayed at (slot s) (s.count - 1) 1 (a + 1) (forgotten s t) a t (forgotten-some h) refl
      (λ j l. i.slots (1 + j) (omega arith) ∙ ap at (let y : a + (1 + j) ≡ a + 1 + j = omega arith in y)) (λ j l. i.domain j (omega arith))))
      (eq-zero-or-pos s.count)
