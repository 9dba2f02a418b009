-- How many points a state has after a call, and how many ends a call hands out at most. Assumes nothing.
use Prim.Native.Nat.{ℕ, zero, suc, ◌+◌, ◌-◌, ◌≤◌, ◌<◌}
use mathlib.Core.Path.{◌≡◌}
use mathlib.Core.Logic.{⊎_elim}
use mathlib.Core.Bool.{true, ◌||◌}
use mathlib.Core.List.{[]}
use native.Mathlib.Omega.{arith}
use borrow.Author.Tests.{ltb-true, lt-ltb}
use lib.ListN.{length, length-append}
use lib.Dec.{ltb}
use lib.Ieee.{Float}
use Rattle.floats.proofs.Order.{either, and_left, or_right}
use Rattle.geo.specs.declared.types.Point3D.{Point3D}
use Rattle.live.specs.declared.live.Live.{Live}
use Rattle.live.specs.Thinner.{slot_count, slot, behind, cutting, goes_on, push, feed_again, anchored, forgotten, retuned}
use Rattle.live.specs.Calls.{most_ends}

-- the line goes on only where a slot is free
pub goes-room : (s : Live) (p : Point3D) → goes_on s p ≡ true → s.count < slot_count
unfolding goes_on
goes-room s p h = ltb-true s.count slot_count (and_left (ltb s.count slot_count) _ h)

-- ---- a point fed
-- keeps to the slots
pub push-few_slots : (s : Live) (p : Point3D) → s.count ≤ slot_count → (push s p).state.count ≤ slot_count
unfolding push behind cutting
push-few_slots s p h =
    ⊎_elim
    (λ e. rw e (⊎_elim (λ q. let l = ltb-true s.count 2 q in omega arith) (λ q. let l = goes-room s p (or_right (ltb s.count 2) (goes_on s p) e q) in omega arith) (either (ltb s.count 2))))
    (λ e. rw e (omega arith)) (either (ltb s.count 2 || goes_on s p))

push-few : (s : Live) (p : Point3D) → s.count < 2 → (push s p).ends ≡ []
unfolding push
push-few s p l = rw (lt-ltb s.count 2 l)

-- hands out at most one end
pub push-most : (s : Live) (p : Point3D) → length (push s p).ends ≤ 1
unfolding push
push-most s p = ⊎_elim (λ h. rw h (omega arith)) (λ h. rw h (omega arith)) (either (ltb s.count 2 || goes_on s p))

-- ---- points fed again
again-most : (at : ℕ → Point3D) (n i : ℕ) (s : Live) → length (feed_again at n i s).ends ≤ n
unfolding feed_again
again-most at zero i s = omega arith
again-most at (suc n) i s =
    let r = (feed_again at n (i + 1) (push s (at i)).state).ends in
    let a = push-most s (at i) in
    let b = again-most at n (i + 1) (push s (at i)).state in
    omega (arith, length-append (push s (at i)).ends r)

again-first : (at : ℕ → Point3D) (n i : ℕ) (s : Live) → s.count < 2 → length (feed_again at n i s).ends ≤ n - 1
unfolding feed_again
again-first at zero i s h = omega arith
again-first at (suc n) i s h = rw (push-few s (at i) h) (let b = again-most at n (i + 1) (push s (at i)).state in omega arith)

pub anchored-few : (n : ℕ) → anchored n < 2
unfolding anchored
anchored-few zero = omega arith
anchored-few (suc n) = omega arith

-- A new tolerance hands out fewer ends than points are held, of every state, one that no run reaches too;
pub retune-below-held : (s : Live) (t : Float) → length (retuned s t).ends ≤ s.count - 2
unfolding retuned forgotten
retune-below-held s t = let h = again-first (slot s) (s.count - 1) 1 (forgotten s t) (anchored-few s.count) in omega arith

-- so at most 63 of an accepted one.
pub retune-most : (s : Live) (t : Float) → s.count ≤ slot_count → length (retuned s t).ends ≤ most_ends
retune-most s t h = let l = retune-below-held s t in omega arith
