-- What every state of a run is known by: its numbers are in the domain, and each held point was one to which the line went on. Each call keeps this. Assumes nothing.
use Prim.Native.Nat.{ℕ, zero, suc, ◌+◌, ◌-◌, ◌*◌, ◌≤◌, ◌<◌}
use mathlib.Core.Path.{◌≡◌, refl, sym, ap, ◌∙◌, subst}
use mathlib.Core.Logic.{⊎_elim}
use mathlib.Core.Bool.{true, ◌||◌}
use mathlib.Core.List.{List}
use native.Mathlib.Omega.{arith}
use native.Mathlib.Nat.{eq-or-lt_of_le}
use borrow.Author.Tests.{ltb-true, ltb-false, eqb-true, eqb-false}
use lib.ListN.{length, get_or, set, length-set, length-replicate}
use lib.Seq.{get_or-set_same, get_or-set_other}
use lib.Dec.{ltb, eqb}
use lib.Ieee.{Float, nan, of_bits, le}
use Rattle.floats.specs.Ops.{◌≺◌, +0}
use Rattle.floats.specs.Float.{abs_of}
use Rattle.floats.proofs.Order.{either, and_right, or_false, or_right}
use Rattle.geo.specs.declared.types.Point3D.{Point3D}
use Rattle.geo.specs.Lent.{point_at}
use Rattle.geo.specs.Domain.{coordinate, every_from, numbers_in, point3_in}
use Rattle.geo.proofs.Every.{every_at, every_all}
use Rattle.deviations.specs.Line.{rooted, line_deviation}
use Rattle.farthest.specs.declared.farthest.Farthest.{Farthest}
use Rattle.farthest.specs.Measure.{line_sq}
use Rattle.farthest.specs.Farthest.{farther, farthest_of, farthest_in, on_chord}
use Rattle.live.specs.declared.live.Live.{Live}
use Rattle.live.specs.Thinner.{slot_count, slot, put, started, behind, cutting, goes_on, push, shut, feed_again, forgotten, retuned}
use Rattle.live.proofs.Counts.{goes-room, anchored-few}
use Rattle.live_runs.proofs.Near.{coordinates}
use Rattle.live_runs.proofs.Slots.{put_length, put_other}

-- ---- numbers in the domain
set_in : (l : List Float) (i : ℕ) (x : Float) → coordinate x ≡ true → numbers_in coordinate l ≡ true → numbers_in coordinate (set l i x) ≡ true
unfolding numbers_in
set_in l i x c h =
    every_all (λ k. coordinate (get_or (set l i x) k nan)) (length (set l i x)) 0
    (λ k a b. let e = length-set l i x in
    ⊎_elim
    (λ q. let z : k ≡ i = eqb-true k i q in rw (z, get_or-set_same l i x nan (omega arith)) c)
    (λ q. rw (get_or-set_other l i k x nan (eqb-false k i q)) (every_at (λ j. coordinate (get_or l j nan)) (length l) 0 h k a (omega arith)))
    (either (eqb k i)))

module _ (p : Point3D) (h : point3_in p ≡ true) where
  put_in : (ns : List Float) (i : ℕ) → numbers_in coordinate ns ≡ true → numbers_in coordinate (put ns i p) ≡ true
  unfolding put
  put_in ns i a =
      let b = 3 * i in
      let all = coordinates p h in
      set_in (set (set ns b p.x) (suc b) p.y) (suc (suc b)) p.z all.2
      (set_in (set ns b p.x) (suc b) p.y all.1 (set_in ns b p.x all.0 a))

point_in : (ns : List Float) (j : ℕ) → 3 * j + 2 < length ns → numbers_in coordinate ns ≡ true → point3_in (point_at ns j) ≡ true
unfolding numbers_in point_at point3_in
point_in ns j l h =
    let at : (k : ℕ) → k < length ns → coordinate (get_or ns k nan) ≡ true = λ k b. every_at (λ i. coordinate (get_or ns i nan)) (length ns) 0 h k (omega arith) (omega arith) in
    rw (at (3 * j) (omega arith), at (3 * j + 1) (omega arith), at (3 * j + 2) l)

-- ---- a line's deviation looks at no point outside its range
same_farthest : (f g : ℕ → Float) (n i : ℕ) (w : Farthest) → ((j : ℕ) → i ≤ j → j < i + n → f j ≡ g j) → farthest_of f n i w ≡ farthest_of g n i w
unfolding farthest_of
same_farthest f g zero i w h = refl
same_farthest f g (suc n) i w h =
    ap (λ (x : Float). farthest_of f n (i + 1) (farther x i w)) (h i (omega arith) (omega arith))
    ∙ same_farthest f g n (i + 1) (farther (g i) i w) (λ j a b. h j (omega arith) (omega arith))

pub same_line : (at at' : ℕ → Point3D) (n : ℕ) → 0 < n → ((i : ℕ) → i ≤ n → at i ≡ at' i) → line_deviation line_sq at 0 n ≡ line_deviation line_sq at' 0 n
unfolding line_deviation farthest_in
same_line at at' n l h =
    ap (λ (a : Point3D). rooted (farthest_of (λ i. line_sq a (at n) (at i)) (n - 1) 1 (on_chord 0))) (h 0 (omega arith))
    ∙ ap (λ (b : Point3D). rooted (farthest_of (λ i. line_sq (at' 0) b (at i)) (n - 1) 1 (on_chord 0))) (h n (omega arith))
    ∙ ap rooted (same_farthest (λ i. line_sq (at' 0) (at' n) (at i)) (λ i. line_sq (at' 0) (at' n) (at' i)) (n - 1) 1 (on_chord 0) (λ j a b. ap (line_sq (at' 0) (at' n)) (h j (omega arith))))

-- ---- states
pub record Sound (s : Live) : Type 0 where
  pub long : length s.points ≡ 195
  pub few : s.count ≤ 65
  pub inside : numbers_in coordinate s.points ≡ true
  -- the line went on to the point in slot j when it was fed
  pub passed : (j : ℕ) → 2 ≤ j → j < s.count → ((line_deviation line_sq (slot s) 0 j).dist ≺ s.tolerance) ≡ true

pub slot_in : (s : Live) → Sound s → (j : ℕ) → j < s.count → point3_in (slot s j) ≡ true
unfolding slot
slot_in s h j l = point_in s.points j (omega (arith, h.long, h.few)) h.inside

zeros_in : (t : Float) → numbers_in coordinate (started t).points ≡ true
unfolding started numbers_in every_from coordinate abs_of le of_bits
zeros_in t = refl

pub started_sound : (t : Float) → Sound (started t)
unfolding started
started_sound t = record { long = length-replicate 195 +0; few = omega arith; inside = zeros_in t; passed = λ j a b. absurd (omega arith) }

module _ (s : Live) (h : Sound s) (p : Point3D) (ok : point3_in p ≡ true) where
  behind_sound : s.count < 65 → (2 ≤ s.count → ((line_deviation line_sq (slot (behind s p)) 0 s.count).dist ≺ s.tolerance) ≡ true) → Sound (behind s p)
  unfolding behind slot
  behind_sound l d =
      record {
        long = put_length s.points s.count p ∙ h.long;
        few = omega arith;
        inside = put_in p ok s.points s.count h.inside;
        passed = λ j a b.
            ⊎_elim
            (λ e. subst (λ (k : ℕ). ((line_deviation line_sq (point_at (put s.points s.count p)) 0 k).dist ≺ s.tolerance) ≡ true) (sym e) (d (omega arith)))
            (λ e. subst (λ w. (w.dist ≺ s.tolerance) ≡ true)
            (same_line (point_at s.points) (point_at (put s.points s.count p)) j (omega arith) (λ i q. sym (put_other s.points s.count i p (λ z. omega arith))))
            (h.passed j a e))
            (eq-or-lt_of_le (let z : j ≤ s.count = omega arith in z));
      }

  cut_sound : 2 ≤ s.count → Sound (cutting s p)
  unfolding cutting
  cut_sound l =
      let q = slot s (s.count - 1) in
      record {
        long = put_length (put s.points 0 q) 1 p ∙ put_length s.points 0 q ∙ h.long;
        few = omega arith;
        inside = put_in p ok (put s.points 0 q) 1 (put_in q (slot_in s h (s.count - 1) (omega arith)) s.points 0 h.inside);
        passed = λ j a b. absurd (omega arith);
      }

  pub push_sound : Sound (push s p).state
  unfolding push goes_on
  push_sound =
      ⊎_elim
      (λ e. rw e (⊎_elim
      (λ q. let l = ltb-true s.count 2 q in behind_sound (omega arith) (λ z. absurd (omega arith)))
      (λ q. let g = or_right (ltb s.count 2) (goes_on s p) e q in behind_sound (goes-room s p g) (λ z. and_right (ltb s.count slot_count) _ g))
      (either (ltb s.count 2))))
      (λ e. rw e (cut_sound (ltb-false s.count 2 (or_false (ltb s.count 2) (goes_on s p) e).0)))
      (either (ltb s.count 2 || goes_on s p))

-- ---- a new tolerance
again_sound : (at : ℕ → Point3D) (n i : ℕ) (s : Live) → Sound s → ((j : ℕ) → i ≤ j → j < i + n → point3_in (at j) ≡ true) → Sound (feed_again at n i s).state
unfolding feed_again
again_sound at zero i s h f = h
again_sound at (suc n) i s h f =
    again_sound at n (i + 1) (push s (at i)).state (push_sound s h (at i) (f i (omega arith) (omega arith))) (λ j a b. f j (omega arith) (omega arith))

forgotten_sound : (s : Live) (t : Float) → Sound s → Sound (forgotten s t)
unfolding forgotten
forgotten_sound s t h =
    let a = anchored-few s.count in
    record { long = h.long; few = omega arith; inside = h.inside; passed = λ j l b. absurd (omega arith) }

pub retuned_sound : (s : Live) (t : Float) → Sound s → Sound (retuned s t).state
unfolding retuned
retuned_sound s t h =
    again_sound (slot s) (s.count - 1) 1 (forgotten s t) (forgotten_sound s t h) (λ j a b. slot_in s h j (omega arith))

-- ---- a close
pub shut_sound : (s : Live) → Sound s → Sound (shut s).state
unfolding shut slot
shut_sound s h = record { long = h.long; few = h.few; inside = h.inside; passed = h.passed }
