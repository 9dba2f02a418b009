-- One point fed, told by what the code finds: it puts the point behind the others first, and then looks whether the line goes on to it. Assumes nothing.
use Prim.Native.Nat.{ℕ, suc, ◌+◌, ◌-◌, ◌*◌, ◌≤◌, ◌<◌}
use mathlib.Core.Path.{◌≡◌, refl, sym, ap, ◌∙◌}
use mathlib.Core.Logic.{⊎_elim}
use mathlib.Core.Bool.{Bool, true, false, ◌||◌}
use mathlib.Core.List.{List, [], ◌∷◌}
use native.Mathlib.Omega.{arith}
use borrow.Author.Tests.{ltb-false, lt-ltb, le-ltb}
use lib.Dec.{ltb}
use lib.ListN.{length, set}
use lib.Seq.{sets, set-set, set-get_or}
use lib.Ieee.{Float, nan}
use Rattle.std.specs.Prelude.{Some, None}
use Rattle.floats.specs.Ops.{◌≺◌}
use Rattle.floats.proofs.Order.{lt_or_ge, or_false}
use Rattle.geo.specs.declared.types.Point3D.{Point3D}
use Rattle.geo.specs.Lent.{point_at, triple}
use Rattle.geo.proofs.Stores.{set_before}
use Rattle.deviations.specs.Line.{line_deviation}
use Rattle.farthest.specs.Measure.{line_sq}
use Rattle.live.specs.declared.live.Live.{Live}
use Rattle.live.specs.Thinner.{slot_count, slot, put, behind, cutting, goes_on, push}
use Rattle.live.specs.Calls.{end_for}
use Rattle.live.specs.Replay.{Pushed}

-- ---- what a slot had, put back
module _ {A : Type 0} where
  -- a run over another as long
  sets_over : (vs ws l : List A) (i : ℕ) → length ws ≡ length vs → sets (sets l i vs) i ws ≡ sets l i ws
  sets_over [] [] l i h = refl
  sets_over [] (w ∷ ws) l i h = absurd (omega arith)
  sets_over (v ∷ vs) [] l i h = absurd (omega arith)
  sets_over (v ∷ vs) (w ∷ ws) l i h =
      ap (λ (k : List A). sets k (suc i) ws) (set_before vs (set l i v) (suc i) i w (omega arith) ∙ ap (λ (k : List A). sets k (suc i) vs) (set-set l i v w))
      ∙ sets_over vs ws (set l i w) (suc i) (omega arith)

put-own : (l : List Float) (i : ℕ) → put l i (point_at l i) ≡ l
unfolding put point_at
put-own l i =
    let e : suc (3 * i) ≡ 3 * i + 1 = omega arith in
    let f : suc (3 * i + 1) ≡ 3 * i + 2 = omega arith in
    rw (set-get_or l (3 * i) nan, e, set-get_or l (3 * i + 1) nan, f, set-get_or l (3 * i + 2) nan)

pub put_back : (l : List Float) (i : ℕ) (p q : Point3D) → q ≡ point_at l i → sets (put l i p) (3 * i) (triple q) ≡ l
unfolding put
put_back l i p q e = rw e (sets_over (triple p) (triple (point_at l i)) l (3 * i) refl ∙ put-own l i)

one_more : (n : ℕ) → ltb (n + 1) 3 ≡ ltb n 2
one_more n =
    ⊎_elim (λ l. lt-ltb (n + 1) 3 (omega arith) ∙ sym (lt-ltb n 2 l)) (λ l. le-ltb (n + 1) 3 (omega arith) ∙ sym (le-ltb n 2 l)) (lt_or_ge n 2)

module _ (s : Live) (p : Point3D) where
  cut-is : (s' : Live) (l : Point3D) → (ltb s.count 2 || goes_on s p) ≡ false → (l ≡ slot s (s.count - 1)) × (s' ≡ cutting s p) → Pushed s s' p (Some l)
  unfolding push end_for
  cut-is s' l h e = record { end = rw (h, e.0); state = rw (h, e.1) }

  pub push_full : slot_count ≤ s.count → (s' : Live) (l : Point3D) → (l ≡ slot s (s.count - 1)) × (s' ≡ cutting s p) → Pushed s s' p (Some l)
  unfolding goes_on
  push_full h s' l e = cut-is s' l (rw (le-ltb s.count 2 (omega arith), le-ltb s.count slot_count h) refl) e

  -- t is s with p behind the others
  pub longer_few : (t : Live) → s.count < slot_count → t ≡ behind s p → (1 ≤ t.count) × (t.count ≤ slot_count)
  unfolding behind
  longer_few t l e = let z : t.count ≡ s.count + 1 = rw e in (omega arith, omega arith)

  -- and b is what the code finds of it
  module _ (t : Live) (b : Bool) (l : s.count < slot_count) (e : t ≡ behind s p)
      (is : b ≡ (ltb t.count 3 || ((line_deviation line_sq (slot t) 0 (t.count - 1)).dist ≺ t.tolerance))) where
    test : b ≡ (ltb s.count 2 || goes_on s p)
    unfolding goes_on behind
    test =
        let z : s.count + 1 - 1 ≡ s.count = omega arith in
        is ∙ rw (e, one_more s.count, z, lt-ltb s.count slot_count l)

    pub push_longer : b ≡ true → Pushed s t p None
    unfolding push end_for
    push_longer h = record { end = rw (sym test ∙ h); state = rw (sym test ∙ h, e) }

    pub longer_two : b ≡ false → 1 ≤ s.count
    longer_two h = let z = ltb-false s.count 2 (or_false (ltb s.count 2) (goes_on s p) (sym test ∙ h)).0 in omega arith

    pub push-cut_off : b ≡ false → (s' : Live) (l : Point3D) → (l ≡ slot s (s.count - 1)) × (s' ≡ cutting s p) → Pushed s s' p (Some l)
    push-cut_off h s' l c = cut-is s' l (sym test ∙ h) c

  -- t is s again where its last slot gets back what s had there
  pub let_go : (t : Live) (q : Point3D) (ps : List Float) → t ≡ behind s p → q ≡ point_at s.points s.count → ps ≡ sets t.points (3 * s.count) (triple q)
      → record { tolerance = t.tolerance; points = ps; count = s.count; closed = t.closed } ≡ s
  unfolding behind
  let_go t q ps e f g =
      rw (g, e) (ap (λ (l : List Float). record { tolerance = s.tolerance; points = l; count = s.count; closed = s.closed }) (put_back s.points s.count p q f))
