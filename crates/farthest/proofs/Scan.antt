-- The search for the first farthest point, in the form in which a loop `for i in a..e` meets it: e - i points are left. Assumes nothing.
use Prim.Native.Nat.{ℕ, suc, ◌+◌, ◌-◌, ◌≤◌, ◌<◌}
use mathlib.Core.Path.{◌≡◌, sym, ap, ◌∙◌, subst}
use mathlib.Core.Bool.{false}
use Rattle.floats.specs.Ops.{◌≺◌, +0}
use Rattle.farthest.proofs.First.{farther_no}
use native.Mathlib.Omega.{arith}
use lib.Ieee.{Float}
use Rattle.std.specs.Prelude.{Option, None, Some}
use Rattle.geo.specs.declared.types.Point3D.{Point3D}
use Rattle.farthest.specs.declared.farthest.Chord.{Chord}
use Rattle.farthest.specs.Candidates.{to_end}
use Rattle.farthest.specs.declared.farthest.Farthest.{Farthest}
use Rattle.farthest.specs.Measure.{Measure, chord_of, to_line}
use Rattle.farthest.specs.Farthest.{on_chord, farther, farthest_of, farthest_in}

-- w is where the whole search ends
module _ (f : ℕ → Float) (e : ℕ) (w : Farthest) where
  -- a turn: best' is the farther of best and the point at i, whose squared distance is d
  pub scan_turn : (i : ℕ) (d : Float) (best best' : Farthest) → i < e → d ≡ f i → best' ≡ farther d i best
      → farthest_of f (e - i) i best ≡ w → farthest_of f (e - (i + 1)) (i + 1) best' ≡ w
  unfolding farthest_of
  scan_turn i d best best' h q p r =
      let z : e - i ≡ suc (e - (i + 1)) = omega arith in
      ap (farthest_of f (e - (i + 1)) (i + 1)) (p ∙ ap (λ (x : Float). farther x i best) q) ∙ sym (rw z) ∙ r

  pub scan_done : (i : ℕ) (best : Farthest) → e ≤ i → farthest_of f (e - i) i best ≡ w → best ≡ w
  unfolding farthest_of
  scan_done i best h r = let z : e - i ≡ 0 = omega arith in sym (rw z) ∙ r

  -- two turns at once, and the turn of a last point
  pub scan_two : (i : ℕ) (d d' : Float) (best best₁ best₂ : Farthest) → i + 1 < e → d ≡ f i → d' ≡ f (i + 1) → best₁ ≡ farther d i best → best₂ ≡ farther d' (i + 1) best₁
      → farthest_of f (e - i) i best ≡ w → farthest_of f (e - (i + 2)) (i + 2) best₂ ≡ w
  scan_two i d d' best best₁ best₂ h q q' p p' r =
      let z : i + 1 + 1 ≡ i + 2 = omega arith in
      subst (λ (k : ℕ). farthest_of f (e - k) k best₂ ≡ w) z (scan_turn (i + 1) d' best₁ best₂ h q' p' (scan_turn i d best best₁ (omega arith) q p r))

  pub scan_last : (i : ℕ) (d : Float) (best best' : Farthest) → i < e → e ≤ i + 1 → d ≡ f i → best' ≡ farther d i best → farthest_of f (e - i) i best ≡ w → best' ≡ w
  scan_last i d best best' h k q p r = scan_done (i + 1) best' k (scan_turn i d best best' h q p r)

-- ---- where a loop stands before index i, over any measure and any reading `at`: what is left, searched from the best so far, ends where the whole search ends
abbrev pub Onward : {P : Type 0} → Measure P → (ℕ → P) → ℕ → ℕ → ℕ → Farthest → Type 0
Onward m at lo hi i best = (lo < i) × (farthest_of (λ j. m (at lo) (at hi) (at j)) (hi - i) i best ≡ farthest_in m at lo hi)

-- before the first point
pub scan_onward : {P : Type 0} (m : Measure P) (at : ℕ → P) (lo hi : ℕ) (best : Farthest) → best ≡ on_chord lo
    → farthest_of (λ j. m (at lo) (at hi) (at j)) (hi - (lo + 1)) (lo + 1) best ≡ farthest_in m at lo hi
unfolding farthest_in
scan_onward m at lo hi best e = rw e

module _ {P : Type 0} (m : Measure P) (at : ℕ → P) (lo hi : ℕ) where
  pub onward-start : (best : Farthest) → best ≡ on_chord lo → Onward m at lo hi (lo + 1) best
  onward-start best e = (omega arith, scan_onward m at lo hi best e)

  pub onward_turn : (i : ℕ) (d : Float) (best best' : Farthest) → i < hi → d ≡ m (at lo) (at hi) (at i) → best' ≡ farther d i best → Onward m at lo hi i best → Onward m at lo hi (i + 1) best'
  onward_turn i d best best' h q p r = (omega arith, scan_turn (λ j. m (at lo) (at hi) (at j)) hi (farthest_in m at lo hi) i d best best' h q p r.1)

  pub onward-done : (i : ℕ) (best : Farthest) → hi ≤ i → Onward m at lo hi i best → best ≡ farthest_in m at lo hi
  onward-done i best h r = scan_done (λ j. m (at lo) (at hi) (at j)) hi (farthest_in m at lo hi) i best h r.1

  -- an item that is no candidate counts as on the chord, and is passed over
  pub onward_past : (i : ℕ) (best best' : Farthest) → i < hi → m (at lo) (at hi) (at i) ≡ +0 → (best.square ≺ +0) ≡ false → best' ≡ best → Onward m at lo hi i best → Onward m at lo hi (i + 1) best'
  onward_past i best best' h z p e r =
      onward_turn i +0 best best' h (sym z) (e ∙ sym (farther_no +0 i best p)) r

-- ---- r is an item's end where it is a candidate, and `measured` says that the distance to the chord of two ends is the measure
module _ {P : Type 0} (m : Measure P) (end : P → Point3D) (candidate : P → Option Point3D) (measured : (a b x : P) → m a b x ≡ to_end (chord_of (end a) (end b)) (candidate x)) (a b x : P) where
  pub by_end : {chord : Chord} → chord ≡ chord_of (end a) (end b) → (r : Option Point3D) → r ≡ candidate x → (p : Point3D) → r ≡ Some p → to_line chord p ≡ m a b x
  by_end e r f p h = rw e (sym (measured a b x ∙ ap (to_end (chord_of (end a) (end b))) (sym f ∙ h)))

  pub by_none : (r : Option Point3D) → r ≡ candidate x → r ≡ None → m a b x ≡ +0
  by_none r f h = measured a b x ∙ ap (to_end (chord_of (end a) (end b))) (sym f ∙ h)
