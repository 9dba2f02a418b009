-- A search that passes over points by their spreads finds what one that measures each point finds: division by the chord's square keeps the order. Assumes nothing.
use Prim.Native.Nat.{ℕ, ◌+◌, ◌*◌}
use mathlib.Core.Path.{◌≡◌, refl, sym, ap, ◌∙◌, subst}
use mathlib.Core.Logic.{⊎_elim}
use mathlib.Core.Bool.{true, false}
use native.Mathlib.Omega.{arith}
use borrow.Author.Tests.{lt-ltb}
use lib.Ieee.{Float, nan, inf, fin, up, down, div, lt, neg, is_nan, of_bits}
use lib.Ieee.Fits.{down_pos}
use Rattle.floats.specs.Ops.{◌⊖◌, ◌⊗◌, ◌⊘◌, ◌≺◌, +0, one}
use Rattle.floats.proofs.Order.{either, clash, lt_gap, lt_asym, lt_trans, lt_nan, lt_right}
use Rattle.floats.proofs.Unsigned.{Unsigned, square-unsigned, sum_unsigned, not_above, quotient_not_above}
use Rattle.geo.specs.declared.types.Point3D.{Point3D}
use Rattle.geo.specs.Vector.{perp_dot}
use Rattle.segment.specs.Segment.{degenerate}
use Rattle.farthest.specs.declared.farthest.Chord.{Chord}
use Rattle.farthest.specs.declared.farthest.Farthest.{Farthest}
use Rattle.farthest.specs.Measure.{to_line}
use Rattle.farthest.specs.Farthest.{on_chord, farther}
use Rattle.farthest.specs.Search.{spread_of, square_of_spread, Sound}
use Rattle.farthest.proofs.First.{farther_yes, farther_no}

-- nothing is below itself
below_itself : (x : Float) → (x ≺ x) ≡ false
below_itself x = ⊎_elim (λ t. lt_asym x x t) (λ t. t) (either (x ≺ x))

-- ---- spreads
-- the squared distance is the spread, scaled
pub scaled-is : (c : Chord) (p : Point3D) → to_line c p ≡ square_of_spread c (spread_of c p)
unfolding to_line square_of_spread spread_of
scaled-is c p = ⊎_elim (λ h. rw h) (λ h. rw h) (either (c.square ≺ degenerate))

spread_unsigned : (c : Chord) (p : Point3D) → Unsigned (spread_of c p)
unfolding spread_of
spread_unsigned c p =
    let x = p.x ⊖ c.start.x in
    let y = p.y ⊖ c.start.y in
    ⊎_elim (λ h. rw h (sum_unsigned (x ⊗ x) (y ⊗ y) (square-unsigned x) (square-unsigned y))) (λ h. rw h (square-unsigned (perp_dot x y c.dx c.dy)))
    (either (c.square ≺ degenerate))

-- ---- the order of spreads is that of distances
nan_quotient : (v L : Float) → is_nan L ≡ true → is_nan (v ⊘ L) ≡ true
unfolding div is_nan
nan_quotient nan L h = refl
nan_quotient (inf s) nan h = refl
nan_quotient (inf s) (inf t) h = refl
nan_quotient (inf s) (fin t n d) h = clash h
nan_quotient (fin s m e) nan h = refl
nan_quotient (fin s m e) (inf t) h = clash h
nan_quotient (fin s m e) (fin t n d) h = clash h

zero_below : (+0 ≺ degenerate) ≡ true
unfolding lt of_bits
zero_below = refl

-- w is a spread not above v; where v, scaled, is not above b, nor is w
scaled_not_above : (c : Chord) (b v w : Float) → Unsigned v → Unsigned w → is_nan v ≡ false → (v ≺ w) ≡ false → (b ≺ +0) ≡ false → (b ≺ square_of_spread c v) ≡ false
    → (b ≺ square_of_spread c w) ≡ false
unfolding square_of_spread
scaled_not_above c b v w p q n h z =
    ⊎_elim (λ t. rw t (λ k. not_above b v w n k h))
    (λ t. rw t (λ k. ⊎_elim (λ m. lt_nan b (w ⊘ c.square) (nan_quotient w c.square m))
    (λ m. ⊎_elim (λ l. quotient_not_above b c.square v w l p q n h z k) (λ l. clash (sym t ∙ l)) (lt_gap +0 c.square degenerate m zero_below))
    (either (is_nan c.square)))) (either (c.square ≺ degenerate))

scaled_nan : (c : Chord) (v : Float) → is_nan v ≡ true → is_nan (square_of_spread c v) ≡ true
unfolding square_of_spread is_nan div
scaled_nan c nan h = ⊎_elim (λ t. rw t) (λ t. rw t) (either (c.square ≺ degenerate))
scaled_nan c (inf s) h = clash h
scaled_nan c (fin s m e) h = clash h

-- ---- the farther of two
module _ (d : Float) (i : ℕ) (best : Farthest) where
  not_below_new : ((farther d i best).square ≺ d) ≡ false
  not_below_new = ⊎_elim (λ t. rw (farther_yes d i best t) (below_itself d)) (λ t. rw (farther_no d i best t) t) (either (best.square ≺ d))

  still_positive : (best.square ≺ +0) ≡ false → ((farther d i best).square ≺ +0) ≡ false
  still_positive z =
      ⊎_elim
      (λ t. rw (farther_yes d i best t) (⊎_elim (λ u. clash (sym z ∙ lt_trans best.square d +0 t u)) (λ u. u) (either (d ≺ +0))))
      (λ t. rw (farther_no d i best t) z) (either (best.square ≺ d))

-- ---- the search
above_minus_one : (v : Float) → Unsigned v → is_nan v ≡ false → (neg one ≺ v) ≡ true
unfolding lt neg of_bits is_nan
above_minus_one nan p n = clash (sym n)
above_minus_one (inf true) p n = clash (sym p)
above_minus_one (inf false) p n = refl
above_minus_one (fin true m e) p n = clash (sym p)
above_minus_one (fin false m e) p n = lt-ltb 0 (1 * 1 * down e + m * up e * 1) (let h = down_pos e in omega (arith, h))

module _ (c : Chord) where
  pub sound_start : (best : Farthest) (start : ℕ) → best ≡ on_chord start → Sound c (neg one) best
  sound_start best start e =
      rw e record {
        positive = below_itself +0;
        covers = λ p h.
            ⊎_elim (λ n. lt_nan +0 (to_line c p) (rw (scaled-is c p) (scaled_nan c (spread_of c p) n)))
            (λ n. clash (sym h ∙ above_minus_one (spread_of c p) (spread_unsigned c p) n)) (either (is_nan (spread_of c p)));
      }

  module _ (top : Float) (best : Farthest) (v : Sound c top best) (p : Point3D) (i : ℕ) (w : Float) (e : w ≡ spread_of c p) where
    -- a point that is passed over
    pub look_past : (top ≺ w) ≡ false → best ≡ farther (to_line c p) i best
    look_past h = sym (farther_no (to_line c p) i best (v.covers p (rw e at h)))

    -- one that is measured: d is its distance
    module _ (d : Float) (best' : Farthest) (h : (top ≺ w) ≡ true) (ed : d ≡ square_of_spread c w) (eb : best' ≡ farther d i best) where
      pub look_at : best' ≡ farther (to_line c p) i best
      look_at =
          let g : d ≡ to_line c p = ed ∙ ap (square_of_spread c) e ∙ sym (scaled-is c p) in
          eb ∙ ap (λ (x : Float). farther x i best) g

      pub sound_at : Sound c w best'
      sound_at =
          let z = subst (λ (b : Farthest). (b.square ≺ +0) ≡ false) (sym eb) (still_positive d i best v.positive) in
          let k = subst (λ (b : Farthest). (b.square ≺ d) ≡ false) (sym eb) (not_below_new d i best) in
          record {
            positive = z;
            covers = λ q u.
                rw (scaled-is c q)
                (scaled_not_above c best'.square w (spread_of c q) (rw e (spread_unsigned c p)) (spread_unsigned c q) (lt_right top w h) u z
                (subst (λ (x : Float). (best'.square ≺ x) ≡ false) ed k));
          }
