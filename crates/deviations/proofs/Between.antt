-- Where the deviation of a line is below a tolerance, each point between is, whose squared distance is a number: none is above that of the first farthest, and
-- the root keeps the order. Assumes nothing.
use Rattle.std.specs.Prelude.{if◌then◌else◌}
use Prim.Native.Nat.{ℕ, ◌<◌}
use mathlib.Core.Path.{◌≡◌, refl, sym, ap, ◌∙◌, subst}
use mathlib.Core.Logic.{⊎_elim}
use mathlib.Core.Bool.{true, false}
use native.Mathlib.Omega.{arith}
use native.Mathlib.Nat.{eq-or-lt_of_le}
use lib.Dec.{T}
use lib.Ieee.{Float, binary64, is_nan, of_bits, fits}
use lib.Ieee.Fits.{add-fits, div-fits}
use lib.Ieee.Bits.{of_bits-fits}
use Rattle.floats.specs.Ops.{◌⊖◌, ◌⊗◌, ◌⊘◌, ◌≺◌, +0}
use Rattle.floats.specs.Root.{root_of}
use Rattle.floats.proofs.Order.{either, clash, lt_or_ge, lt_asym, lt_right}
use Rattle.floats.proofs.Unsigned.{Unsigned, square-unsigned, sum_unsigned, quotient_unsigned}
use Rattle.floats.proofs.root.Compared.{Square, root_below}
use Rattle.geo.specs.declared.types.Point3D.{Point3D}
use Rattle.geo.specs.Vector.{length_sq, perp_dot}
use Rattle.segment.specs.Segment.{degenerate}
use Rattle.deviations.specs.Line.{rooted, line_deviation}
use Rattle.farthest.specs.Measure.{chord_of, to_line, line_sq}
use Rattle.farthest.specs.Farthest.{farthest_in}
use Rattle.farthest.proofs.First.{first_farthest}

length_unsigned : (x y : Float) → Unsigned (length_sq x y)
length_unsigned x y = sum_unsigned (x ⊗ x) (y ⊗ y) (square-unsigned x) (square-unsigned y)

module _ (x y dx dy : Float) where
  abbrev offset : Float
  offset = if length_sq dx dy ≺ degenerate then length_sq x y else perp_dot x y dx dy ⊗ perp_dot x y dx dy ⊘ length_sq dx dy

  offset_unsigned : Unsigned offset
  offset_unsigned =
      let c = perp_dot x y dx dy in
      ⊎_elim (λ h. rw h (length_unsigned x y)) (λ h. rw h (quotient_unsigned (c ⊗ c) (length_sq dx dy) (square-unsigned c) (length_unsigned dx dy)))
      (either (length_sq dx dy ≺ degenerate))

  offset_fits : T (fits binary64 offset)
  offset_fits =
      let c = perp_dot x y dx dy in
      ⊎_elim (λ h. rw h (add-fits binary64 (x ⊗ x) (y ⊗ y))) (λ h. rw h (div-fits binary64 (c ⊗ c) (length_sq dx dy))) (either (length_sq dx dy ≺ degenerate))

-- a squared distance to a line is one, but for a NaN
pub line-squared : (a b p : Point3D) → is_nan (line_sq a b p) ≡ false → Square (line_sq a b p)
unfolding line_sq to_line chord_of
line-squared a b p n =
    let x = p.x ⊖ a.x in
    let y = p.y ⊖ a.y in
    let dx = b.x ⊖ a.x in
    let dy = b.y ⊖ a.y in
    record { plus = offset_unsigned x y dx dy; number = n; held = offset_fits x y dx dy }

zero_square : Square +0
unfolding of_bits is_nan
zero_square = record { plus = refl; number = refl; held = of_bits-fits binary64 0 }

module _ (at : ℕ → Point3D) (lo hi : ℕ) (t : Float) where
  -- Where the line's deviation is below t, a point strictly between, whose squared distance is a number, is below t from the line.
  pub point-below : ((line_deviation line_sq at lo hi).dist ≺ t) ≡ true → (j : ℕ) → lo < j → j < hi → is_nan (line_sq (at lo) (at hi) (at j)) ≡ false
      → (root_of (line_sq (at lo) (at hi) (at j)) ≺ t) ≡ true
  unfolding line_deviation rooted
  point-below d j l h n =
      let f : ℕ → Float = λ i. line_sq (at lo) (at hi) (at i) in
      let s = line-squared (at lo) (at hi) (at j) n in
      let w = farthest_in line_sq at lo hi in
      ⊎_elim
      (λ r. root_below (f j) +0 t s zero_square (r.1 j (omega arith) h) (subst (λ (x : Float). (root_of x ≺ t) ≡ true) (ap (λ v. v.square) r.0) d))
      (λ r. let q : Square w.square = subst Square (sym r.value) (line-squared (at lo) (at hi) (at w.index) (subst (λ (x : Float). is_nan x ≡ false) r.value (lt_right +0 w.square r.above))) in
      ⊎_elim
      (λ b. root_below (f j) w.square t s q
      (⊎_elim (λ z. lt_asym (f j) w.square z) (λ z. clash (sym n ∙ z)) (r.before j (omega arith) b)) d)
      (λ b. ⊎_elim (λ z. subst (λ (x : Float). (root_of x ≺ t) ≡ true) (r.value ∙ ap f z) d)
      (λ z. root_below (f j) w.square t s q (r.after j z h) d) (eq-or-lt_of_le b))
      (lt_or_ge j w.index))
      (first_farthest line_sq at lo hi)
