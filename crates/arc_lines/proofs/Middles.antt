-- The vector that halves a part. In x or in y the two vectors' numbers have one sign, and one of them is 2 ^ -l or more: so the sum does not vanish, the middle has bounds, and
-- each half is such a part again, with l + 56 for l. The tenth halving from 2 ^ -32 on has 32 + 9 * 56 = 536, and 2 ^ -536 is just large enough to be squared. Assumes nothing.
use Prim.Native.Nat.{ℕ, ◌+◌, ◌*◌, ◌^◌, ◌≤◌}
use mathlib.Core.Path.{sym, subst}
use mathlib.Core.Logic.{◌⊎◌, inl, inr, ⊎_elim}
use mathlib.Core.Bool.{Bool}
use mathlib.Core.List.{List, [], ◌∷◌}
use native.Mathlib.Omega.{arith}
use lib.ListN.{length}
use lib.Ieee.{Float, binary64}
use lib.Ieee.Fits.{add-fits}
use Rattle.floats.specs.Ops.{◌⊕◌, ◌⊗◌, ◌⊘◌}
use Rattle.floats.specs.Float.{is_minus}
use Rattle.floats.proofs.Bounds.{Below, AtLeast, add_below}
use Rattle.course.proofs.FiniteCenters.{Flat}
use Rattle.geo.specs.declared.types.Point.{Point}
use Rattle.flatten.specs.Parts.{length_by, stretched, middle, ArcPart}
use Rattle.arc_lines.specs.Laws.{Half, first, second, CameBy, AllFinished}
use Rattle.arc_lines.proofs.Signs.{add_turned}
use Rattle.arc_lines.proofs.Sizes.{Small, SignIs, sign-is, sum_alike, turned-least, sum_sign, add_apart, apart_sign, small_less}
use Rattle.arc_lines.proofs.Lengths.{length_turned}
use Rattle.arc_lines.proofs.Stretched.{Radius, Stretched, stretch}

-- ---- parts
-- two numbers of one sign, one of them 2 ^ -l or more
pub record OneSign (l : ℕ) (p q : Float) : Type 0 where
  pub sign : Bool
  pub first : SignIs sign p
  pub second : SignIs sign q
  pub large : AtLeast l p ⊎ AtLeast l q

-- in x or in y
abbrev pub Agree : ℕ → Point → Point → Type 0
Agree l u w = OneSign l u.x w.x ⊎ OneSign l u.y w.y

-- one number is large in the first vector, where the second's is all but zero, and the other number the other way round
pub record Apart (p q a b : Float) : Type 0 where
  pub first_large : AtLeast 31 p
  pub first_small : Small 1040 q
  pub second_small : Small 1040 a
  pub second_large : AtLeast 31 b

-- the vectors (p, q) and (a, b), from which halving starts
abbrev pub Start : Float → Float → Float → Float → Type 0
Start p q a b = (OneSign 32 p a ⊎ OneSign 32 q b) ⊎ (Apart p q a b ⊎ Apart q p b a)

-- what is known of the middle
pub record Halves (l : ℕ) (r : Float) (u w : Point) : Type 0 where
  pub inside : Flat 24 (middle r u w)
  pub before : Agree l u (middle r u w)
  pub after : Agree l (middle r u w) w

-- ---- sums
sum_in : {p q : Float} → Below 24 p → Below 24 q → Below 25 (p ⊕ q)
sum_in P Q = add_below (omega arith) P Q

one-sign_sum : (l : ℕ) → l + l ≤ 1072 → (p q : Float) → Below 24 p → Below 24 q → (h : OneSign l p q) → SignIs h.sign (p ⊕ q) × AtLeast l (p ⊕ q)
one-sign_sum l o p q P Q h =
    let s = h.sign in
    let w = (sum_in P Q).within in (
      sum_sign (2 ^ 25) s p q h.first h.second w,
      ⊎_elim (λ a. sum_alike l (2 ^ 25) s p q (omega arith) h.first h.second a w)
          (λ a. turned-least l p q (sum_alike l (2 ^ 25) s q p (omega arith) h.second h.first a (sum_in Q P).within)) h.large,
    )

apart_sum : (p q : Float) → Below 24 p → Below 24 q → AtLeast 31 p → Small 1040 q → SignIs (is_minus p) (p ⊕ q) × AtLeast 32 (p ⊕ q)
apart_sum p q P Q a h =
    let w = (sum_in P Q).within in
    let t = small_less 33 1040 q (omega arith) h in
    (apart_sign 31 (2 ^ 25) (is_minus p) p q (sign-is (2 ^ 24) p P.within) a t w, add_apart 31 (2 ^ 25) p q (omega arith) a t w)

-- ---- the middle
module _ (r : Float) (R : Radius r) (u w : Point) (U : Flat 24 u) (W : Flat 24 w) where
  sum_x : Below 25 (u.x ⊕ w.x)
  sum_x = sum_in U.in_x W.in_x

  sum_y : Below 25 (u.y ⊕ w.y)
  sum_y = sum_in U.in_y W.in_y

  -- where the sum is large in x, and where it is large in y
  large_x : (l : ℕ) → l + l ≤ 1072 → (s : Bool) → SignIs s (u.x ⊕ w.x) → AtLeast l (u.x ⊕ w.x) → Stretched l s (middle r u w).x (middle r u w).y
  unfolding middle stretched length_by
  large_x l o s i a = stretch r R l o s (u.x ⊕ w.x) (u.y ⊕ w.y) sum_x sum_y (add-fits binary64 u.x w.x) (add-fits binary64 u.y w.y) a i

  large_y : (l : ℕ) → l + l ≤ 1072 → (s : Bool) → SignIs s (u.y ⊕ w.y) → AtLeast l (u.y ⊕ w.y) → Stretched l s (middle r u w).y (middle r u w).x
  unfolding middle stretched length_by
  large_y l o s i a =
      subst (λ (z : Float). Stretched l s ((u.y ⊕ w.y) ⊘ z ⊗ r) ((u.x ⊕ w.x) ⊘ z ⊗ r)) (length_turned (u.x ⊕ w.x) (u.y ⊕ w.y))
      (stretch r R l o s (u.y ⊕ w.y) (u.x ⊕ w.x) sum_y sum_x (add-fits binary64 u.y w.y) (add-fits binary64 u.x w.x) a i)

  halves_x : (l : ℕ) → l + l ≤ 1072 → OneSign l u.x w.x → Halves (l + 56) r u w
  halves_x l o h =
      let a = one-sign_sum l o u.x w.x U.in_x W.in_x h in
      let m = large_x l o h.sign a.0 a.1 in
      record {
        inside = record { in_x = m.first_below; in_y = m.second_below };
        before = inl (record { sign = h.sign; first = h.first; second = m.sign; large = inr m.large });
        after = inl (record { sign = h.sign; first = m.sign; second = h.second; large = inl m.large });
      }

  halves_y : (l : ℕ) → l + l ≤ 1072 → OneSign l u.y w.y → Halves (l + 56) r u w
  halves_y l o h =
      let a = one-sign_sum l o u.y w.y U.in_y W.in_y h in
      let m = large_y l o h.sign a.0 a.1 in
      record {
        inside = record { in_x = m.second_below; in_y = m.first_below };
        before = inr (record { sign = h.sign; first = h.first; second = m.sign; large = inr m.large });
        after = inr (record { sign = h.sign; first = m.sign; second = h.second; large = inl m.large });
      }

  halves : (l : ℕ) → l + l ≤ 1072 → Agree l u w → Halves (l + 56) r u w
  halves l o h = ⊎_elim (halves_x l o) (halves_y l o) h

  -- u's x and w's y are large
  apart_x : Apart u.x u.y w.x w.y → Halves 88 r u w
  apart_x h =
      let a = apart_sum u.x w.x U.in_x W.in_x h.first_large h.second_small in
      let b = apart_sum w.y u.y W.in_y U.in_y h.second_large h.first_small in
      let e = add_turned w.y u.y in
      let s = is_minus u.x in
      let t = is_minus w.y in
      let m = large_x 32 (omega arith) s a.0 a.1 in
      let n = large_y 32 (omega arith) t (subst (λ (z : Float). SignIs t z) e b.0) (subst (λ (z : Float). AtLeast 32 z) e b.1) in
      record {
        inside = record { in_x = m.first_below; in_y = m.second_below };
        before = inl (record { sign = s; first = sign-is (2 ^ 24) u.x U.in_x.within; second = m.sign; large = inr m.large });
        after = inr (record { sign = t; first = n.sign; second = sign-is (2 ^ 24) w.y W.in_y.within; large = inl n.large });
      }

  -- u's y and w's x are large
  apart_y : Apart u.y u.x w.y w.x → Halves 88 r u w
  apart_y h =
      let a = apart_sum u.y w.y U.in_y W.in_y h.first_large h.second_small in
      let b = apart_sum w.x u.x W.in_x U.in_x h.second_large h.first_small in
      let e = add_turned w.x u.x in
      let s = is_minus u.y in
      let t = is_minus w.x in
      let m = large_y 32 (omega arith) s a.0 a.1 in
      let n = large_x 32 (omega arith) t (subst (λ (z : Float). SignIs t z) e b.0) (subst (λ (z : Float). AtLeast 32 z) e b.1) in
      record {
        inside = record { in_x = m.second_below; in_y = m.first_below };
        before = inr (record { sign = s; first = sign-is (2 ^ 24) u.y U.in_y.within; second = m.sign; large = inr m.large });
        after = inl (record { sign = t; first = n.sign; second = sign-is (2 ^ 24) w.x W.in_x.within; large = inl n.large });
      }

  start_halves : Start u.x u.y w.x w.y → Halves 88 r u w
  start_halves h = ⊎_elim (halves 32 (omega arith)) (⊎_elim apart_x apart_y) h

-- ---- over the halvings
module _ (r limit : Float) (R : Radius r) where
  came-inside : (hs : List Half) (l : ℕ) (u w : Point) (p : ArcPart) → l + 56 * length hs ≤ 592 → Flat 24 u → Flat 24 w → Agree l u w → CameBy r limit hs u w p → Flat 24 p.to
  came-inside [] l u w p o U W j c = subst (λ (q : ArcPart). Flat 24 q.to) (sym c) W
  came-inside (first ∷ hs) l u w p o U W j c =
      let h = halves r R u w U W l (omega arith) j in came-inside hs (l + 56) u (middle r u w) p (omega arith) U h.inside h.before c.1
  came-inside (second ∷ hs) l u w p o U W j c =
      let h = halves r R u w U W l (omega arith) j in came-inside hs (l + 56) (middle r u w) w p (omega arith) h.inside W h.after c.1

  start-inside : (hs : List Half) (u w : Point) (p : ArcPart) → length hs ≤ 10 → Flat 24 u → Flat 24 w → Start u.x u.y w.x w.y → CameBy r limit hs u w p → Flat 24 p.to
  start-inside [] u w p o U W j c = subst (λ (q : ArcPart). Flat 24 q.to) (sym c) W
  start-inside (first ∷ hs) u w p o U W j c =
      let h = start_halves r R u w U W j in came-inside hs 88 u (middle r u w) p (omega arith) U h.inside h.before c.1
  start-inside (second ∷ hs) u w p o U W j c =
      let h = start_halves r R u w U W j in came-inside hs 88 (middle r u w) w p (omega arith) h.inside W h.after c.1

-- each part ends at a vector with bounds
abbrev pub EndsInside : List ArcPart → Type 0
EndsInside [] = Unit
EndsInside (p ∷ ps) = Flat 24 p.to × EndsInside ps

pub all-inside : (r limit : Float) → Radius r → (u w : Point) → Flat 24 u → Flat 24 w → Start u.x u.y w.x w.y → (ps : List ArcPart) → AllFinished r limit 10 u w ps → EndsInside ps
all-inside r limit R u w U W j [] f = tt
all-inside r limit R u w U W j (p ∷ ps) f = let g = f.0 in (start-inside r limit R g.halvings u w p g.at_most U W j g.came, all-inside r limit R u w U W j ps f.1)
