-- Where halving starts: at a quarter turn, or at the rest of an arc, whose dot is not below zero. In x or in y the numbers of the two vectors have one sign, and one of them
-- has a size; or the vectors stand on the axes, but for numbers too small for a product. Assumes nothing.
use Prim.Native.Nat.{ℕ, zero, suc, ◌+◌, ◌^◌, ◌≤◌}
use mathlib.Core.Path.{◌≡◌, refl, sym, ◌∙◌, subst}
use mathlib.Core.Logic.{◌⊎◌, inl, inr, ⊎_elim}
use mathlib.Core.Bool.{Bool, true, false, not}
use mathlib.Core.List.{List, [], ◌∷◌, ◌++◌}
use native.Mathlib.Omega.{arith}
use borrow.Author.Tests.{not-true}
use lib.Ieee.{Float, unlike, neg}
use Rattle.floats.specs.Ops.{◌⊕◌, ◌⊗◌, ◌≺◌, +0}
use Rattle.floats.specs.Float.{is_minus}
use Rattle.floats.proofs.Order.{clash, and_right}
use Rattle.floats.proofs.Bounds.{Within, Below, AtLeast, add_below, neg_below}
use Rattle.course.proofs.FiniteCenters.{Flat, flat-more}
use Rattle.geo.specs.declared.types.Point.{Point}
use Rattle.trial.specs.Traversal.{dot2}
use Rattle.flatten.specs.Parts.{quarter_turn, onward, ArcPart}
use Rattle.arc_lines.specs.Laws.{TurnsDrawn, in_quarter, TurnsBefore}
use Rattle.arc_lines.proofs.Signs.{add_turned}
use Rattle.arc_lines.proofs.Sizes.{Small, SignIs, sign-is, least_or_small, mul_least, mul_small, neg_least, neg_sign, sum_alike, sum_sign, add_apart, apart_sign, least_more, under_zero}
use Rattle.arc_lines.proofs.Sided.{product_below, product_sign}
use Rattle.arc_lines.proofs.Stretched.{Radius}
use Rattle.arc_lines.proofs.Middles.{OneSign, Agree, Apart, Start, EndsInside, all-inside}

-- a vector of an accepted arc: with bounds, and one of its numbers is 2 ^ -31 or more
pub record Long (v : Point) : Type 0 where
  pub bounds : Flat 22 v
  pub large : AtLeast 31 v.x ⊎ AtLeast 31 v.y

-- ---- two signs
same_or_other : (s t : Bool) → (s ≡ t) ⊎ (unlike s t ≡ true)
same_or_other true true = inl refl
same_or_other true false = inr refl
same_or_other false true = inr refl
same_or_other false false = inl refl

other_is_not : (s t : Bool) → unlike s t ≡ true → not t ≡ s
other_is_not true true h = clash h
other_is_not true false h = refl
other_is_not false true h = refl
other_is_not false false h = clash h

swapped : {A B : Type 0} → A ⊎ B → B ⊎ A
swapped h = ⊎_elim inr inl h

sign_at : {k : ℕ} {x : Float} → Below k x → SignIs (is_minus x) x
sign_at {k} {x} h = sign-is (2 ^ k) x h.within

one-sign : {p q : Float} → Below 22 p → Below 22 q → is_minus p ≡ is_minus q → AtLeast 32 p ⊎ AtLeast 32 q → OneSign 32 p q
one-sign {p} {q} P Q e a = record { sign = is_minus p; first = sign_at P; second = subst (λ (s : Bool). SignIs s q) (sym e) (sign_at Q); large = a }

least_32 : (x : Float) → AtLeast 31 x → AtLeast 32 x
least_32 x a = least_more 31 32 x (omega arith) a

-- ---- a quarter turn
-- p and q, or p and −q, have one sign
one-sign-turned : {p q : Float} → Below 22 p → Below 22 q → unlike (is_minus p) (is_minus q) ≡ true → AtLeast 31 p ⊎ AtLeast 31 q → OneSign 32 p (neg q)
one-sign-turned {p} {q} P Q e a =
    record {
      sign = is_minus p;
      first = sign_at P;
      second = subst (λ (s : Bool). SignIs s (neg q)) (other_is_not (is_minus p) (is_minus q) e) (neg_sign (is_minus q) q (sign_at Q));
      large = ⊎_elim (λ h. inl (least_32 p h)) (λ h. inr (neg_least 32 q (least_32 q h))) a;
    }

either_32 : (x y : Float) → AtLeast 31 x ⊎ AtLeast 31 y → AtLeast 32 x ⊎ AtLeast 32 y
either_32 x y a = ⊎_elim (λ h. inl (least_32 x h)) (λ h. inr (least_32 y h)) a

unlike_turned : (s t : Bool) → unlike s t ≡ true → unlike t s ≡ true
unlike_turned true true h = h
unlike_turned true false h = h
unlike_turned false true h = h
unlike_turned false false h = h

turn_agrees : (clockwise : Bool) (u : Point) → Long u → Agree 32 u (quarter_turn clockwise u)
unfolding quarter_turn
turn_agrees true u L =
    let X = L.bounds.in_x in
    let Y = L.bounds.in_y in
    ⊎_elim (λ e. inl (one-sign X Y e (either_32 u.x u.y L.large))) (λ e. inr (one-sign-turned Y X (unlike_turned (is_minus u.x) (is_minus u.y) e) (swapped L.large)))
    (same_or_other (is_minus u.x) (is_minus u.y))
turn_agrees false u L =
    let X = L.bounds.in_x in
    let Y = L.bounds.in_y in
    ⊎_elim (λ e. inr (one-sign Y X (sym e) (either_32 u.y u.x (swapped L.large)))) (λ e. inl (one-sign-turned X Y e L.large))
    (same_or_other (is_minus u.x) (is_minus u.y))

turn_long : (clockwise : Bool) (u : Point) → Long u → Long (quarter_turn clockwise u)
unfolding quarter_turn
turn_long true u L =
    record { bounds = record { in_x = L.bounds.in_y; in_y = neg_below L.bounds.in_x }; large = ⊎_elim (λ h. inr (neg_least 31 u.x h)) inl L.large }
turn_long false u L =
    record { bounds = record { in_x = neg_below L.bounds.in_y; in_y = L.bounds.in_x }; large = ⊎_elim inr (λ h. inl (neg_least 31 u.y h)) L.large }

-- ---- the rest
-- the vectors (p, q) and (a, b), whose dot is not below zero
module _ (p q a b : Float) (P : Below 22 p) (Q : Below 22 q) (A : Below 22 a) (B : Below 22 b) (n : (p ⊗ a ⊕ q ⊗ b ≺ +0) ≡ false) where
  dot-within : Within (2 ^ 45) (p ⊗ a ⊕ q ⊗ b)
  dot-within = let d : Below 45 (p ⊗ a ⊕ q ⊗ b) = add_below (omega arith) (product_below P A) (product_below Q B) in d.within

  never : (l : ℕ) → AtLeast l (p ⊗ a ⊕ q ⊗ b) → SignIs true (p ⊗ a ⊕ q ⊗ b) → ⊥
  never l h s = clash (sym n ∙ under_zero l (p ⊗ a ⊕ q ⊗ b) h s)

  other_signed : {x y : Float} → Below 22 x → Below 22 y → unlike (is_minus x) (is_minus y) ≡ true → SignIs true (x ⊗ y)
  other_signed {x} {y} X Y e = subst (λ (s : Bool). SignIs s (x ⊗ y)) e (product_sign X Y)

  -- p and a of two signs and large, q and b small
  outweighed : unlike (is_minus p) (is_minus a) ≡ true → AtLeast 31 p → AtLeast 31 a → Small 32 q → Small 32 b → ⊥
  outweighed e h g i j =
      let x = mul_least 31 31 (2 ^ 44) p a (omega arith) h g (product_below P A).within in
      let y = mul_small 32 32 (2 ^ 44) q b (omega arith) i j (product_below Q B).within in
      never 63 (add_apart 62 (2 ^ 45) (p ⊗ a) (q ⊗ b) (omega arith) x y dot-within) (apart_sign 62 (2 ^ 45) true (p ⊗ a) (q ⊗ b) (other_signed P A e) x y dot-within)

  -- both of two signs: no product may have a size
  clashing : (j k : ℕ) → j + k ≤ 1074 → unlike (is_minus p) (is_minus a) ≡ true → unlike (is_minus q) (is_minus b) ≡ true → AtLeast j p → AtLeast k a → ⊥
  clashing j k o e f h g =
      let x = mul_least j k (2 ^ 44) p a o h g (product_below P A).within in
      never (j + k) (sum_alike (j + k) (2 ^ 45) true (p ⊗ a) (q ⊗ b) o (other_signed P A e) (other_signed Q B f) x dot-within) (sum_sign (2 ^ 45) true (p ⊗ a) (q ⊗ b) (other_signed P A e) (other_signed Q B f) dot-within)

-- the same with x and y exchanged
exchanged : (p q a b : Float) → Start q p b a → Start p q a b
exchanged p q a b h = ⊎_elim (λ g. inl (swapped g)) (λ g. inr (swapped g)) h

turned_not_below : (x y : Float) → (x ⊕ y ≺ +0) ≡ false → (y ⊕ x ≺ +0) ≡ false
turned_not_below x y n = subst (λ (z : Float). (z ≺ +0) ≡ false) (add_turned x y) n

module _ (p q a b : Float) (P : Below 22 p) (Q : Below 22 q) (A : Below 22 a) (B : Below 22 b) (n : (p ⊗ a ⊕ q ⊗ b ≺ +0) ≡ false) where
  n_turned : (q ⊗ b ⊕ p ⊗ a ≺ +0) ≡ false
  n_turned = turned_not_below (p ⊗ a) (q ⊗ b) n

  -- p and a of one sign
  same-signs : is_minus p ≡ is_minus a → AtLeast 31 p ⊎ AtLeast 31 q → AtLeast 31 a ⊎ AtLeast 31 b → Start p q a b
  same-signs e (inl h) g = inl (inl (one-sign P A e (inl (least_32 p h))))
  same-signs e (inr h) (inl g) = inl (inl (one-sign P A e (inr (least_32 a g))))
  same-signs e (inr h) (inr g) =
      ⊎_elim (λ f. inl (inr (one-sign Q B f (inl (least_32 q h)))))
      (λ f.
      ⊎_elim (λ i. inl (inl (one-sign P A e (inl i))))
      (λ i. ⊎_elim (λ j. inl (inl (one-sign P A e (inr j)))) (λ j. absurd (outweighed q p b a Q P B A n_turned f h g i j)) (least_or_small 32 (2 ^ 22) a A.within))
      (least_or_small 32 (2 ^ 22) p P.within))
      (same_or_other (is_minus q) (is_minus b))

  -- p and a of two signs, and q and b too
  on_axes : unlike (is_minus p) (is_minus a) ≡ true → unlike (is_minus q) (is_minus b) ≡ true → AtLeast 31 p → AtLeast 31 b → Apart p q a b
  on_axes e f h g =
      record {
        first_large = h;
        first_small = ⊎_elim (λ i. absurd (clashing q p b a Q P B A n_turned 1040 31 (omega arith) f e i g)) (λ i. i) (least_or_small 1040 (2 ^ 22) q Q.within);
        second_small = ⊎_elim (λ i. absurd (clashing p q a b P Q A B n 31 1040 (omega arith) e f h i)) (λ i. i) (least_or_small 1040 (2 ^ 22) a A.within);
        second_large = g;
      }

module _ (p q a b : Float) (P : Below 22 p) (Q : Below 22 q) (A : Below 22 a) (B : Below 22 b) (n : (p ⊗ a ⊕ q ⊗ b ≺ +0) ≡ false) where
  other_signs : unlike (is_minus p) (is_minus a) ≡ true → unlike (is_minus q) (is_minus b) ≡ true → AtLeast 31 p ⊎ AtLeast 31 q → AtLeast 31 a ⊎ AtLeast 31 b → Start p q a b
  other_signs e f (inl h) (inl g) = absurd (clashing p q a b P Q A B n 31 31 (omega arith) e f h g)
  other_signs e f (inl h) (inr g) = inr (inl (on_axes p q a b P Q A B n e f h g))
  other_signs e f (inr h) (inl g) = inr (inr (on_axes q p b a Q P B A (turned_not_below (p ⊗ a) (q ⊗ b) n) f e h g))
  other_signs e f (inr h) (inr g) = absurd (clashing q p b a Q P B A (turned_not_below (p ⊗ a) (q ⊗ b) n) 31 31 (omega arith) f e h g)

  rest-started : AtLeast 31 p ⊎ AtLeast 31 q → AtLeast 31 a ⊎ AtLeast 31 b → Start p q a b
  rest-started h g =
      ⊎_elim (λ e. same-signs p q a b P Q A B n e h g)
      (λ e.
      ⊎_elim (λ f. exchanged p q a b (same-signs q p b a Q P B A (turned_not_below (p ⊗ a) (q ⊗ b) n) f (swapped h) (swapped g))) (λ f. other_signs e f h g)
      (same_or_other (is_minus q) (is_minus b)))
      (same_or_other (is_minus p) (is_minus a))

rest-start : (v w : Point) → Long v → Long w → (dot2 v w ≺ +0) ≡ false → Start v.x v.y w.x w.y
unfolding dot2
rest-start v w L M n = rest-started v.x v.y w.x w.y L.bounds.in_x L.bounds.in_y M.bounds.in_x M.bounds.in_y n L.large M.large

-- ---- over the turns
ends-both : (ps qs : List ArcPart) → EndsInside ps → EndsInside qs → EndsInside (ps ++ qs)
ends-both [] qs h g = g
ends-both (p ∷ ps) qs h g = (h.0, ends-both ps qs h.1 g)

-- Every part of an arc ends at a vector with bounds.
pub turns-inside : (clockwise : Bool) (r limit : Float) → Radius r → (k : ℕ) (u w : Point) (ps : List ArcPart) → Long u → Long w → TurnsBefore clockwise k u w → TurnsDrawn clockwise r limit k u w ps
    → EndsInside ps
unfolding in_quarter
turns-inside clockwise r limit R zero u w ps L M b t =
    let n : (dot2 u w ≺ +0) ≡ false = not-true (dot2 u w ≺ +0) (and_right (+0 ≺ onward clockwise u w) (not (dot2 u w ≺ +0)) b) in
    all-inside r limit R u w (flat-more 24 (omega arith) L.bounds) (flat-more 24 (omega arith) M.bounds) (rest-start u w L M n) ps t.finished
turns-inside clockwise r limit R (suc k) u w ps L M b t =
    let v = quarter_turn clockwise u in
    let N = turn_long clockwise u L in
    subst EndsInside (sym t.joined)
    (ends-both t.front t.rest
    (all-inside r limit R u v (flat-more 24 (omega arith) L.bounds) (flat-more 24 (omega arith) N.bounds) (inl (turn_agrees clockwise u L)) t.front t.drawn.finished)
    (turns-inside clockwise r limit R k v w t.rest N M b.1 t.others))
