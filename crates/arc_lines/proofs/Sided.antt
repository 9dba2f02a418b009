-- The cross and the dot of two vectors, each 1e-9 long or longer, do not both come out as zero: of the two sums one adds numbers of one sign, and where these are both
-- too small to tell, one number of the other outweighs the other. Assumes nothing.
use Prim.Native.Nat.{ℕ, ◌^◌}
use mathlib.Core.Path.{◌≡◌, refl, sym, ◌∙◌, subst}
use mathlib.Core.Logic.{◌⊎◌, inl, inr, ⊎_elim}
use mathlib.Core.Bool.{Bool, true, false, not, ◌||◌}
use native.Mathlib.Omega.{arith}
use lib.Dec.{T}
use lib.Ieee.{Float, nan, inf, fin, binary64, round, unlike, sub, neg, lt, le, is_nan, of_bits}
use lib.Ieee.Fits.{add-fits, round-fits}
use Rattle.floats.specs.Ops.{◌⊕◌, ◌⊗◌, ◌≺◌, +0}
use Rattle.floats.specs.Limits.{nano}
use Rattle.floats.specs.Float.{is_minus}
use Rattle.floats.specs.Root.{root_of, plain}
use Rattle.floats.proofs.Order.{clash, lt_gap, le_below}
use Rattle.floats.proofs.Bounds.{Within, Below, AtLeast, add_below, mul_below, neg_below, below_more}
use Rattle.floats.proofs.root.Plain.{square-plain, add_plain}
use Rattle.floats.proofs.root.Nearest.{root_is_rounded}
use Rattle.floats.proofs.root.Monotone.{root_monotone}
use Rattle.geo.specs.declared.types.Point.{Point}
use Rattle.geo.specs.Vector.{length_of}
use Rattle.trial.specs.Traversal.{cross2, dot2}
use Rattle.flatten.specs.Parts.{length_by, onward}
use Rattle.arc_lines.proofs.Quarters.{Sided}
use Rattle.arc_lines.proofs.Signs.{add_turned, neg_above, neg_below_zero}
use Rattle.arc_lines.proofs.Sizes.{Small, least_or_small, mul_least, mul_small, add_apart, sum_alike, turned-least, beside, SignIs, sign-is, sign_of, mul_sign, least_more, small_less, neg_least, neg_small, neg_sign, small_sum, unit}

-- ---- a vector with a length has a large number
-- 2 ^ -61: its root is below 1e-9
unit_root : (root_of (unit 61) ≺ nano) ≡ true
unfolding lt root_of round of_bits
unit_root = refl

unit_number : is_nan (root_of (unit 61)) ≡ false
unfolding is_nan root_of round
unit_number = refl

number_of : (x : Float) → T (plain x) → is_nan x ≡ false
unfolding plain is_nan
number_of nan p = absurd p
number_of (inf s) p = absurd p
number_of (fin s m e) p = refl

unlike_same : (s : Bool) → unlike s s ≡ false
unlike_same true = refl
unlike_same false = refl

square-sign : (b : ℕ) (x : Float) → Within b x → Within b (x ⊗ x) → SignIs false (x ⊗ x)
square-sign b x w v =
    ⊎_elim (λ h. subst (λ (z : Bool). SignIs z (x ⊗ x)) (unlike_same true) (mul_sign b true true x x h h v))
    (λ h. subst (λ (z : Bool). SignIs z (x ⊗ x)) (unlike_same false) (mul_sign b false false x x h h v)) (sign_of b x w)

square-below : {x : Float} → Below 22 x → Below 44 (x ⊗ x)
square-below h = mul_below (omega arith) h h

pub not_both_small : (p q : Float) → Below 22 p → Below 22 q → (length_of p q ≺ nano) ≡ false → Small 31 p → Small 31 q → ⊥
unfolding length_of
not_both_small p q P Q n h g =
    let S = p ⊗ p ⊕ q ⊗ q in
    let vp = (square-below P).within in
    let vq = (square-below Q).within in
    let sp = square-sign (2 ^ 44) p (below_more 44 (omega arith) P).within vp in
    let sq = square-sign (2 ^ 44) q (below_more 44 (omega arith) Q).within vq in
    let u : le S (unit 61) ≡ true = small_sum 61 (p ⊗ p) (q ⊗ q) (omega arith) sp sq (mul_small 31 31 (2 ^ 44) p p (omega arith) h h vp) (mul_small 31 31 (2 ^ 44) q q (omega arith) g g vq) in
    let f = add-fits binary64 (p ⊗ p) (q ⊗ q) in
    let w : Below 45 S = add_below (omega arith) (square-below P) (square-below Q) in
    let pl = add_plain (2 ^ 45) (p ⊗ p) (q ⊗ q) (square-plain (2 ^ 44) p vp) (square-plain (2 ^ 44) q vq) w.within in
    let nn = number_of (root_of S) (root_is_rounded S f pl).finite in
    let k = root_monotone S (unit 61) f (round-fits binary64 false 1 (2 ^ 61)) nn u in
    ⊎_elim (λ i. clash (sym (le_below (root_of S) (root_of (unit 61)) k) ∙ i)) (λ i. clash (sym n ∙ i)) (lt_gap (root_of (unit 61)) (root_of S) nano nn unit_root)

-- ---- products
pub product_below : {x y : Float} → Below 22 x → Below 22 y → Below 44 (x ⊗ y)
product_below X Y = mul_below (omega arith) X Y

pub product_sign : {x y : Float} → Below 22 x → Below 22 y → SignIs (unlike (is_minus x) (is_minus y)) (x ⊗ y)
product_sign {x} {y} X Y = mul_sign (2 ^ 44) (is_minus x) (is_minus y) x y (sign-is (2 ^ 22) x X.within) (sign-is (2 ^ 22) y Y.within) (product_below X Y).within

-- ---- one of two products is large, or of the other two one outweighs the other
module _ (p q a b : Float) (P : Below 22 p) (Q : Below 22 q) (A : Below 22 a) (B : Below 22 b) (np : Small 31 p → Small 31 q → ⊥) (na : Small 31 a → Small 31 b → ⊥) where
  large_p : Small 32 q → AtLeast 31 p
  large_p g = ⊎_elim (λ h. h) (λ h. absurd (np h (small_less 31 32 q (omega arith) g))) (least_or_small 31 (2 ^ 22) p P.within)

  large_q : Small 32 p → AtLeast 31 q
  large_q g = ⊎_elim (λ h. h) (λ h. absurd (np (small_less 31 32 p (omega arith) g) h)) (least_or_small 31 (2 ^ 22) q Q.within)

  large_a : Small 32 b → AtLeast 31 a
  large_a g = ⊎_elim (λ h. h) (λ h. absurd (na h (small_less 31 32 b (omega arith) g))) (least_or_small 31 (2 ^ 22) a A.within)

  large_b : Small 32 a → AtLeast 31 b
  large_b g = ⊎_elim (λ h. h) (λ h. absurd (na (small_less 31 32 a (omega arith) g) h)) (least_or_small 31 (2 ^ 22) b B.within)

  abbrev pub Outweighed : Type 0
  Outweighed = (AtLeast 62 (p ⊗ b) × Small 64 (q ⊗ a)) ⊎ (AtLeast 62 (q ⊗ a) × Small 64 (p ⊗ b))

  pub far : (AtLeast 64 (p ⊗ a) ⊎ AtLeast 64 (q ⊗ b)) ⊎ Outweighed
  far =
      ⊎_elim
      (λ bp. ⊎_elim (λ ba. inl (inl (mul_least 32 32 (2 ^ 44) p a (omega arith) bp ba (product_below P A).within)))
      (λ sa. ⊎_elim (λ bq. inl (inr (mul_least 32 32 (2 ^ 44) q b (omega arith) bq (least_more 31 32 b (omega arith) (large_b sa)) (product_below Q B).within)))
      (λ sq. inr (inl (mul_least 31 31 (2 ^ 44) p b (omega arith) (large_p sq) (large_b sa) (product_below P B).within, mul_small 32 32 (2 ^ 44) q a (omega arith) sq sa (product_below Q A).within)))
      (least_or_small 32 (2 ^ 22) q Q.within)) (least_or_small 32 (2 ^ 22) a A.within))
      (λ sp. ⊎_elim (λ bb. inl (inr (mul_least 32 32 (2 ^ 44) q b (omega arith) (least_more 31 32 q (omega arith) (large_q sp)) bb (product_below Q B).within)))
      (λ sb. inr (inr (mul_least 31 31 (2 ^ 44) q a (omega arith) (large_q sp) (large_a sb) (product_below Q A).within, mul_small 32 32 (2 ^ 44) p b (omega arith) sp sb (product_below P B).within)))
      (least_or_small 32 (2 ^ 22) b B.within)) (least_or_small 32 (2 ^ 22) p P.within)

-- ---- which sum adds numbers of one sign
unlike_either : (s t u v : Bool) → (unlike s u ≡ unlike t v) ⊎ (not (unlike t u) ≡ unlike s v)
unlike_either true true true true = inl refl
unlike_either true true true false = inr refl
unlike_either true true false true = inr refl
unlike_either true true false false = inl refl
unlike_either true false true true = inr refl
unlike_either true false true false = inl refl
unlike_either true false false true = inl refl
unlike_either true false false false = inr refl
unlike_either false true true true = inr refl
unlike_either false true true false = inl refl
unlike_either false true false true = inl refl
unlike_either false true false false = inr refl
unlike_either false false true true = inl refl
unlike_either false false true false = inr refl
unlike_either false false false true = inr refl
unlike_either false false false false = inl refl

module _ (p q a b : Float) (P : Below 22 p) (Q : Below 22 q) (A : Below 22 a) (B : Below 22 b) (np : Small 31 p → Small 31 q → ⊥) (na : Small 31 a → Small 31 b → ⊥) where
  -- the dot p a + q b, and the cross p b − q a
  dot-below : Below 45 (p ⊗ a ⊕ q ⊗ b)
  dot-below = add_below (omega arith) (product_below P A) (product_below Q B)

  cross_below : Below 45 (p ⊗ b ⊕ neg (q ⊗ a))
  cross_below = add_below (omega arith) (product_below P B) (neg_below (product_below Q A))

  cross_within : Within (2 ^ 45) (neg (q ⊗ a) ⊕ p ⊗ b)
  cross_within = subst (λ (z : Float). Within (2 ^ 45) z) (add_turned (p ⊗ b) (neg (q ⊗ a))) cross_below.within

  dot-within : Within (2 ^ 45) (q ⊗ b ⊕ p ⊗ a)
  dot-within = subst (λ (z : Float). Within (2 ^ 45) z) (add_turned (p ⊗ a) (q ⊗ b)) dot-below.within

  pub dot_or_cross : AtLeast 64 (p ⊗ b ⊕ neg (q ⊗ a)) ⊎ AtLeast 64 (p ⊗ a ⊕ q ⊗ b)
  dot_or_cross =
      ⊎_elim
      (λ e.
      let sx = product_sign P A in
      let sy = subst (λ (z : Bool). SignIs z (q ⊗ b)) (sym e) (product_sign Q B) in
      ⊎_elim
      (λ h. inr (⊎_elim (λ i. sum_alike 64 (2 ^ 45) _ (p ⊗ a) (q ⊗ b) (omega arith) sx sy i dot-below.within)
      (λ i. turned-least 64 (p ⊗ a) (q ⊗ b) (sum_alike 64 (2 ^ 45) _ (q ⊗ b) (p ⊗ a) (omega arith) sy sx i dot-within)) h))
      (λ h. inl (⊎_elim (λ i. least_more 63 64 (p ⊗ b ⊕ neg (q ⊗ a)) (omega arith) (add_apart 62 (2 ^ 45) (p ⊗ b) (neg (q ⊗ a)) (omega arith) i.0 (neg_small 64 (q ⊗ a) i.1) cross_below.within))
      (λ i. least_more 63 64 (p ⊗ b ⊕ neg (q ⊗ a)) (omega arith) (turned-least 63 (p ⊗ b) (neg (q ⊗ a)) (add_apart 62 (2 ^ 45) (neg (q ⊗ a)) (p ⊗ b) (omega arith) (neg_least 62 (q ⊗ a) i.0) i.1 cross_within))) h))
      (far p q a b P Q A B np na))
      (λ e.
      let sx = product_sign P B in
      let sy = subst (λ (z : Bool). SignIs z (neg (q ⊗ a))) e (neg_sign (unlike (is_minus q) (is_minus a)) (q ⊗ a) (product_sign Q A)) in
      ⊎_elim
      (λ h. inl (⊎_elim (λ i. sum_alike 64 (2 ^ 45) _ (p ⊗ b) (neg (q ⊗ a)) (omega arith) sx sy i cross_below.within)
      (λ i. turned-least 64 (p ⊗ b) (neg (q ⊗ a)) (sum_alike 64 (2 ^ 45) _ (neg (q ⊗ a)) (p ⊗ b) (omega arith) sy sx (neg_least 64 (q ⊗ a) i) cross_within)) h))
      (λ h. inr (⊎_elim (λ i. least_more 63 64 (p ⊗ a ⊕ q ⊗ b) (omega arith) (add_apart 62 (2 ^ 45) (p ⊗ a) (q ⊗ b) (omega arith) i.0 i.1 dot-below.within))
      (λ i. least_more 63 64 (p ⊗ a ⊕ q ⊗ b) (omega arith) (turned-least 63 (p ⊗ a) (q ⊗ b) (add_apart 62 (2 ^ 45) (q ⊗ b) (p ⊗ a) (omega arith) i.0 i.1 dot-within))) h))
      (far p q b a P Q B A np (λ h g. na g h)))
      (unlike_either (is_minus p) (is_minus q) (is_minus a) (is_minus b))

-- ---- vectors
or_sided : (ca cb da db : Bool) → ((ca || cb) ≡ true) ⊎ ((da || db) ≡ true) → (ca || (cb || (da || db))) ≡ true
or_sided true cb da db h = refl
or_sided false true da db h = refl
or_sided false false da db h = ⊎_elim (λ e. clash e) (λ e. e) h

or_turned : (x y : Bool) → (x || y) ≡ true → (y || x) ≡ true
or_turned true true h = refl
or_turned true false h = refl
or_turned false true h = refl
or_turned false false h = h

module _ (u w : Point) (UX : Below 22 u.x) (UY : Below 22 u.y) (WX : Below 22 w.x) (WY : Below 22 w.y) (nu : (length_by u ≺ nano) ≡ false) (nw : (length_by w ≺ nano) ≡ false) where
  beside_either : (((+0 ≺ cross2 u w) || (cross2 u w ≺ +0)) ≡ true) ⊎ (((+0 ≺ dot2 u w) || (dot2 u w ≺ +0)) ≡ true)
  unfolding cross2 dot2 sub length_by
  beside_either =
      ⊎_elim (λ h. inl (beside 64 (cross2 u w) h)) (λ h. inr (beside 64 (dot2 u w) h))
      (dot_or_cross u.x u.y w.x w.y UX UY WX WY (not_both_small u.x u.y UX UY nu) (not_both_small w.x w.y WX WY nw))

  -- The cross or the dot of two vectors, each 1e-9 long or longer, lies above or below zero.
  pub sided : (clockwise : Bool) → Sided clockwise u w
  unfolding onward
  sided false = or_sided (+0 ≺ cross2 u w) (cross2 u w ≺ +0) (+0 ≺ dot2 u w) (dot2 u w ≺ +0) beside_either
  sided true =
      rw (neg_above (cross2 u w), neg_below_zero (cross2 u w))
      (or_sided (cross2 u w ≺ +0) (+0 ≺ cross2 u w) (+0 ≺ dot2 u w) (dot2 u w ≺ +0) (⊎_elim (λ h. inl (or_turned (+0 ≺ cross2 u w) (cross2 u w ≺ +0) h)) inr beside_either))
