-- Each quarter turn that is taken falls strictly before the end, and one more would not: a turned vector's cross to the end has the opposite sign of the dot before, and
-- its dot the sign of the cross before. Assumes nothing.
use Rattle.std.specs.Prelude.{if◌then◌else◌}
use Prim.Native.Nat.{ℕ, zero, suc}
use mathlib.Core.Path.{◌≡◌, refl, sym, ap, ◌∙◌, subst}
use mathlib.Core.Bool.{Bool, true, false, not, ◌&&◌, ◌||◌}
use native.Mathlib.Omega.{arith}
use lib.Ieee.{Float, sub, neg}
use Rattle.floats.specs.Ops.{◌⊕◌, ◌⊗◌, ◌≺◌, +0}
use Rattle.floats.proofs.Order.{clash, lt_asym}
use Rattle.floats.proofs.float.Large.{neg_neg}
use Rattle.geo.specs.declared.types.Point.{Point}
use Rattle.trial.specs.Traversal.{cross2, dot2}
use Rattle.flatten.specs.Parts.{quarter_turn, onward, turns_by, turns_before}
use Rattle.arc_lines.specs.Laws.{in_quarter, TurnsBefore}
use Rattle.arc_lines.proofs.Signs.{Opposite, Alike, neg_opposite, opposite_turned, add_opposite, add_turned, mul_neg, alike_same, twice_opposite}

-- ---- one quarter turn
pub cross_turned : (clockwise : Bool) (u w : Point) → Opposite (onward clockwise (quarter_turn clockwise u) w) (dot2 u w)
unfolding onward quarter_turn cross2 dot2 sub
cross_turned false u w =
    let X = u.x ⊗ w.x in
    let Y = u.y ⊗ w.y in
    let e : neg u.y ⊗ w.y ⊕ neg X ≡ neg Y ⊕ neg X = ap (λ (z : Float). z ⊕ neg X) (mul_neg u.y w.y) in
    subst (λ (z : Float). Opposite z (X ⊕ Y)) (sym e) (subst (λ (z : Float). Opposite (neg Y ⊕ neg X) z) (add_turned Y X) (add_opposite Y X))
cross_turned true u w =
    let X = u.x ⊗ w.x in
    let Y = u.y ⊗ w.y in
    let e : Y ⊕ neg (neg u.x ⊗ w.x) ≡ X ⊕ Y =
    ap (λ (z : Float). Y ⊕ z) (ap neg (mul_neg u.x w.x) ∙ neg_neg X) ∙ add_turned Y X in
    subst (λ (z : Float). Opposite (neg z) (X ⊕ Y)) (sym e) (neg_opposite (X ⊕ Y))

pub dot-turned : (clockwise : Bool) (u w : Point) → Alike (dot2 (quarter_turn clockwise u) w) (onward clockwise u w)
unfolding onward quarter_turn cross2 dot2 sub
dot-turned false u w =
    let A = u.x ⊗ w.y in
    let B = u.y ⊗ w.x in
    alike_same _ _ (ap (λ (z : Float). z ⊕ A) (mul_neg u.y w.x) ∙ add_turned (neg B) A)
dot-turned true u w =
    let A = u.x ⊗ w.y in
    let B = u.y ⊗ w.x in
    let e : B ⊕ neg u.x ⊗ w.y ≡ neg (neg B) ⊕ neg A = ap (λ (z : Float). B ⊕ z) (mul_neg u.x w.y) ∙ ap (λ (z : Float). z ⊕ neg A) (sym (neg_neg B)) in
    let o : Opposite (B ⊕ neg u.x ⊗ w.y) (A ⊕ neg B) =
    subst (λ (z : Float). Opposite z (A ⊕ neg B)) (sym e) (subst (λ (z : Float). Opposite (neg (neg B) ⊕ neg A) z) (add_turned (neg B) A) (add_opposite (neg B) A)) in
    twice_opposite _ (A ⊕ neg B) _ o (opposite_turned _ _ (neg_opposite (A ⊕ neg B)))

-- ---- the count, by the four tests: the cross above and below zero, the dot above and below zero
abbrev pub count_by : Bool → Bool → Bool → Bool → ℕ
count_by ca cb da db = if ca then (if db then 1 else 0) else if cb then (if da then 3 else 2) else (if da then 3 else 1)

-- one is above or below
abbrev pub some_side : Bool → Bool → Bool → Bool → Bool
some_side ca cb da db = ca || (cb || (da || db))

-- none left: the end lies within a quarter turn
none_by : (ca cb da db : Bool) → count_by ca cb da db ≡ 0 → (ca && not db) ≡ true
none_by true cb da false e = refl
none_by true cb da true e = absurd (omega arith)
none_by false true true db e = absurd (omega arith)
none_by false true false db e = absurd (omega arith)
none_by false false true db e = absurd (omega arith)
none_by false false false db e = absurd (omega arith)

-- one or more left: it does not, and from the turned vector on there is one less
pub record OneLess (k : ℕ) (ca cb da db : Bool) : Type 0 where
  pub beyond : (ca && not db) ≡ false
  pub less : count_by db da ca cb ≡ k

less_by : (k : ℕ) (ca cb da db : Bool) → some_side ca cb da db ≡ true → (ca && cb) ≡ false → (da && db) ≡ false → count_by ca cb da db ≡ suc k → OneLess k ca cb da db
less_by k true true da db s p q e = clash (sym p)
less_by k true false da false s p q e = absurd (omega arith)
less_by k true false true true s p q e = clash (sym q)
less_by k true false false true s p q e = record { beyond = refl; less = omega arith }
less_by k false true true true s p q e = clash (sym q)
less_by k false true true false s p q e = record { beyond = refl; less = omega arith }
less_by k false true false true s p q e = record { beyond = refl; less = omega arith }
less_by k false true false false s p q e = record { beyond = refl; less = omega arith }
less_by k false false true true s p q e = clash (sym q)
less_by k false false true false s p q e = record { beyond = refl; less = omega arith }
less_by k false false false true s p q e = record { beyond = refl; less = omega arith }
less_by k false false false false s p q e = clash s

some-turned : (ca cb da db : Bool) → some_side ca cb da db ≡ true → some_side db da ca cb ≡ true
some-turned true cb true true s = refl
some-turned true cb true false s = refl
some-turned true cb false true s = refl
some-turned true cb false false s = refl
some-turned false true true true s = refl
some-turned false true true false s = refl
some-turned false true false true s = refl
some-turned false true false false s = refl
some-turned false false true true s = refl
some-turned false false true false s = refl
some-turned false false false true s = refl
some-turned false false false false s = clash s

both_false : (x y : Float) (a b : Bool) → (x ≺ y) ≡ a → (y ≺ x) ≡ b → (a && b) ≡ false
both_false x y true true p q = clash (sym (lt_asym x y p) ∙ q)
both_false x y true false p q = refl
both_false x y false b p q = refl

-- The cross or the dot of the first and the last vector, as it comes out, lies above or below zero.
abbrev pub Sided : Bool → Point → Point → Type 0
Sided clockwise u w = ((+0 ≺ onward clockwise u w) || ((onward clockwise u w ≺ +0) || ((+0 ≺ dot2 u w) || (dot2 u w ≺ +0)))) ≡ true

no_turn : (clockwise : Bool) (u w : Point) → turns_before clockwise u w ≡ 0 → in_quarter clockwise u w ≡ true
unfolding turns_before turns_by in_quarter
no_turn clockwise u w e = none_by (+0 ≺ onward clockwise u w) (onward clockwise u w ≺ +0) (+0 ≺ dot2 u w) (dot2 u w ≺ +0) e

sided_turned : (clockwise : Bool) (u w : Point) → Sided clockwise u w → Sided clockwise (quarter_turn clockwise u) w
sided_turned clockwise u w s =
    let o = cross_turned clockwise u w in
    let a = dot-turned clockwise u w in
    rw (o.above, o.under, a.above, a.under) (some-turned (+0 ≺ onward clockwise u w) (onward clockwise u w ≺ +0) (+0 ≺ dot2 u w) (dot2 u w ≺ +0) s)

one_turn : (clockwise : Bool) (u w : Point) (k : ℕ) → Sided clockwise u w → turns_before clockwise u w ≡ suc k
    → (in_quarter clockwise u w ≡ false) × (turns_before clockwise (quarter_turn clockwise u) w ≡ k)
unfolding turns_before turns_by in_quarter
one_turn clockwise u w k s e =
    let c = onward clockwise u w in
    let d = dot2 u w in
    let o = cross_turned clockwise u w in
    let a = dot-turned clockwise u w in
    let l = less_by k (+0 ≺ c) (c ≺ +0) (+0 ≺ d) (d ≺ +0) s (both_false +0 c (+0 ≺ c) (c ≺ +0) refl refl) (both_false +0 d (+0 ≺ d) (d ≺ +0) refl refl) e in
    (l.beyond, rw (o.above, o.under, a.above, a.under) l.less)

-- Each quarter turn that is taken falls strictly before the end, and one more would not.
pub turns-before-end : (clockwise : Bool) (k : ℕ) (u w : Point) → Sided clockwise u w → turns_before clockwise u w ≡ k → TurnsBefore clockwise k u w
turns-before-end clockwise zero u w s e = no_turn clockwise u w e
turns-before-end clockwise (suc k) u w s e =
    let t = one_turn clockwise u w k s e in
    (t.0, turns-before-end clockwise k (quarter_turn clockwise u) w (sided_turned clockwise u w s) t.1)
