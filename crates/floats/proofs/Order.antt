-- The order of floats: `lt` is transitive, what is not NaN lies on one side or the other of each gap, and `le` excludes `lt` the other way. Assumes nothing.
use Rattle.std.proofs.Common.{◌≡◌, ℕ, ◌+◌, ◌*◌, ◌<◌, ◌≤◌, Bool, true, false, ◌&&◌, ◌||◌, eqb, ltb, ◌⊎◌, sym, refl, ◌∙◌, subst, inl, inr, ⊎_elim, eq-zero-or-pos, mul-pos, zero-mul, arith, ltb-false, ltb-true, le-ltb, lt-ltb, eqb-true}
use lib.Ieee.{Float, nan, inf, fin, lt, le, eq, is_nan, below, level, up, down}
use lib.Ieee.Fits.{down_pos}
use lib.Ieee.Positive.{through, first_pos}

-- a flag is true or false
pub either : (b : Bool) → (b ≡ true) ⊎ (b ≡ false)
either true = inl refl
either false = inr refl

-- true is not false
pub clash : {X : Type 0} → false ≡ true → X
clash e = let z : ◌≡◌ {A = ℕ} 0 1 = cc in absurd (omega arith)

pub lt_or_ge : (a b : ℕ) → (a < b) ⊎ (b ≤ a)
lt_or_ge a b = ⊎_elim (λ e. inl (ltb-true a b e)) (λ e. inr (ltb-false a b e)) (either (ltb a b))

-- three fractions: A / α < C / γ, so A / α < B / β or B / β < C / γ
gap : (A B C α β γ : ℕ) → 0 < β → A * γ < C * α → (A * β < B * α) ⊎ (B * γ < C * β)
gap A B C α β γ h l =
    ⊎_elim inl (λ p. ⊎_elim inr (λ q. let z = through C B A γ β α h q p in absurd (omega arith)) (lt_or_ge (B * γ) (C * β))) (lt_or_ge (A * β) (B * α))

-- the same with signs
module _ (A B C α β γ : ℕ) (a : 0 < α) (b : 0 < β) (g : 0 < γ) where
  below_gap : (s t u : Bool) → below s (A * γ) u (C * α) ≡ true → (below s (A * β) t (B * α) ≡ true) ⊎ (below t (B * γ) u (C * β) ≡ true)
  below_gap false false false e =
      ⊎_elim (λ p. inl (lt-ltb _ _ p)) (λ p. inr (lt-ltb _ _ p)) (gap A B C α β γ b (ltb-true _ _ e))
  below_gap false true false e =
      let l = ltb-true (A * γ) (C * α) e in
      let c = mul-pos (first_pos C α (omega arith)) b in inr (lt-ltb 0 (B * γ + C * β) (omega arith))
  below_gap false t true e = clash e
  below_gap true false false e =
      ⊎_elim
      (λ za. ⊎_elim
      (λ zb. let l : 0 < A * γ + C * α = ltb-true _ _ e in
      let o : A * γ ≡ 0 = rw za (zero-mul γ) in
      let c = mul-pos (first_pos C α (omega arith)) b in
      inr (rw zb (rw (zero-mul γ) (lt-ltb _ _ c))))
      (λ pb. let c = mul-pos pb a in inl (lt-ltb 0 (A * β + B * α) (omega arith))) (eq-zero-or-pos B))
      (λ pa. let c = mul-pos pa b in inl (lt-ltb 0 (A * β + B * α) (omega arith))) (eq-zero-or-pos A)
  below_gap true true false e =
      ⊎_elim
      (λ zb. ⊎_elim
      (λ zc. let l : 0 < A * γ + C * α = ltb-true _ _ e in
      let o : C * α ≡ 0 = rw zc (zero-mul α) in
      let c = mul-pos (first_pos A γ (omega arith)) b in
      inl (rw zb (rw (zero-mul α) (lt-ltb _ _ c))))
      (λ pc. let c = mul-pos pc b in inr (lt-ltb 0 (B * γ + C * β) (omega arith))) (eq-zero-or-pos C))
      (λ pb. let c = mul-pos pb g in inr (lt-ltb 0 (B * γ + C * β) (omega arith))) (eq-zero-or-pos B)
  below_gap true false true e =
      let l = ltb-true (C * α) (A * γ) e in
      let c = mul-pos (first_pos A γ (omega arith)) b in inl (lt-ltb 0 (A * β + B * α) (omega arith))
  below_gap true true true e =
      ⊎_elim (λ p. inr (lt-ltb _ _ p)) (λ p. inl (lt-ltb _ _ p)) (gap C B A γ β α b (ltb-true _ _ e))

pub lt_gap : (x y z : Float) → is_nan y ≡ false → lt x z ≡ true → (lt x y ≡ true) ⊎ (lt y z ≡ true)
unfolding lt is_nan
lt_gap x nan z n e = clash (sym n)
lt_gap nan (inf t) z n e = clash e
lt_gap nan (fin t m d) z n e = clash e
lt_gap (inf false) (inf t) nan n e = clash e
lt_gap (inf false) (inf t) (inf u) n e = clash e
lt_gap (inf false) (inf t) (fin u k g) n e = clash e
lt_gap (inf false) (fin t m d) nan n e = clash e
lt_gap (inf false) (fin t m d) (inf u) n e = clash e
lt_gap (inf false) (fin t m d) (fin u k g) n e = clash e
lt_gap (inf true) (inf true) z n e = inr e
lt_gap (inf true) (inf false) z n e = inl refl
lt_gap (inf true) (fin t m d) z n e = inl refl
lt_gap (fin s j e') (inf false) z n e = inl refl
lt_gap (fin s j e') (inf true) nan n e = clash e
lt_gap (fin s j e') (inf true) (inf true) n e = clash e
lt_gap (fin s j e') (inf true) (inf false) n e = inr refl
lt_gap (fin s j e') (inf true) (fin u k g) n e = inr refl
lt_gap (fin s j e') (fin t m d) nan n e = clash e
lt_gap (fin s j e') (fin t m d) (inf true) n e = clash e
lt_gap (fin s j e') (fin t m d) (inf false) n e = inr refl
lt_gap (fin s j e') (fin t m d) (fin u k g) n e =
    below_gap (j * up e') (m * up d) (k * up g) (down e') (down d) (down g) (down_pos e') (down_pos d) (down_pos g) s t u e

-- what is above or below something is no NaN
pub lt_left : (x y : Float) → lt x y ≡ true → is_nan x ≡ false
unfolding lt is_nan
lt_left nan y e = clash e
lt_left (inf s) y e = refl
lt_left (fin s m e') y e = refl

pub lt_right : (x y : Float) → lt x y ≡ true → is_nan y ≡ false
unfolding lt is_nan
lt_right nan y e = clash e
lt_right (inf s) nan e = clash e
lt_right (inf s) (inf t) e = refl
lt_right (inf s) (fin t n d) e = refl
lt_right (fin s m e') nan e = clash e
lt_right (fin s m e') (inf t) e = refl
lt_right (fin s m e') (fin t n d) e = refl

pub lt_nan : (x y : Float) → is_nan y ≡ true → lt x y ≡ false
unfolding lt is_nan
lt_nan nan y e = refl
lt_nan (inf s) nan e = refl
lt_nan (inf s) (inf t) e = clash e
lt_nan (inf s) (fin t n d) e = clash e
lt_nan (fin s m e') nan e = refl
lt_nan (fin s m e') (inf t) e = clash e
lt_nan (fin s m e') (fin t n d) e = clash e

below_asym : (s t : Bool) (a b : ℕ) → below s a t b ≡ true → below t b s a ≡ false
below_asym false false a b e = let l = ltb-true a b e in le-ltb b a (omega arith)
below_asym false true a b e = clash e
below_asym true false a b e = refl
below_asym true true a b e = let l = ltb-true b a e in le-ltb a b (omega arith)

pub lt_asym : (x y : Float) → lt x y ≡ true → lt y x ≡ false
unfolding lt
lt_asym nan y e = clash e
lt_asym (inf s) nan e = refl
lt_asym (inf true) (inf true) e = clash e
lt_asym (inf true) (inf false) e = refl
lt_asym (inf false) (inf t) e = clash e
lt_asym (inf true) (fin t n d) e = refl
lt_asym (inf false) (fin t n d) e = clash e
lt_asym (fin s m e') nan e = refl
lt_asym (fin s m e') (inf true) e = clash e
lt_asym (fin s m e') (inf false) e = refl
lt_asym (fin s m e') (fin t n d) e = below_asym s t (m * up e' * down d) (n * up d * down e') e

pub lt_trans : (x y z : Float) → lt x y ≡ true → lt y z ≡ true → lt x z ≡ true
lt_trans x y z p q = ⊎_elim (λ r. clash (sym (lt_asym x y p) ∙ r)) (λ r. r) (lt_gap y x z (lt_left x y p) q)

-- ---- both of two flags
pub and_left : (p q : Bool) → (p && q) ≡ true → p ≡ true
and_left true q h = refl
and_left false q h = h

pub and_right : (p q : Bool) → (p && q) ≡ true → q ≡ true
and_right true q h = h
and_right false q h = clash h

-- ---- one of two flags
pub or_false : (p q : Bool) → (p || q) ≡ false → (p ≡ false) × (q ≡ false)
or_false true q h = clash (sym h)
or_false false q h = (refl, h)

pub or_right : (p q : Bool) → (p || q) ≡ true → p ≡ false → q ≡ true
or_right true q h e = clash (sym e)
or_right false q h e = h

pub or_true : (p : Bool) → (p || true) ≡ true
or_true true = refl
or_true false = refl

-- ---- `le`: what is at most another is not above it, and neither is a NaN
level-below : (s t : Bool) (a b : ℕ) → level s a t b ≡ true → below t b s a ≡ false
level-below false false a b e = let q = eqb-true a b (and_left (eqb a b) _ e) in le-ltb b a (omega arith)
level-below false true a b e =
    let q = eqb-true a b (and_left (eqb a b) _ e) in
    let z = eqb-true a 0 (and_right (eqb a b) _ e) in le-ltb 0 (b + a) (omega arith)
level-below true false a b e = refl
level-below true true a b e = let q = eqb-true a b (and_left (eqb a b) _ e) in le-ltb a b (omega arith)

eq_below : (x y : Float) → eq x y ≡ true → lt y x ≡ false
unfolding lt eq
eq_below nan y e = clash e
eq_below (inf s) nan e = clash e
eq_below (inf true) (inf true) e = refl
eq_below (inf true) (inf false) e = clash e
eq_below (inf false) (inf true) e = clash e
eq_below (inf false) (inf false) e = refl
eq_below (inf s) (fin t n d) e = clash e
eq_below (fin s m e') nan e = clash e
eq_below (fin s m e') (inf t) e = clash e
eq_below (fin s m e') (fin t n d) e = level-below s t (m * up e' * down d) (n * up d * down e') e

pub le_below : (x y : Float) → le x y ≡ true → lt y x ≡ false
unfolding le
le_below x y e = ⊎_elim (lt_asym x y) (λ f. eq_below x y (subst (λ (b : Bool). (b || eq x y) ≡ true) f e)) (either (lt x y))

pub le_right : (x y : Float) → le x y ≡ true → is_nan y ≡ false
unfolding le lt eq is_nan
le_right nan y e = clash e
le_right (inf s) nan e = clash e
le_right (inf s) (inf t) e = refl
le_right (inf s) (fin t n d) e = refl
le_right (fin s m e') nan e = clash e
le_right (fin s m e') (inf t) e = refl
le_right (fin s m e') (fin t n d) e = refl

-- z is not below y, and x is at most y: so z is not below x
pub le_under : (x y z : Float) → le x y ≡ true → lt z y ≡ false → lt z x ≡ false
le_under x y z a b =
    ⊎_elim
    (λ h. ⊎_elim (λ g. clash (sym b ∙ g)) (λ g. clash (sym (le_below x y a) ∙ g)) (lt_gap z y x (le_right x y a) h))
    (λ h. h) (either (lt z x))

-- z is below x, and x is at most y: so z is below y
pub lt_under : (z x y : Float) → lt z x ≡ true → le x y ≡ true → lt z y ≡ true
lt_under z x y a b = ⊎_elim (λ h. h) (λ h. clash (sym (le_under x y z b h) ∙ a)) (either (lt z y))
