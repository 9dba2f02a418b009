-- Every centre that an arc trial finds is at most 2 ^ 434 from zero, for at most 2,048 points whose coordinates are at most 2 ^ 27. Assumes nothing.
use Prim.Native.Nat.{ℕ, zero, suc, ◌+◌, ◌-◌, ◌*◌, ◌^◌, ◌≤◌, ◌<◌}
use mathlib.Core.Path.{◌≡◌, refl, sym, ap, ◌∙◌, subst}
use mathlib.Core.Logic.{⊎_elim}
use mathlib.Core.Bool.{true, false}
use native.Mathlib.Omega.{arith}
use native.Mathlib.Nat.{le_trans, le_of_eq, lt_of_le_of_lt, mul-le-mul_right, add-mul, one-mul, mul_comm}
use lib.IntN.{pos}
use lib.Pow.{pow-add, pow-lt}
use lib.Dec.{T, lit<}
use lib.Ieee.{Float, nan, inf, fin, binary64, of_bits, of_int, round, lt, neg}
use Rattle.floats.specs.Float.{abs_of}
use Rattle.floats.specs.Root.{plain}
use Rattle.floats.specs.Ops.{◌⊕◌, ◌⊖◌, ◌⊗◌, ◌⊘◌, +0, one, two}
use Rattle.floats.proofs.Order.{either}
use Rattle.floats.proofs.Bounds.{Within, Below, AtLeast, round_within, add_within, within_more, add_below, sub_below, mul_below, div_below, below_more, at_least_of_abs}
use Rattle.floats.proofs.root.Plain.{square-plain, add_plain}
use Rattle.geo.specs.declared.types.Point.{Point}
use Rattle.geo.specs.declared.types.Point3D.{Point3D}
use Rattle.geo.specs.Vector.{dot, cross3, dot3}
use Rattle.geo.specs.Walk.{fold}
use Rattle.std.specs.Prelude.{Option, Some, None}
use Rattle.circle.specs.declared.circle.Center.{Center}
use Rattle.circle.specs.declared.circle.Circle.{Circle}
use Rattle.circle.specs.declared.circle.Sums.{Sums}
use Rattle.circle.specs.declared.circle.Axes.{Axes}
use Rattle.floats.specs.Limits.{hundredth, nano, tenth_nano, pico, femto}
use Rattle.circle.specs.Collinear.{collinear}
use Rattle.circle.specs.Three.{area_of, square_of, turn_of, center3, center_by, center_three, circle_round, through_three}
use Rattle.circle.specs.Kasa.{no_sums, plus, sums_of, scaled, det_of, inverse_times, solved, matrix_of, sides_of, squared_radius, centered, kasa_center}
use Rattle.circle.specs.Bisector.{moved_by, projected}

-- x, y and z at most 2 ^ k in size
pub record Placed (k : ℕ) (p : Point3D) : Type 0 where
  pub in_x : Below k p.x
  pub in_y : Below k p.y
  pub in_z : Below k p.z

-- the same of a position in the plane
pub record Flat (k : ℕ) (m : Point) : Type 0 where
  pub in_x : Below k m.x
  pub in_y : Below k m.y

pub flat-more : {j : ℕ} {m : Point} (k : ℕ) → j ≤ k → Flat j m → Flat k m
flat-more k l h = record { in_x = below_more k l h.in_x; in_y = below_more k l h.in_y }

-- ---- constants
pub zero_below : (k : ℕ) → Below k +0
unfolding of_bits
zero_below k = record { within = omega arith }

pub one_below : Below 0 one
unfolding of_bits
one_below = record { within = omega arith }

pub two-below : Below 1 two
unfolding of_bits
two-below = record { within = omega arith }

two_back : Below 1 (neg two)
unfolding neg of_bits
two_back = record { within = omega arith }

two-least : AtLeast 0 two
unfolding of_bits
two-least = omega arith

-- 2 ^ -30 < 1e-9
nano-least : AtLeast 30 nano
unfolding of_bits
nano-least = omega arith

nano-plain : T (plain nano)
unfolding of_bits plain
nano-plain = tt

-- ---- the centre through three points
apart : {x y : Float} → Below 27 x → Below 27 y → Below 28 (x ⊖ y)
apart h g = sub_below (omega arith) h g

square-below : {p : Point3D} → Placed 27 p → Below 55 (square_of p)
square-below h = add_below (omega arith) (mul_below (omega arith) h.in_x h.in_x) (mul_below (omega arith) h.in_y h.in_y)

module _ {a b c : Point3D} (A : Placed 27 a) (B : Placed 27 b) (C : Placed 27 c) where
  center3-flat : (d : Float) → AtLeast 30 d → Flat 115 (center3 a b c d)
  unfolding center3
  center3-flat d D =
      record {
        in_x =
            div_below 30 d (omega arith)
            (sub_below (omega arith)
            (mul_below (omega arith) (sub_below (omega arith) (square-below A) (square-below B)) (apart C.in_y B.in_y))
            (mul_below (omega arith) (sub_below (omega arith) (square-below B) (square-below C)) (apart B.in_y A.in_y))) D;
        in_y =
            div_below 30 d (omega arith)
            (sub_below (omega arith)
            (mul_below (omega arith) (apart B.in_x A.in_x) (sub_below (omega arith) (square-below B) (square-below C)))
            (mul_below (omega arith) (apart C.in_x B.in_x) (sub_below (omega arith) (square-below A) (square-below B)))) D;
      }

  -- the turn: −2 times a cross of two steps
  turn_below : Below 58 (turn_of a b c)
  unfolding turn_of
  turn_below =
      mul_below (omega arith) two_back
      (sub_below (omega arith) (mul_below (omega arith) (apart B.in_x A.in_x) (apart C.in_y B.in_y))
      (mul_below (omega arith) (apart B.in_y A.in_y) (apart C.in_x B.in_x)))

  abbrev pub Through : Option Circle → Type 0
  Through (Some c) = Flat 115 c.center
  Through None = Unit

  -- The centre of the circle through three points is at most 2 ^ 115 from zero.
  pub three-flat : Through (through_three a b c)
  unfolding through_three circle_round center_three center_by
  three-flat =
      ⊎_elim (λ h. rw h tt)
      (λ h. rw h
      (⊎_elim (λ g. rw g tt)
      (λ g. rw g (center3-flat (turn_of a b c) (at_least_of_abs 30 (2 ^ 58) (turn_of a b c) nano turn_below.within nano-plain g nano-least)))
      (either (lt (abs_of (turn_of a b c)) nano)))) (either (lt (abs_of (area_of a b c)) nano))

-- ---- Kasa's sums: of c points each is at most c * 2 ^ 83
pub record Summed (c : ℕ) (s : Sums) : Type 0 where
  pub in_xx : Within (c * 2 ^ 83) s.xx
  pub in_xy : Within (c * 2 ^ 83) s.xy
  pub in_x : Within (c * 2 ^ 83) s.x
  pub in_yy : Within (c * 2 ^ 83) s.yy
  pub in_y : Within (c * 2 ^ 83) s.y
  pub in_xb : Within (c * 2 ^ 83) s.xb
  pub in_yb : Within (c * 2 ^ 83) s.yb
  pub in_b : Within (c * 2 ^ 83) s.b

-- c ≤ 2048 times 2 ^ k
few_times : (k c : ℕ) → c ≤ 2048 → c * 2 ^ k ≤ 2 ^ (k + 11)
few_times k c h = let e : 2048 * 2 ^ k ≡ 2 ^ (k + 11) = mul_comm 2048 (2 ^ k) ∙ sym (pow-add 2 k 11) in le_trans (mul-le-mul_right (2 ^ k) h) (le_of_eq e)

sum_step : (k c : ℕ) (s t : Float) → k + 11 < 1024 → c < 2048 → Within (c * 2 ^ k) s → Below k t → Within ((c + 1) * 2 ^ k) (s ⊕ t)
sum_step k c s t l h u v =
    let f : c * 2 ^ k + 2 ^ k ≤ (c + 1) * 2 ^ k = le_of_eq (simp (add-mul, one-mul)) in
    add_within (c + 1) k (omega arith) (lt_of_le_of_lt (few_times k (c + 1) (omega arith)) (pow-lt l)) (c * 2 ^ k) (2 ^ k) s t f u v.within

sum_next : (c : ℕ) (s t : Float) → c < 2048 → Within (c * 2 ^ 83) s → Below 83 t → Within ((c + 1) * 2 ^ 83) (s ⊕ t)
sum_next c s t h u v = sum_step 83 c s t (omega arith) h u v

-- one point more
plus_summed : (c : ℕ) (p : Point3D) (s : Sums) → c < 2048 → Placed 27 p → Summed c s → Summed (c + 1) (plus p s)
unfolding plus
plus_summed c p s h P S =
    let x : Below 28 (two ⊗ p.x) = mul_below (omega arith) two-below P.in_x in
    let y : Below 28 (two ⊗ p.y) = mul_below (omega arith) two-below P.in_y in
    let sq : Below 55 (p.x ⊗ p.x ⊕ p.y ⊗ p.y) = square-below P in
    let xx : Below 56 (two ⊗ p.x ⊗ two ⊗ p.x) = mul_below (omega arith) (mul_below (omega arith) x two-below) P.in_x in
    let xy : Below 56 (two ⊗ p.x ⊗ two ⊗ p.y) = mul_below (omega arith) (mul_below (omega arith) x two-below) P.in_y in
    let yy : Below 56 (two ⊗ p.y ⊗ two ⊗ p.y) = mul_below (omega arith) (mul_below (omega arith) y two-below) P.in_y in
    record {
      in_xx = sum_next c s.xx (two ⊗ p.x ⊗ two ⊗ p.x) h S.in_xx (below_more 83 (omega arith) xx);
      in_xy = sum_next c s.xy (two ⊗ p.x ⊗ two ⊗ p.y) h S.in_xy (below_more 83 (omega arith) xy);
      in_x = sum_next c s.x (two ⊗ p.x) h S.in_x (below_more 83 (omega arith) x);
      in_yy = sum_next c s.yy (two ⊗ p.y ⊗ two ⊗ p.y) h S.in_yy (below_more 83 (omega arith) yy);
      in_y = sum_next c s.y (two ⊗ p.y) h S.in_y (below_more 83 (omega arith) y);
      in_xb = sum_next c s.xb (two ⊗ p.x ⊗ (p.x ⊗ p.x ⊕ p.y ⊗ p.y)) h S.in_xb (mul_below (omega arith) x sq);
      in_yb = sum_next c s.yb (two ⊗ p.y ⊗ (p.x ⊗ p.x ⊕ p.y ⊗ p.y)) h S.in_yb (mul_below (omega arith) y sq);
      in_b = sum_next c s.b (p.x ⊗ p.x ⊕ p.y ⊗ p.y) h S.in_b (below_more 83 (omega arith) sq);
    }

-- the points from lo up to e
module _ (at : ℕ → Point3D) (lo e : ℕ) (each : (j : ℕ) → lo ≤ j → j < e → Placed 27 (at j)) where
  fold_summed : (n i c : ℕ) (s : Sums) → lo ≤ i → i + n ≤ e → c + n ≤ 2048 → Summed c s → Summed (c + n) (fold (λ j. plus (at j)) n i s)
  unfolding fold
  fold_summed zero i c s l h g S = let q : c + 0 ≡ c = omega arith in rw q S
  fold_summed (suc n) i c s l h g S =
      let q : c + 1 + n ≡ c + suc n = omega arith in
      subst (λ (z : ℕ). Summed z (fold (λ j. plus (at j)) n (i + 1) (plus (at i) s))) q
      (fold_summed n (i + 1) (c + 1) (plus (at i) s) (omega arith) (omega arith) (omega arith)
      (plus_summed c (at i) s (omega arith) (each i l (omega arith)) S))

none_summed : Summed 0 no_sums
none_summed =
    let z : Within (0 * 2 ^ 83) +0 = unfold of_bits in omega arith in
    record { in_xx = z; in_xy = z; in_x = z; in_yy = z; in_y = z; in_xb = z; in_yb = z; in_b = z }

-- what the equations are made of: at most 2 ^ 94
few-below : (c : ℕ) (x : Float) → c ≤ 2048 → Within (c * 2 ^ 83) x → Below 94 x
few-below c x h w = record { within = within_more (c * 2 ^ 83) (2 ^ 94) x (few_times 83 c h) w }

count-below : (n : ℕ) → n ≤ 2048 → Below 94 (of_int binary64 (pos n))
unfolding of_int
count-below n h =
    let b : Below 11 (round binary64 false n 1) = record { within = round_within false n 1 1 11 (omega arith) (omega arith) (lit< tt) (omega arith) } in
    below_more 94 (omega arith) b

pub record Rows (k : ℕ) (a : Axes) : Type 0 where
  pub in_x : Placed k a.x
  pub in_y : Placed k a.y
  pub in_z : Placed k a.z

matrix_rows : (c n : ℕ) (s : Sums) → c ≤ 2048 → n ≤ 2048 → Summed c s → Rows 94 (matrix_of s n)
unfolding matrix_of
matrix_rows c n s h g S =
    record {
      in_x = record { in_x = few-below c s.xx h S.in_xx; in_y = few-below c s.xy h S.in_xy; in_z = few-below c s.x h S.in_x };
      in_y = record { in_x = few-below c s.xy h S.in_xy; in_y = few-below c s.yy h S.in_yy; in_z = few-below c s.y h S.in_y };
      in_z = record { in_x = few-below c s.x h S.in_x; in_y = few-below c s.y h S.in_y; in_z = count-below n g };
    }

sides_placed : (c : ℕ) (s : Sums) → c ≤ 2048 → Summed c s → Placed 94 (sides_of s)
unfolding sides_of
sides_placed c s h S = record { in_x = few-below c s.xb h S.in_xb; in_y = few-below c s.yb h S.in_yb; in_z = few-below c s.b h S.in_b }

-- ---- the normal equations
cross_placed : {u v : Point3D} → Placed 94 u → Placed 94 v → Placed 189 (cross3 u v)
unfolding cross3
cross_placed U W =
    record {
      in_x = sub_below (omega arith) (mul_below (omega arith) U.in_y W.in_z) (mul_below (omega arith) W.in_y U.in_z);
      in_y = sub_below (omega arith) (mul_below (omega arith) U.in_z W.in_x) (mul_below (omega arith) W.in_z U.in_x);
      in_z = sub_below (omega arith) (mul_below (omega arith) U.in_x W.in_y) (mul_below (omega arith) W.in_x U.in_y);
    }

dot-below : {j k : ℕ} {u v : Point3D} → j + k + 1 + 1 ≤ 1023 → Placed j u → Placed k v → Below (j + k + 1 + 1) (dot3 u v)
unfolding dot3
dot-below {j} {k} l U W =
    let a : j + k ≤ 1023 = omega arith in
    let b : j + k + 1 ≤ 1023 = omega arith in
    add_below l (add_below b (mul_below a U.in_x W.in_x) (mul_below a U.in_y W.in_y))
    (below_more (j + k + 1) (omega arith) (mul_below a U.in_z W.in_z))

scaled-placed : {u : Point3D} {k : Float} → Placed 189 u → Below 50 k → Placed 239 (scaled u k)
unfolding scaled
scaled-placed U K = record { in_x = mul_below (omega arith) U.in_x K; in_y = mul_below (omega arith) U.in_y K; in_z = mul_below (omega arith) U.in_z K }

det_below : (m : Axes) → Rows 94 m → Below 285 (det_of m)
unfolding det_of
det_below m R = dot-below (omega arith) R.in_z (cross_placed R.in_x R.in_y)

inverse_placed : {a : Axes} {k : Float} {b : Point3D} → Rows 94 a → Below 50 k → Placed 94 b → Placed 335 (inverse_times a k b)
unfolding inverse_times
inverse_placed R K B =
    record {
      in_x = dot-below (omega arith) (scaled-placed (cross_placed R.in_y R.in_z) K) B;
      in_y = dot-below (omega arith) (scaled-placed (cross_placed R.in_z R.in_x) K) B;
      in_z = dot-below (omega arith) (scaled-placed (cross_placed R.in_x R.in_y) K) B;
    }

femto-least : AtLeast 50 femto
unfolding of_bits
femto-least = omega arith

femto-plain : T (plain femto)
unfolding of_bits plain
femto-plain = tt

abbrev Solved : Option Point3D → Type 0
Solved (Some v) = Placed 335 v
Solved None = Unit

solved-placed : (m : Axes) (b : Point3D) → Rows 94 m → Placed 94 b → Solved (solved m b)
unfolding solved
solved-placed m b R B =
    ⊎_elim (λ h. rw h tt)
    (λ h. rw h
    (inverse_placed R
    (div_below 50 (det_of m) (omega arith) one_below (at_least_of_abs 50 (2 ^ 285) (det_of m) femto (det_below m R).within femto-plain h femto-least)) B))
    (either (lt (abs_of (det_of m)) femto))

abbrev pub Centered : Option Center → Type 0
Centered (Some c) = Flat 335 c.center
Centered None = Unit

centered-flat : (v : Option Point3D) → Solved v → Centered (centered v)
unfolding centered
centered-flat None h = tt
centered-flat (Some v) h =
    ⊎_elim (λ g. rw g tt) (λ g. rw g (record { in_x = h.in_x; in_y = h.in_y })) (either (lt (squared_radius v) tenth_nano))

sums_summed : (at : ℕ → Point3D) (lo hi : ℕ) → lo ≤ hi → hi - lo < 2048 → ((j : ℕ) → lo ≤ j → j < hi + 1 → Placed 27 (at j)) → Summed (hi + 1 - lo) (sums_of at lo hi)
unfolding sums_of
sums_summed at lo hi o l each =
    let n = hi + 1 - lo in
    let e : 0 + n ≡ n = omega arith in
    subst (λ (z : ℕ). Summed z (fold (λ j. plus (at j)) n lo no_sums)) e
    (fold_summed at lo (hi + 1) each n lo 0 no_sums (omega arith) (omega arith) (omega arith) none_summed)

-- The centre of Kasa's least squares over the points from lo to hi is at most 2 ^ 335 from zero.
pub kasa_flat : (at : ℕ → Point3D) (lo hi : ℕ) → lo ≤ hi → hi - lo < 2048 → ((j : ℕ) → lo ≤ j → j < hi + 1 → Placed 27 (at j)) → Centered (kasa_center at lo hi)
unfolding kasa_center
kasa_flat at lo hi o l each =
    let n = hi + 1 - lo in
    let S = sums_summed at lo hi o l each in
    let s = sums_of at lo hi in
    ⊎_elim (λ h. rw h tt)
    (λ h. rw h
    (centered-flat (solved (matrix_of s (hi - lo + 1)) (sides_of s))
    (solved-placed (matrix_of s (hi - lo + 1)) (sides_of s) (matrix_rows n (hi - lo + 1) s (omega arith) (omega arith) S) (sides_placed n s (omega arith) S))))
    (either (collinear hundredth at lo hi))

-- ---- projected to the bisector
pico-least : AtLeast 40 pico
unfolding of_bits
pico-least = omega arith

pico-plain : T (plain pico)
unfolding of_bits plain
pico-plain = tt

abs_plain : (x : Float) → T (plain x) → abs_of x ≡ x
unfolding abs_of plain
abs_plain nan p = absurd p
abs_plain (inf s) p = absurd p
abs_plain (fin true m e) p = absurd p
abs_plain (fin false m e) p = refl

-- a square that is not below 1e-12
chord_least : (x y : Float) → Below 28 x → Below 28 y → lt (dot x y x y) pico ≡ false → AtLeast 40 (dot x y x y)
chord_least x y X Y h =
    let a : Below 56 (x ⊗ x) = mul_below (omega arith) X X in
    let b : Below 56 (y ⊗ y) = mul_below (omega arith) Y Y in
    let s : Below 57 (dot x y x y) = add_below (omega arith) a b in
    let p = add_plain (2 ^ 57) (x ⊗ x) (y ⊗ y) (square-plain (2 ^ 56) x a.within) (square-plain (2 ^ 56) y b.within) s.within in
    at_least_of_abs 40 (2 ^ 57) (dot x y x y) pico s.within pico-plain (ap (λ (z : Float). lt z pico) (abs_plain (dot x y x y) p) ∙ h) pico-least

-- A centre at most 2 ^ 335 from zero stays at most 2 ^ 434 from zero where it is moved to the bisector of two points.
pub projected-flat : {a b : Point3D} {m : Point} → Placed 27 a → Placed 27 b → Flat 335 m → Flat 434 (projected a b m)
unfolding projected moved_by
projected-flat {a} {b} {m} A B M =
    let dx = b.x ⊖ a.x in
    let dy = b.y ⊖ a.y in
    let DX : Below 28 dx = apart B.in_x A.in_x in
    let DY : Below 28 dy = apart B.in_y A.in_y in
    let hx : Below 28 ((a.x ⊕ b.x) ⊘ two) = div_below 0 two (omega arith) (add_below (omega arith) A.in_x B.in_x) two-least in
    let hy : Below 28 ((a.y ⊕ b.y) ⊘ two) = div_below 0 two (omega arith) (add_below (omega arith) A.in_y B.in_y) two-least in
    let vx : Below 336 (m.x ⊖ (a.x ⊕ b.x) ⊘ two) = sub_below (omega arith) M.in_x (below_more 335 (omega arith) hx) in
    let vy : Below 336 (m.y ⊖ (a.y ⊕ b.y) ⊘ two) = sub_below (omega arith) M.in_y (below_more 335 (omega arith) hy) in
    let d : Below 365 (dot (m.x ⊖ (a.x ⊕ b.x) ⊘ two) (m.y ⊖ (a.y ⊕ b.y) ⊘ two) dx dy) =
    add_below (omega arith) (mul_below (omega arith) vx DX) (mul_below (omega arith) vy DY) in
    ⊎_elim (λ h. rw h (flat-more 434 (omega arith) M))
    (λ h. rw h
    (let k = div_below 40 (dot dx dy dx dy) (omega arith) d (chord_least dx dy DX DY h) in
    record {
      in_x = sub_below (omega arith) (below_more 433 (omega arith) M.in_x) (mul_below (omega arith) DX k);
      in_y = sub_below (omega arith) (below_more 433 (omega arith) M.in_y) (mul_below (omega arith) DY k);
    })) (either (lt (dot dx dy dx dy) pico))
