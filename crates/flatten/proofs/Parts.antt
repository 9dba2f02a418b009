-- How many parts an Arc has: one or more, at most 1,024 a quarter, and at most four quarters. Assumes nothing.
use Rattle.std.specs.Prelude.{if◌then◌else◌}
use Prim.Native.Nat.{ℕ, zero, suc, ◌+◌, ◌*◌, ◌^◌, ◌≤◌}
use mathlib.Core.Path.{◌≡◌, refl}
use mathlib.Core.Logic.{⊎_elim}
use mathlib.Core.Bool.{Bool, true, false}
use mathlib.Core.List.{[], ◌∷◌, ◌++◌}
use native.Mathlib.Nat.{pow-succ'}
use native.Mathlib.Omega.{arith}
use lib.ListN.{length, length-append}
use lib.Ieee.{Float}
use Rattle.floats.specs.Ops.{◌≺◌, ◌⊗◌, +0}
use Rattle.floats.specs.Limits.{quarter}
use Rattle.floats.proofs.Order.{either}
use Rattle.geo.specs.declared.types.Point.{Point}
use Rattle.geo.specs.declared.types.Point3D.{Point3D}
use Rattle.trial.specs.Traversal.{offset_of, dot2}
use Rattle.flatten.specs.Parts.{most_halvings, length_by, quarter_turn, onward, turns_by, turns_before, bulge, middle, arc_part, halved, quartered, parts_between, parts_of}

-- ---- one quarter
module _ (r limit : Float) where
  -- a part that bulges by less than the limit stays whole
  pub halved-flat : (n : ℕ) (u w : Point) → (bulge r u w ≺ limit) ≡ true → halved r limit n u w ≡ arc_part u w ∷ []
  unfolding halved
  halved-flat zero u w h = refl
  halved-flat (suc n) u w h = rw h

  -- any other is cut at its middle, where a halving is left
  pub halved-cut : (n : ℕ) (u w : Point) → (bulge r u w ≺ limit) ≡ false
      → halved r limit (suc n) u w ≡ halved r limit n u (middle r u w) ++ halved r limit n (middle r u w) w
  unfolding halved
  halved-cut n u w h = rw h

  -- at least one part, and at most 2 ^ n
  pub halved-some : (n : ℕ) (u w : Point) → 1 ≤ length (halved r limit n u w)
  unfolding halved
  halved-some zero u w = omega arith
  halved-some (suc n) u w =
      ⊎_elim (λ h. rw h (omega arith))
      (λ h.
      let m = middle r u w in
      rw h (let l = length-append (halved r limit n u m) (halved r limit n m w) in let a = halved-some n u m in omega arith))
      (either (bulge r u w ≺ limit))

  pub halved-few : (n : ℕ) (u w : Point) → length (halved r limit n u w) ≤ 2 ^ n
  unfolding halved
  halved-few zero u w = omega arith
  halved-few (suc n) u w =
      let e = pow-succ' 2 n in
      ⊎_elim (λ h. rw h (let a = halved-few n u w in let b = halved-some n u w in omega arith))
      (λ h.
      let m = middle r u w in
      rw h (let l = length-append (halved r limit n u m) (halved r limit n m w) in let a = halved-few n u m in let b = halved-few n m w in omega arith))
      (either (bulge r u w ≺ limit))

  -- of a whole quarter
  pub quarter-few : (u w : Point) → length (halved r limit most_halvings u w) ≤ 1024
  quarter-few u w = halved-few 10 u w

  -- ---- k quarter turns and the rest
  module _ (clockwise : Bool) where
    pub quartered-some : (k : ℕ) (u w : Point) → 1 ≤ length (quartered clockwise r limit k u w)
    unfolding quartered
    quartered-some zero u w = halved-some most_halvings u w
    quartered-some (suc k) u w =
        let v = quarter_turn clockwise u in
        let l = length-append (halved r limit most_halvings u v) (quartered clockwise r limit k v w) in let a = halved-some most_halvings u v in omega arith

    pub quartered-few : (k : ℕ) (u w : Point) → length (quartered clockwise r limit k u w) ≤ (k + 1) * 1024
    unfolding quartered
    quartered-few zero u w = let a = quarter-few u w in omega arith
    quartered-few (suc k) u w =
        let v = quarter_turn clockwise u in
        let l = length-append (halved r limit most_halvings u v) (quartered clockwise r limit k v w) in
        let a = quarter-few u v in let b = quartered-few k v w in omega arith

-- ---- the whole arc
-- at most three quarter turns fall before the end
turns_at : (p q s t : Bool) → (if p then (if q then 1 else 0) else if s then (if t then 3 else 2) else (if t then 3 else 1)) ≤ 3
turns_at true true s t = omega arith
turns_at true false s t = omega arith
turns_at false q true true = omega arith
turns_at false q true false = omega arith
turns_at false q false true = omega arith
turns_at false q false false = omega arith

pub turns-few : (c d : Float) → turns_by c d ≤ 3
unfolding turns_by
turns-few c d = turns_at (+0 ≺ c) (d ≺ +0) (c ≺ +0) (+0 ≺ d)

-- at most four quarters of 1,024
pub between-few : (clockwise : Bool) (tol : Float) (u w : Point) → length (parts_between clockwise tol u w) ≤ 4096
unfolding parts_between turns_before
between-few clockwise tol u w =
    let k = turns_before clockwise u w in
    let p = quartered-few (length_by u) (tol ⊗ quarter) clockwise k u w in let q = turns-few (onward clockwise u w) (dot2 u w) in omega arith

pub parts-few : (clockwise : Bool) (tol : Float) (m : Point) (a b : Point3D) → length (parts_of clockwise tol m a b) ≤ 4096
unfolding parts_of
parts-few clockwise tol m a b = between-few clockwise tol (offset_of m a) (offset_of m b)
