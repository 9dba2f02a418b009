-- What each slot holds after a point is put into one of them. Assumes nothing.
use Prim.Native.Nat.{ℕ, suc, ◌+◌, ◌*◌, ◌<◌}
use mathlib.Core.Path.{◌≡◌, ap, ◌∙◌}
use mathlib.Core.List.{List, [], ◌∷◌}
use native.Mathlib.Omega.{arith}
use lib.ListN.{length, get_or, set, length-set}
use lib.Seq.{sets, length-sets, get_or-set_same, get_or-set_other}
use lib.Ieee.{Float, nan}
use Rattle.geo.specs.declared.types.Point3D.{Point3D}
use Rattle.geo.specs.Lent.{point_at, triple}
use Rattle.live.specs.Thinner.{put}

pub put_length : (ns : List Float) (i : ℕ) (p : Point3D) → length (put ns i p) ≡ length ns
unfolding put
put_length ns i p = length-sets ns (3 * i) (triple p)

module _ (ns : List Float) (b : ℕ) (u v w : Float) (fits : b + 2 < length ns) where
  first : get_or (sets ns b (u ∷ v ∷ w ∷ [])) b nan ≡ u
  first =
      get_or-set_other (set (set ns b u) (suc b) v) (suc (suc b)) b w nan (λ e. omega (arith, e))
      ∙ get_or-set_other (set ns b u) (suc b) b v nan (λ e. omega (arith, e))
      ∙ get_or-set_same ns b u nan (omega arith)

  second : get_or (sets ns b (u ∷ v ∷ w ∷ [])) (b + 1) nan ≡ v
  second =
      let e : b + 1 ≡ suc b = omega arith in
      ap (λ (k : ℕ). get_or (sets ns b (u ∷ v ∷ w ∷ [])) k nan) e
      ∙ get_or-set_other (set (set ns b u) (suc b) v) (suc (suc b)) (suc b) w nan (λ q. omega (arith, q))
      ∙ get_or-set_same (set ns b u) (suc b) v nan (rw length-set (omega arith))

  third : get_or (sets ns b (u ∷ v ∷ w ∷ [])) (b + 2) nan ≡ w
  third =
      let e : b + 2 ≡ suc (suc b) = omega arith in
      ap (λ (k : ℕ). get_or (sets ns b (u ∷ v ∷ w ∷ [])) k nan) e
      ∙ get_or-set_same (set (set ns b u) (suc b) v) (suc (suc b)) w nan (simp length-set (omega arith))

other : (ns : List Float) (b : ℕ) (u v w : Float) (k : ℕ) → (k ≡ b → ⊥) → (k ≡ suc b → ⊥) → (k ≡ suc (suc b) → ⊥) → get_or (sets ns b (u ∷ v ∷ w ∷ [])) k nan ≡ get_or ns k nan
other ns b u v w k p q r =
    get_or-set_other (set (set ns b u) (suc b) v) (suc (suc b)) k w nan r ∙ get_or-set_other (set ns b u) (suc b) k v nan q ∙ get_or-set_other ns b k u nan p

pub put_same : (ns : List Float) (i : ℕ) (p : Point3D) → 3 * i + 2 < length ns → point_at (put ns i p) i ≡ p
unfolding put point_at
put_same ns i p h = rw (first ns (3 * i) p.x p.y p.z h, second ns (3 * i) p.x p.y p.z h, third ns (3 * i) p.x p.y p.z h)

pub put_other : (ns : List Float) (i j : ℕ) (p : Point3D) → (j ≡ i → ⊥) → point_at (put ns i p) j ≡ point_at ns j
unfolding put point_at
put_other ns i j p h =
    let o : (k : ℕ) → k < 3 → get_or (sets ns (3 * i) (triple p)) (3 * j + k) nan ≡ get_or ns (3 * j + k) nan =
    λ k l. other ns (3 * i) p.x p.y p.z (3 * j + k) (λ e. h (omega arith)) (λ e. h (omega arith)) (λ e. h (omega arith)) in
    let z : get_or (sets ns (3 * i) (triple p)) (3 * j) nan ≡ get_or ns (3 * j) nan =
    other ns (3 * i) p.x p.y p.z (3 * j) (λ e. h (omega arith)) (λ e. h (omega arith)) (λ e. h (omega arith)) in
    rw (z, o 1 (omega arith), o 2 (omega arith))
