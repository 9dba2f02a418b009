-- The code's own way: items written from the front of a list on, one after the other. What a reader has to believe stands in Thin.antt. Laws; assumes nothing.
use Prim.Native.Nat.{ℕ, suc, ◌+◌, ◌*◌, ◌/◌, ◌≤◌}
use mathlib.Core.Path.{◌≡◌, refl, sym, ap, ◌∙◌}
use mathlib.Core.List.{List, [], ◌∷◌, ◌++◌, map}
use native.Mathlib.Omega.{arith}
use native.Mathlib.Nat.{mul-zero, zero-add}
use lib.ListN.{length, get_or, set, length-map}
use lib.Seq.{sets, length-sets, get_or-set_other}
use lib.Ieee.{Float, nan}
use Rattle.geo.specs.declared.types.Point3D.{Point3D}
use Rattle.geo.specs.declared.types.Command.{Command}
use Rattle.geo.specs.Lent.{flat, triple, point_at, kind_of}
use Rattle.geo.proofs.Flat.{flat-one, flat_length, sets_flat}
use Rattle.geo.proofs.Stores.{sets_append}

-- no items
pub none_placed : {A B : Type 0} (f : A → List B) (l : List B) → l ≡ sets l 0 (flat f [])
unfolding flat
none_placed f l = refl

-- one item more, of `width` numbers
pub one_placed : {A B : Type 0} (f : A → List B) (width : ℕ) (wide : (x : A) → length (f x) ≡ width) (l₀ l l' : List B) (xs : List A) (x : A) (to : ℕ)
    → l ≡ sets l₀ 0 (flat f xs) → to ≡ length xs → l' ≡ sets l (width * to) (f x) → l' ≡ sets l₀ 0 (flat f (xs ++ x ∷ []))
one_placed f width wide l₀ l l' xs x to e h g =
    let q = sets_flat f width wide xs (x ∷ []) l₀ 0 in
    g ∙ rw (e, h) (sym (rw (flat-one f x, mul-zero width, zero-add (length xs)) at q))

-- one kind more
pub kind_placed : (ks₀ ks ks' : List ℕ) (xs : List Command) (x : Command) (to : ℕ)
    → ks ≡ sets ks₀ 0 (map kind_of xs) → to ≡ length xs → ks' ≡ set ks to (kind_of x) → ks' ≡ sets ks₀ 0 (map kind_of (xs ++ x ∷ []))
kind_placed ks₀ ks ks' xs x to e h g =
    g ∙ rw (e, h) (sym (ap (sets ks₀ 0) (map_snoc xs) ∙ sets_append (map kind_of xs) (kind_of x ∷ []) ks₀ 0 ∙ rw (zero-add (length (map kind_of xs)), length-map xs kind_of)))
  where
    map_snoc : (ys : List Command) → map kind_of (ys ++ x ∷ []) ≡ map kind_of ys ++ kind_of x ∷ []
    map_snoc [] = refl
    map_snoc (y ∷ ys) = ap (λ (l : List ℕ). kind_of y ∷ l) (map_snoc ys)

-- ---- triples in place
pub placed_size : (l l' : List Float) (xs : List Point3D) → l' ≡ sets l 0 (flat triple xs) → length l' / 3 ≡ length l / 3
placed_size l l' xs e = ap (λ (k : ℕ). k / 3) (ap length e ∙ length-sets l 0 (flat triple xs))

-- behind a run of stores all stands as it stood
get_d_behind : {A : Type 0} (vs l : List A) (i j : ℕ) (d : A) → i + length vs ≤ j → get_or (sets l i vs) j d ≡ get_or l j d
get_d_behind [] l i j d h = refl
get_d_behind (a ∷ vs) l i j d h = get_d_behind vs (set l i a) (suc i) j d (omega arith) ∙ get_or-set_other l i j a d (λ e. omega (arith, e))

pub placed_ahead : (l l' : List Float) (xs : List Point3D) → l' ≡ sets l 0 (flat triple xs) → (i : ℕ) → length xs ≤ i → point_at l' i ≡ point_at l i
unfolding point_at
placed_ahead l l' xs e i h =
    let n = flat_length triple 3 (λ p. refl) xs in
    rw e (rw (
      get_d_behind (flat triple xs) l 0 (3 * i) nan (omega (arith, n)),
      get_d_behind (flat triple xs) l 0 (3 * i + 1) nan (omega (arith, n)),
      get_d_behind (flat triple xs) l 0 (3 * i + 2) nan (omega (arith, n)),
    ))
