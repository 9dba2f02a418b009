-- The points that a call gives, lent as it wrote them, are accepted and given again: their numbers are among the list's, and so in the domain; read back they are the
-- kept points; and those are all kept (Again.antt). Assumes nothing.
use Prim.Native.Nat.{ℕ, zero, suc, ◌+◌, ◌*◌, ◌/◌, ◌%◌, ◌≤◌, ◌<◌}
use mathlib.Core.Path.{◌≡◌, refl, sym, ap, ◌∙◌, subst}
use mathlib.Core.Bool.{Bool, true}
use mathlib.Core.List.{List, [], ◌∷◌, ◌++◌, map}
use native.Mathlib.Omega.{arith}
use native.Mathlib.Nat.{mul_comm, mul-suc, mul-le-mul_left, le_trans, mul-div_cancel_left, mul-mod_right, le-div_iff_mul-le, mul-div-le}
use borrow.Author.Tests.{le-ltb, eq-eqb}
use lib.ListN.{length, get_or, take, length-map}
use lib.Seq.{take_at}
use lib.Ieee.{Float, nan}
use Rattle.floats.specs.Ops.{◌⊗◌}
use Rattle.floats.proofs.Unsigned.{square_not_negative}
use Rattle.geo.specs.declared.types.Point.{Point}
use Rattle.geo.specs.declared.types.Point3D.{Point3D}
use Rattle.geo.specs.Lent.{pair, triple, flat, pair_at, point_at}
use Rattle.geo.specs.Domain.{whole, coordinate, numbers_in, tolerance}
use Rattle.geo.specs.Outcome.{Outcome, gives, refusal, left}
use Rattle.geo.proofs.Every.{every_at, every_all}
use Rattle.geo.proofs.Flat.{flat_length}
use Rattle.geo.proofs.Rows.{unless-gives, unless-given}
use Rattle.simplify.specs.Thin.{thinned, thinned_points}
use Rattle.simplify.specs.Simplify.{Form, point_rows, simplify_form, pairs, triples, simplify_polyline, simplify_polyline3d}
use Rattle.simplify.specs.Twice.{ThinnedTwice, ThinsTwice}
use Rattle.simplify.specs.Words.{Ascending}
use Rattle.simplify.proofs.Kept.{thinned-ascending}
use Rattle.simplify.proofs.Accepted.{points-accepted, points_length}
use Rattle.simplify.proofs.Again.{get_d_map, points-again}

-- ---- each number of a list
abbrev Each : (Float → Bool) → List Float → Type 0
Each ok [] = Unit
Each ok (x ∷ xs) = (ok x ≡ true) × Each ok xs

each_append : (ok : Float → Bool) (xs ys : List Float) → Each ok xs → Each ok ys → Each ok (xs ++ ys)
each_append ok [] ys a b = b
each_append ok (x ∷ xs) ys a b = (a.0, each_append ok xs ys a.1 b)

each_at : (ok : Float → Bool) (xs : List Float) → Each ok xs → (j : ℕ) → j < length xs → ok (get_or xs j nan) ≡ true
each_at ok [] a j h = absurd (omega arith)
each_at ok (x ∷ xs) a zero h = a.0
each_at ok (x ∷ xs) a (suc j) h = each_at ok xs a.1 j (omega arith)

each_in : (ok : Float → Bool) (xs : List Float) → Each ok xs → numbers_in ok xs ≡ true
unfolding numbers_in
each_in ok xs a = every_all (λ i. ok (get_or xs i nan)) (length xs) 0 (λ j l h. each_at ok xs a j (omega arith))

number_in : (ok : Float → Bool) (xs : List Float) → numbers_in ok xs ≡ true → (j : ℕ) → j < length xs → ok (get_or xs j nan) ≡ true
unfolding numbers_in
number_in ok xs h j l = every_at (λ i. ok (get_or xs i nan)) (length xs) 0 h j (omega arith) (omega arith)

-- ---- what the law needs of a form
record Faithful {P : Type 0} (f : Form P) : Type 0 where
  some : 0 < f.width
  wide : (p : P) → length (f.lay p) ≡ f.width
  -- what is laid out is read back
  back : (ps : List P) (j : ℕ) (d : P) → j < length ps → f.read (flat f.lay ps) j ≡ get_or ps j d
  -- the numbers of a point that is read are among those of the list
  inside : (ok : Float → Bool) (s : List Float) (i : ℕ) → f.width * i + f.width ≤ length s → numbers_in ok s ≡ true → Each ok (f.lay (f.read s i))

pairs-back : (ps : List Point) (j : ℕ) (d : Point) → j < length ps → pair_at (flat pair ps) j ≡ get_or ps j d
unfolding pair_at flat
pairs-back [] j d h = absurd (omega arith)
pairs-back (p ∷ ps) zero d h = refl
pairs-back (p ∷ ps) (suc j) d h =
    let e : 2 * suc j ≡ suc (suc (2 * j)) = omega arith in
    let e₁ : suc (suc (2 * j)) + 1 ≡ suc (suc (2 * j + 1)) = omega arith in
    rw (e, e₁) (pairs-back ps j d (omega arith))

pairs-inside : (ok : Float → Bool) (s : List Float) (i : ℕ) → 2 * i + 2 ≤ length s → numbers_in ok s ≡ true → Each ok (pair (pair_at s i))
unfolding pair_at
pairs-inside ok s i l h = (number_in ok s h (2 * i) (omega arith), (number_in ok s h (2 * i + 1) (omega arith), tt))

triples-back : (ps : List Point3D) (j : ℕ) (d : Point3D) → j < length ps → point_at (flat triple ps) j ≡ get_or ps j d
unfolding point_at flat
triples-back [] j d h = absurd (omega arith)
triples-back (p ∷ ps) zero d h = refl
triples-back (p ∷ ps) (suc j) d h =
    let e : 3 * suc j ≡ suc (suc (suc (3 * j))) = omega arith in
    let e₁ : suc (suc (suc (3 * j))) + 1 ≡ suc (suc (suc (3 * j + 1))) = omega arith in
    let e₂ : suc (suc (suc (3 * j))) + 2 ≡ suc (suc (suc (3 * j + 2))) = omega arith in
    rw (e, e₁, e₂) (triples-back ps j d (omega arith))

triples-inside : (ok : Float → Bool) (s : List Float) (i : ℕ) → 3 * i + 3 ≤ length s → numbers_in ok s ≡ true → Each ok (triple (point_at s i))
unfolding point_at
triples-inside ok s i l h = (number_in ok s h (3 * i) (omega arith), (number_in ok s h (3 * i + 1) (omega arith), (number_in ok s h (3 * i + 2) (omega arith), tt)))

pairs_faithful : Faithful pairs
pairs_faithful = record { some = omega arith; wide = λ p. refl; back = pairs-back; inside = pairs-inside }

triples_faithful : Faithful triples
triples_faithful = record { some = omega arith; wide = λ p. refl; back = triples-back; inside = triples-inside }

-- ---- the rows of a call that is accepted
rows_pass : (width : ℕ) (s : List Float) (t : Float) (room : ℕ) → whole width (length s) ≡ true → whole width room ≡ true → length s / width ≤ 2048
    → numbers_in coordinate s ≡ true → tolerance t ≡ true → length s / width ≤ room / width → refusal (point_rows width s t room) ≡ 0
unfolding refusal
rows_pass width s t room a b c d e g = rw (a, b, le-ltb _ _ c, d, e, le-ltb _ _ g)

-- ---- the law, of any form
module _ {P : Type 0} (f : Form P) (v : Faithful f) (s : List Float) (t : Float) where
  abbrev n : ℕ
  n = length s / f.width

  abbrev kept : List P
  kept = thinned_points f.measure (t ⊗ t) (f.read s) n

  abbrev lent_again : List Float
  lent_again = flat f.lay kept

  long : (ps : List P) → length (flat f.lay ps) ≡ f.width * length ps
  long ps = flat_length f.lay f.width v.wide ps

  count_of : (ps : List P) → length (flat f.lay ps) / f.width ≡ length ps
  count_of ps = ap (λ (k : ℕ). k / f.width) (long ps) ∙ mul-div_cancel_left (length ps) v.some

  -- the numbers of the points at ascending indices below n are numbers of the list
  kept_in : numbers_in coordinate s ≡ true → (i : ℕ) (ks : List ℕ) → Ascending i n ks → Each coordinate (flat f.lay (map (f.read s) ks))
  unfolding flat
  kept_in h i [] a = tt
  kept_in h i (k ∷ ks) a =
      let l : f.width * suc k ≤ length s = le_trans (mul-le-mul_left f.width a.1) (mul-div-le (length s) f.width) in
      each_append coordinate (f.lay (f.read s k)) _ (v.inside coordinate s k (omega (arith, l, mul-suc f.width k)) h) (kept_in h (k + 1) ks a.2)

  -- read back, they are all kept
  kept_again : thinned_points f.measure (t ⊗ t) (f.read lent_again) (length lent_again / f.width) ≡ kept
  unfolding thinned_points
  kept_again =
      let at = f.read s in
      let ks = thinned f.measure (t ⊗ t) at n in
      ap (λ (k : ℕ). thinned_points f.measure (t ⊗ t) (f.read lent_again) k) (count_of kept)
      ∙ points-again f.measure (t ⊗ t) (square_not_negative t) at (f.read lent_again) n
      (λ j l. v.back (map at ks) j (at 0) (omega (arith, l, length-map ks at)) ∙ get_d_map at ks j 0 (at 0) l)

  -- the call on them is accepted where the call on the list was, and there is room
  rows-again : (room room' : ℕ) → 0 ≡ refusal (point_rows f.width s t room) → whole f.width room' ≡ true → f.width * length kept ≤ room'
      → refusal (point_rows f.width lent_again t room') ≡ 0
  unfolding thinned_points whole
  rows-again room room' z w l =
      let a = points-accepted f.width s t room z in
      let few = points_length f.measure (t ⊗ t) (square_not_negative t) (f.read s) n in
      let enough : length kept ≤ room' / f.width = (le-div_iff_mul-le v.some).1 (subst (λ (k : ℕ). k ≤ room') (mul_comm f.width (length kept)) l) in
      rows_pass f.width lent_again t room'
      (eq-eqb (length lent_again % f.width) 0 (ap (λ (k : ℕ). k % f.width) (long kept) ∙ mul-mod_right f.width (length kept)))
      w (omega (arith, count_of kept, few, a.0))
      (each_in coordinate lent_again (kept_in a.2 0 (thinned f.measure (t ⊗ t) (f.read s) n) (thinned-ascending f.measure (t ⊗ t) (square_not_negative t) (f.read s) n)))
      a.3
      (omega (arith, count_of kept, enough))

  twice : (out : List Float) (r : List P) → simplify_form f s t (length out) ≡ gives r → ThinnedTwice f (simplify_form f) t out (simplify_form f s t (length out)) r
  unfolding left
  twice out r e =
      let g = unless-given (refusal (point_rows f.width s t (length out))) kept r e in
      record {
        lent = ap (λ (o : Outcome (List P)). take (f.width * length r) (left (flat f.lay) out o)) e ∙ take_at (flat f.lay r) _ (f.width * length r) (long r);
        again = λ room w l.
            subst (λ (ps : List P). simplify_form f (flat f.lay ps) t room ≡ gives ps) g.1
            (unless-gives _ _ (rows-again (length out) room g.0 w (subst (λ (ps : List P). f.width * length ps ≤ room) (sym g.1) l)) ∙ ap gives kept_again);
      }

-- ---- the two calls
pub polyline_twice : ThinsTwice pairs simplify_polyline
unfolding simplify_polyline
polyline_twice s t = twice pairs pairs_faithful s t

pub polyline_3d_twice : ThinsTwice triples simplify_polyline3d
unfolding simplify_polyline3d
polyline_3d_twice s t = twice triples triples_faithful s t
