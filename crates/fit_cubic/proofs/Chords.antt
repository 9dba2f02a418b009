-- The chord lengths as they are filled in, the sums over them, and the curve by the tests that the code makes. Assumes nothing.
use Prim.Native.Nat.{ℕ, zero, suc, ◌+◌, ◌-◌, ◌≤◌, ◌<◌}
use mathlib.Core.Path.{◌≡◌, refl, sym, ap, ◌∙◌, subst}
use mathlib.Core.Logic.{⊎_elim}
use mathlib.Core.Bool.{true, false}
use mathlib.Core.List.{List}
use native.Mathlib.Nat.{eq-or-lt_of_le}
use native.Mathlib.Omega.{arith}
use borrow.Author.Tests.{lt-ltb, le-ltb, eq-eqb, ne_eqb}
use lib.ListN.{length, get_or, set, length-set}
use lib.Seq.{get_or-set_same, get_or-set_other}
use lib.Ieee.{Float, nan, lt}
use Rattle.floats.specs.Ops.{◌⊕◌, ◌⊘◌, +0}
use Rattle.geo.specs.declared.types.Point.{Point}
use Rattle.geo.specs.Vector.{distance}
use Rattle.std.specs.Prelude.{Some, None}
use Rattle.fit_cubic.specs.declared.fit_cubic.Sums.{Sums}
use Rattle.fit_cubic.specs.FitCubic.{no_length, chord_sum, Chords, no_cubic_sums, add_point, cubic_sums, cubic_solved, straight, cubic_fitted}

-- the lengths before index i are filled in, and `last` is the length up to the point before it
pub record Filling (at : ℕ → Point) (n : ℕ) (l : List Float) (last : Float) (i : ℕ) : Type 0 where
  pub so_far : Chords at i l
  pub last-is : last ≡ chord_sum at (i - 1)
  pub from : 1 ≤ i
  pub long : n ≤ length l

module _ (at : ℕ → Point) (n : ℕ) where
  pub filling_start : (l : List Float) → n ≤ length l → get_or l 0 nan ≡ +0 → Filling at n l +0 1
  unfolding chord_sum
  filling_start l h z =
      record {
        so_far = record { at_each = λ i g. let e : i ≡ 0 = omega arith in subst (λ (k : ℕ). get_or l k nan ≡ chord_sum at k) (sym e) z };
        last-is = refl;
        from = omega arith;
        long = h;
      }

  next_sum : (i : ℕ) → 1 ≤ i → chord_sum at (i - 1) ⊕ distance (at i) (at (i - 1)) ≡ chord_sum at i
  unfolding chord_sum
  next_sum zero h = absurd (omega arith)
  next_sum (suc i) h = let e : suc i - 1 ≡ i = omega arith in rw e

  pub filling_step : (l : List Float) (last last' : Float) (i : ℕ) → i < n → Filling at n l last i → last' ≡ last ⊕ distance (at i) (at (i - 1)) → Filling at n (set l i last') last' (i + 1)
  filling_step l last last' i h f e =
      let g = f.long in
      let v : last' ≡ chord_sum at i = e ∙ ap (λ (x : Float). x ⊕ distance (at i) (at (i - 1))) f.last-is ∙ next_sum i f.from in
      let k : i + 1 - 1 ≡ i = omega arith in
      record {
        so_far =
            record {
              at_each =
                  λ j q. ⊎_elim
                  (λ z. subst (λ (k : ℕ). get_or (set l i last') k nan ≡ chord_sum at k) (sym z) (get_or-set_same l i last' nan (omega arith) ∙ v))
                  (λ z. get_or-set_other l i j last' nan (λ y. omega arith) ∙ f.so_far.at_each j (omega arith)) (eq-or-lt_of_le (below j i q));
            };
        last-is = rw k v;
        from = omega arith;
        long = simp length-set g;
      }
    where
      below : (j i : ℕ) → j < i + 1 → j ≤ i
      below j i q = omega arith

-- sums of nothing
pub zero_sums : (s : Sums) → s.a11 ≡ +0 → s.a12 ≡ +0 → s.a22 ≡ +0 → s.b1x ≡ +0 → s.b1y ≡ +0 → s.b2x ≡ +0 → s.b2y ≡ +0 → s ≡ no_cubic_sums
zero_sums s a b c d e f g = go s.a11 s.a12 s.a22 s.b1x s.b1y s.b2x s.b2y a b c d e f g
  where
    go : (x1 x2 x3 x4 x5 x6 x7 : Float) → x1 ≡ +0 → x2 ≡ +0 → x3 ≡ +0 → x4 ≡ +0 → x5 ≡ +0 → x6 ≡ +0 → x7 ≡ +0 → ◌≡◌ {A = Sums} (record { a11 = x1; a12 = x2; a22 = x3; b1x = x4; b1y = x5; b2x = x6; b2y = x7 }) no_cubic_sums
    go x1 x2 x3 x4 x5 x6 x7 a b c d e f g = rw (a, b, c, d, e, f, g)

-- what a turn of the loop over the points does to the sums
abbrev pub turn : (ℕ → Point) → ℕ → ℕ → Sums → Sums
turn at n k = add_point (at 0) (at (n - 1)) (chord_sum at k ⊘ chord_sum at (n - 1)) (at k)

-- ---- the curve of n points
module _ (at : ℕ → Point) (n : ℕ) where
  pub fitted_none : n < 2 → None ≡ cubic_fitted at n
  unfolding cubic_fitted
  fitted_none h = rw (lt-ltb _ _ h)

  pub fitted-two : 2 ≤ n → n ≡ 2 → Some (straight (at 0) (at (n - 1))) ≡ cubic_fitted at n
  unfolding cubic_fitted
  fitted-two h g = rw (le-ltb _ _ h, eq-eqb _ _ g)

  -- three points or more, of this length in all
  module _ (h : 2 ≤ n) (g : n ≡ 2 → ⊥) (total : Float) (e : total ≡ chord_sum at (n - 1)) where
    pub fitted_short : lt total no_length ≡ true → Some (straight (at 0) (at (n - 1))) ≡ cubic_fitted at n
    unfolding cubic_fitted
    fitted_short t =
        let u : lt (chord_sum at (n - 1)) no_length ≡ true = ap (λ (x : Float). lt x no_length) (sym e) ∙ t in
        rw (le-ltb _ _ h, ne_eqb _ _ g, u)

    pub fitted-solved : lt total no_length ≡ false → Some (cubic_solved (at 0) (at (n - 1)) (cubic_sums at n)) ≡ cubic_fitted at n
    unfolding cubic_fitted
    fitted-solved t =
        let u : lt (chord_sum at (n - 1)) no_length ≡ false = ap (λ (x : Float). lt x no_length) (sym e) ∙ t in
        rw (le-ltb _ _ h, ne_eqb _ _ g, u)
