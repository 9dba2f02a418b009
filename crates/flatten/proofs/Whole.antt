-- The whole call: what both passes leave of an Arc, the rows by the tests that the code makes, and what an accepted call answers. Assumes nothing.
use Prim.Native.Nat.{ℕ, ◌-◌, ◌*◌, ◌/◌, ◌≤◌}
use mathlib.Core.Path.{◌≡◌, subst}
use mathlib.Core.Bool.{Bool}
use mathlib.Core.List.{List}
use native.Mathlib.Omega.{arith}
use borrow.Author.Tests.{eqb-true, ltb-false, not-false}
use lib.ListN.{length}
use lib.Seq.{sets}
use lib.Ieee.{Float}
use Rattle.floats.specs.Ops.{◌≺◌, ◌⊗◌, +0}
use Rattle.geo.specs.declared.types.Point.{Point}
use Rattle.geo.specs.declared.types.Point3D.{Point3D}
use Rattle.std.specs.Prelude.{Ok}
use Rattle.geo.specs.Lent.{point_at, triple, numbers_of}
use Rattle.geo.specs.Outcome.{refusal}
use Rattle.geo.specs.Wrote.{WroteCommands}
use Rattle.geo.proofs.Rows.{row_passed}
use Rattle.geo.proofs.Flat.{flat_length}
use Rattle.geo.proofs.Wrote.{commands-given}
use Rattle.geo.proofs.Wrote.{nine}
use Rattle.trial.specs.Traversal.{offset_of}
use Rattle.pieces.specs.Written.{FitPlaced}
use Rattle.flatten.specs.Parts.{centre_of, turns_before, ArcPart, quartered, parts_between, parts_of}
use Rattle.flatten.specs.Lines.{height_after, line_after, lines_of, drawn}
use Rattle.floats.specs.Limits.{quarter}
use Rattle.flatten.specs.declared.flatten.Ray.{Ray}
use Rattle.flatten.specs.Written.{ray_of, low_lines, heightened}
use Rattle.flatten.specs.Calls.{flatten_rows, flatten_call}
use Rattle.flatten.proofs.Parts.{quartered-some, parts-few}
use Rattle.flatten.proofs.Lines.{numbered_length}
use Rattle.flatten.proofs.Raising.{passes-placed}

-- ---- both passes
module _ (a b o : Point3D) (clockwise : Bool) (tol : Float) (m : Point) (u w : Ray) (k : ℕ)
    (em : m ≡ centre_of a o) (eu : u ≡ ray_of (offset_of m a)) (ew : w ≡ ray_of (offset_of m b)) (ek : k ≡ turns_before clockwise u.to w.to) where
  parts_are : quartered clockwise u.len (tol ⊗ quarter) k u.to w.to ≡ parts_of clockwise tol m a b
  unfolding parts_of parts_between ray_of
  parts_are = rw (ek, eu, ew)

  pub arc-placed : (n : ℕ) (ks ks' : List ℕ) (ns ns₁ ns₂ ns₃ : List Float) → FitPlaced (low_lines m (quartered clockwise u.len (tol ⊗ quarter) k u.to w.to)) 0 n ks ks' ns ns₁
      → ns₂ ≡ heightened (height_after a b n) (n - 1) 0 ns₁ → ns₃ ≡ sets ns₂ (9 * (n - 1)) (triple b)
      → FitPlaced (lines_of (centre_of a o) a b (parts_of clockwise tol (centre_of a o) a b)) 0 n ks ks' ns ns₃
  arc-placed n ks ks' ns ns₁ ns₂ ns₃ f e g =
      let ps = quartered clockwise u.len (tol ⊗ quarter) k u.to w.to in
      subst (λ (x : Point). FitPlaced (lines_of x a b (parts_of clockwise tol x a b)) 0 n ks ks' ns ns₃) em
      (subst (λ (qs : List ArcPart). FitPlaced (lines_of m a b qs) 0 n ks ks' ns ns₃) parts_are
      (passes-placed m a b ps n ks ks' ns ns₁ ns₂ ns₃ (quartered-some u.len (tol ⊗ quarter) clockwise k u.to w.to) f e g))

-- ---- an accepted call
module _ (kind : ℕ) (s : List Float) (a : Point3D) (tol : Float) (kinds numbers : ℕ) (z : 0 ≡ refusal (flatten_rows kind s a tol kinds numbers)) where
  pub record Accepted : Type 0 where
    pub nine-numbers : length s ≡ 9
    pub room-kinds : 4096 ≤ kinds
    pub room-numbers : 36864 ≤ numbers

  pub arc-accepted : Accepted
  unfolding flatten_rows
  arc-accepted =
      let r₁ = row_passed 0 _ _ z in
      let r₂ = row_passed 0 _ _ r₁.1 in
      let r₃ = row_passed 3 _ _ r₂.1 in
      let r₄ = row_passed 4 _ _ r₃.1 in
      let r₅ = row_passed 4 _ _ r₄.1 in
      let r₆ = row_passed 5 _ _ r₅.1 in
      let r₇ = row_passed 10 _ _ r₆.1 in
      let r₈ = row_passed 8 _ _ r₇.1 in
      let r₉ = row_passed 8 _ _ r₈.1 in
      let n = ltb-false (numbers / 9) 4096 r₉.0 in
      record {
        nine-numbers = eqb-true (length s) 9 (not-false _ r₁.0);
        room-kinds = ltb-false kinds 4096 r₈.0;
        room-numbers = omega arith;
      }

-- the Lines of an Arc are at most 4,096
pub drawn-few : (a b o d : Point3D) (tol : Float) → length (drawn a b o d tol) ≤ 4096
unfolding drawn lines_of
drawn-few a b o d tol =
    let m = centre_of a o in
    let ps = parts_of (d.z ≺ +0) tol m a b in
    let f = parts-few (d.z ≺ +0) tol m a b in
    let l = numbered_length (line_after m a b (length ps)) 1 ps in omega arith

-- what it answers and leaves
pub wrote-arc : (kind : ℕ) (s : List Float) (a b o d : Point3D) (tol : Float) (ks ks' : List ℕ) (ns ns' : List Float) (k : ℕ)
    → 0 ≡ refusal (flatten_rows kind s a tol (length ks) (length ns)) → b ≡ point_at s 0 → o ≡ point_at s 1 → d ≡ point_at s 2
    → FitPlaced (lines_of (centre_of a o) a b (parts_of (d.z ≺ +0) tol (centre_of a o) a b)) 0 k ks ks' ns ns'
    → WroteCommands (flatten_call kind s a tol (length ks) (length ns)) ks ks' ns ns' (Ok k)
unfolding flatten_call drawn
wrote-arc kind s a b o d tol ks ks' ns ns' k z eb eo ed p =
    let xs = drawn a (point_at s 0) (point_at s 1) (point_at s 2) tol in
    let v = arc-accepted kind s a tol (length ks) (length ns) z in
    let f : length xs ≤ 4096 = drawn-few a (point_at s 0) (point_at s 1) (point_at s 2) tol in
    let rk = v.room-kinds in
    let rn = v.room-numbers in
    let w : FitPlaced xs 0 k ks ks' ns ns' = subst (λ (x : Point3D). FitPlaced (drawn a x (point_at s 1) (point_at s 2) tol) 0 k ks ks' ns ns') eb
    (subst (λ (x : Point3D). FitPlaced (drawn a b x (point_at s 2) tol) 0 k ks ks' ns ns') eo
    (subst (λ (x : Point3D). FitPlaced (drawn a b o x tol) 0 k ks ks' ns ns') ed p)) in
    commands-given _ z xs ks ks' ns ns' k w.count (omega arith) (omega (arith, flat_length numbers_of 9 nine xs)) w.kinds w.numbers
