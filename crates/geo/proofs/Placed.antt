-- Items written at a place: one, and a run behind another. Assumes nothing.
use Prim.Native.Nat.{ℕ, ◌+◌, ◌*◌}
use mathlib.Core.Path.{◌≡◌, sym, ap, ◌∙◌}
use mathlib.Core.List.{List, [], ◌∷◌, ◌++◌}
use native.Mathlib.Omega.{arith}
use lib.ListN.{length, length-append}
use lib.Seq.{sets}
use Rattle.geo.specs.Lent.{flat}
use Rattle.geo.specs.Outcome.{Placed}
use Rattle.geo.proofs.Flat.{flat-one, sets_flat}

module _ {A B : Type 0} (item : A → List B) (width : ℕ) where
  pub placed_one : (x : A) (zs : List A) (at : ℕ) (out out' : List B) → zs ≡ x ∷ [] → out' ≡ sets out (width * at) (item x) → Placed item width zs at 1 out out'
  placed_one x zs at out out' z e = record { count = sym (ap length z); stored = e ∙ ap (sets out (width * at)) (sym (ap (flat item) z ∙ flat-one item x)) }

  pub placed-both : ((x : A) → length (item x) ≡ width) → (xs ys zs : List A) (at n m : ℕ) (out out' out'' : List B) → zs ≡ xs ++ ys
      → Placed item width xs at n out out' → Placed item width ys (at + n) m out' out'' → Placed item width zs at (n + m) out out''
  placed-both same xs ys zs at n m out out' out'' z p q =
      let a = p.count in
      let b = q.count in
      let c = length-append xs ys in
      let d = ap length z in
      record {
        count = omega arith;
        stored = q.stored ∙ rw (p.stored, a) (sym (ap (λ (l : List A). sets out (width * at) (flat item l)) z ∙ sets_flat item width same xs ys out at));
      }
