-- What the fewest straights tell, from their answer. Assumes nothing.
use Prim.Native.Nat.{ℕ}
use mathlib.Core.Path.{◌≡◌, refl, sym, ap, ◌∙◌}
use native.Mathlib.Omega.{arith}
use lib.ListN.{length}
use Rattle.geo.specs.Outcome.{Outcome, refused, gives}
use Rattle.ways.specs.Layers.{Best}
use Rattle.fewest.specs.declared.fewest.Counts.{Counts}
use Rattle.fewest.specs.Calls.{straights_answer}
use Rattle.exports.specs.Plain.{Told}
use Rattle.exports.proofs.Plain.{tells, tells_nothing}

module _ (o : Outcome Best) (count tested bound : ℕ) where
  -- the three numbers afterwards, q being the refusal's number or 0
  abbrev AllTold : ℕ → ℕ → ℕ → ℕ → Type 0
  AllTold n k m q = Told (λ (b : Best). length b.ends) o count n q × Told (λ (b : Best). b.tested) o tested k q × Told (λ (b : Best). b.bound) o bound m q

  pub tell_straights : (c : Counts) → gives c ≡ straights_answer o → AllTold c.count c.tested c.bound 0
  tell_straights c e = go o refl e
    where
      go : (u : Outcome Best) → o ≡ u → gives c ≡ straights_answer u → AllTold c.count c.tested c.bound 0
      go (refused i) q d = absurd (unfold straights_answer in let z : ◌≡◌ {A = ℕ} 0 1 = cc in omega arith)
      go (gives b) q d =
          let h : c ≡ record { count = length b.ends; tested = b.tested; bound = b.bound } = unfold straights_answer in cc in (
            tells (λ (x : Best). length x.ends) o count b c.count (sym q) (ap (λ (x : Counts). x.count) h),
            tells (λ (x : Best). x.tested) o tested b c.tested (sym q) (ap (λ (x : Counts). x.tested) h),
            tells (λ (x : Best). x.bound) o bound b c.bound (sym q) (ap (λ (x : Counts). x.bound) h),
          )

  pub tell_no_straights : (i r : ℕ) → refused i ≡ straights_answer o → r ≡ i → AllTold count tested bound r
  tell_no_straights i r e s = go o refl e
    where
      go : (u : Outcome Best) → o ≡ u → refused i ≡ straights_answer u → AllTold count tested bound r
      go (refused j) q d =
          let z : i ≡ j = unfold straights_answer in cc in
          let f : refused i ≡ o = ap (λ (x : ℕ). refused x) z ∙ sym q in
          (tells_nothing (λ (x : Best). length x.ends) o count i r f s, tells_nothing (λ (x : Best). x.tested) o tested i r f s, tells_nothing (λ (x : Best). x.bound) o bound i r f s)
      go (gives b) q d = absurd (unfold straights_answer in let z : ◌≡◌ {A = ℕ} 0 1 = cc in omega arith)
