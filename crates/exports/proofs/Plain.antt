-- The promises of an export, from what its outcome was. Assumes nothing.
use Prim.Native.Nat.{ℕ}
use mathlib.Core.Path.{◌≡◌, refl, sym, ap, ◌∙◌}
use mathlib.Core.List.{List, map}
use native.Mathlib.Omega.{arith}
use lib.ListN.{length}
use lib.Seq.{sets}
use lib.Ieee.{Float}
use Rattle.std.specs.Prelude.{Bool, Option, Result, Ok, Err}
use Rattle.geo.specs.declared.refusal.Refusal.{Refusal}
use Rattle.geo.specs.declared.types.Command.{Command}
use Rattle.geo.specs.Outcome.{Outcome, refused, gives, left}
use Rattle.geo.specs.Refusal.{outcome, number}
use Rattle.geo.specs.Wrote.{answer, Wrote, WroteCommands}
use Rattle.geo.specs.Lent.{flat, kind_of, numbers_of}
use Rattle.fitting.specs.declared.fitting.Primitives.{Primitives}
use Rattle.fitting.specs.Calls.{primitives_answer}
use Rattle.exports.specs.Plain.{is_found, number_of, laid_plain, told, count_or, Gave, Told, Handed, Listed, ListedCommands}

module _ {A : Type 0} (lay : A → List Float) (o : Outcome A) (out : List Float) where
  pub gave : (a : A) (out' : List Float) → gives a ≡ o → out' ≡ sets out 0 (lay a) → Gave lay o out out' 0
  unfolding number_of laid_plain
  gave a out' e h = rw (sym e) record { says = refl; leaves = h }

  pub gave_nothing : (n k : ℕ) → refused n ≡ o → k ≡ n → Gave lay o out out k
  unfolding number_of laid_plain
  gave_nothing n k e h = rw (sym e) record { says = h; leaves = refl }

module _ {A B : Type 0} (of : A → B) (o : Outcome A) (b : B) where
  pub tells : (a : A) (b' : B) → gives a ≡ o → b' ≡ of a → Told of o b b' 0
  unfolding number_of told
  tells a b' e h = rw (sym e) record { says = refl; leaves = h }

  pub tells_nothing : (n k : ℕ) → refused n ≡ o → k ≡ n → Told of o b b k
  unfolding number_of told
  tells_nothing n k e h = rw (sym e) record { says = h; leaves = refl }

-- ---- what a search found, if anything: whether it did, and the numbers of what it found
module _ {A : Type 0} (lay : Option A → List Float) (o : Outcome (Option A)) (b : Bool) (out : List Float) where
  pub finds : (a : Option A) (b' : Bool) (out' : List Float) → gives a ≡ o → b' ≡ is_found a → out' ≡ sets out 0 (lay a) → Told is_found o b b' 0 × Gave lay o out out' 0
  finds a b' out' e h k = (tells is_found o b a b' e h, gave lay o out a out' e k)

  pub finds_nothing : (n k : ℕ) → refused n ≡ o → k ≡ n → Told is_found o b b k × Gave lay o out out k
  finds_nothing n k e h = (tells_nothing is_found o b n k e h, gave_nothing lay o out n k e h)

-- ---- an answer that was handed on: the outcome is told by it
handed : {A : Type 0} (o : Outcome (List A)) (a : Result ℕ Refusal) (count count' r : ℕ) → outcome a ≡ answer o → Handed a count count' r → (r ≡ number_of o) × (count' ≡ told length count o)
unfolding answer count_or number_of told
handed (refused n) (Ok k) count count' r e h = let z : ◌≡◌ {A = ℕ} 0 1 = cc in absurd (omega arith)
handed (refused n) (Err cause) count count' r e h = let z : number cause ≡ n = cc in (h.says ∙ z, h.leaves)
handed (gives xs) (Ok k) count count' r e h = let z : k ≡ length xs = cc in (h.says, h.leaves ∙ z)
handed (gives xs) (Err cause) count count' r e h = let z : ◌≡◌ {A = ℕ} 0 1 = cc in absurd (omega arith)

-- what was written, and the answer that was handed on
pub listed : {A B : Type 0} (lay : List A → List B) (o : Outcome (List A)) (out out' : List B) (a : Result ℕ Refusal) (count count' r : ℕ) → Wrote lay o out out' a → Handed a count count' r
    → Listed lay o out out' count count' r
listed lay o out out' a count count' r w h = let t = handed o a count count' r w.says h in record { says = t.0; counts = t.1; leaves = w.leaves }

-- the same of commands
pub listed-commands : (o : Outcome (List Command)) (ks ks' : List ℕ) (ns ns' : List Float) (a : Result ℕ Refusal) (count count' r : ℕ) → WroteCommands o ks ks' ns ns' a → Handed a count count' r
    → ListedCommands o ks ks' ns ns' count count' r
listed-commands o ks ks' ns ns' a count count' r w h = let t = handed o a count count' r w.says h in record { says = t.0; counts = t.1; kinds = w.kinds; numbers = w.numbers }

-- ---- a fit that tells its ranges too, p being what it answered
module _ (o : Outcome (List Command)) (ranges : ℕ) (ks ks' : List ℕ) (ns ns' : List Float) (is : ks' ≡ left (map kind_of) ks o) (are : ns' ≡ left (flat numbers_of) ns o) (count looked : ℕ) where
  pub listed-fit : (p : Primitives) → gives p ≡ primitives_answer o ranges → ListedCommands o ks ks' ns ns' count p.count 0 × Told (λ (_ : List Command). ranges) o looked p.ranges 0
  unfolding number_of told
  listed-fit p e = go o refl e
    where
      go : (u : Outcome (List Command)) → o ≡ u → gives p ≡ primitives_answer u ranges → ListedCommands o ks ks' ns ns' count p.count 0 × Told (λ (_ : List Command). ranges) o looked p.ranges 0
      go (refused m) h d = absurd (unfold primitives_answer in let z : ◌≡◌ {A = ℕ} 0 1 = cc in omega arith)
      go (gives xs) h d =
          let q : p ≡ record { count = length xs; ranges = ranges } = unfold primitives_answer in cc in
          (record { says = rw h; counts = rw h (ap (λ (x : Primitives). x.count) q); kinds = is; numbers = are }, record { says = rw h; leaves = rw h (ap (λ (x : Primitives). x.ranges) q) })

  pub listed_no_fit : (n r : ℕ) → refused n ≡ primitives_answer o ranges → r ≡ n → ListedCommands o ks ks' ns ns' count count r × Told (λ (_ : List Command). ranges) o looked looked r
  unfolding number_of told
  listed_no_fit n r e i = go o refl e
    where
      go : (u : Outcome (List Command)) → o ≡ u → refused n ≡ primitives_answer u ranges → ListedCommands o ks ks' ns ns' count count r × Told (λ (_ : List Command). ranges) o looked looked r
      go (refused m) h d =
          let z : n ≡ m = unfold primitives_answer in cc in
          (record { says = rw h (i ∙ z); counts = rw h; kinds = is; numbers = are }, record { says = rw h (i ∙ z); leaves = rw h })
      go (gives xs) h d = absurd (unfold primitives_answer in let z : ◌≡◌ {A = ℕ} 0 1 = cc in omega arith)
