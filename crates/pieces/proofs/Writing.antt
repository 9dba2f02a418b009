-- Commands written at a place with what is noted beside them: one, and a run behind another. Assumes nothing.
use Prim.Native.Nat.{ℕ, ◌+◌, ◌*◌}
use mathlib.Core.Path.{◌≡◌, refl, sym, ap, ◌∙◌, subst}
use mathlib.Core.List.{List, [], ◌∷◌, ◌++◌, map, map-append, append_assoc, append-nil}
use native.Mathlib.Omega.{arith}
use lib.ListN.{length, set, length-append, length-map}
use lib.Seq.{sets, length-sets}
use lib.Ieee.{Float}
use Rattle.geo.specs.declared.types.Command.{Command}
use Rattle.geo.specs.Lent.{flat, kind_of, numbers_of}
use Rattle.geo.proofs.Stores.{sets_append}
use Rattle.geo.proofs.Flat.{flat-one, sets_flat}
use Rattle.geo.proofs.Wrote.{nine}
use Rattle.pieces.specs.Written.{FitPlaced, Noted, noted, commands_of, notes_of, NotedPlaced}

-- ---- lists of them
pub commands_length : (xs : List Noted) → length (commands_of xs) ≡ length xs
unfolding commands_of
commands_length xs = length-map xs (λ (x : Noted). x.command)

pub notes_length : (xs : List Noted) → length (notes_of xs) ≡ length xs
unfolding notes_of
notes_length xs = length-map xs (λ (x : Noted). x.note)

pub commands_append : (xs ys : List Noted) → commands_of (xs ++ ys) ≡ commands_of xs ++ commands_of ys
unfolding commands_of
commands_append xs ys = map-append (λ (x : Noted). x.command) xs ys

pub notes_append : (xs ys : List Noted) → notes_of (xs ++ ys) ≡ notes_of xs ++ notes_of ys
unfolding notes_of
notes_append xs ys = map-append (λ (x : Noted). x.note) xs ys

-- ---- commands alone: one, and a run with another behind it
pub one_placed : (c : Command) (at : ℕ) (ks ks' : List ℕ) (ns ns' : List Float) → ks' ≡ set ks at (kind_of c) → ns' ≡ sets ns (9 * at) (numbers_of c)
    → FitPlaced (c ∷ []) at 1 ks ks' ns ns'
one_placed c at ks ks' ns ns' e q = record { count = refl; kinds = e; numbers = q ∙ ap (sets ns (9 * at)) (sym (flat-one numbers_of c)) }

pub both-placed : (xs ys zs : List Command) (at n m : ℕ) (ks ks₁ ks₂ : List ℕ) (ns ns₁ ns₂ : List Float) → zs ≡ xs ++ ys
    → FitPlaced xs at n ks ks₁ ns ns₁ → FitPlaced ys (at + n) m ks₁ ks₂ ns₁ ns₂ → FitPlaced zs at (n + m) ks ks₂ ns ns₂
both-placed xs ys zs at n m ks ks₁ ks₂ ns ns₁ ns₂ z a b =
    let p = a.count in
    let q = b.count in
    let l = length-append xs ys in
    let d = ap length z in
    let r : at + n ≡ at + length (map kind_of xs) = omega (arith, length-map xs kind_of) in
    record {
      count = omega arith;
      kinds = b.kinds ∙ rw (r, a.kinds) (sym (ap (λ (l : List Command). sets ks at (map kind_of l)) z ∙ ap (sets ks at) (map-append kind_of xs ys) ∙ sets_append (map kind_of xs) (map kind_of ys) ks at));
      numbers = b.numbers ∙ rw (p, a.numbers) (sym (ap (λ (l : List Command). sets ns (9 * at) (flat numbers_of l)) z ∙ sets_flat numbers_of 9 nine xs ys ns at));
    }

-- ---- with their notes
-- one
pub one-noted : (c : Command) (n at : ℕ) (ks ks' : List ℕ) (ns ns' : List Float) (ss ss' : List ℕ) → ks' ≡ set ks at (kind_of c) → ns' ≡ sets ns (9 * at) (numbers_of c)
    → ss' ≡ set ss at n → NotedPlaced (noted c n ∷ []) at 1 ks ks' ns ns' ss ss'
unfolding commands_of notes_of
one-noted c n at ks ks' ns ns' ss ss' e q h =
    record { commands = one_placed c at ks ks' ns ns' e q; notes = h }

-- none
pub none-noted : (xs : List Noted) → xs ≡ [] → (at : ℕ) (ks : List ℕ) (ns : List Float) (ss : List ℕ) → NotedPlaced xs at 0 ks ks ns ns ss ss
unfolding commands_of notes_of flat
none-noted xs e at ks ns ss = rw e (record { commands = record { count = refl; kinds = refl; numbers = refl }; notes = refl })

-- the same under another name
pub same_noted : (xs ys : List Noted) (at n : ℕ) (ks ks' : List ℕ) (ns ns' : List Float) (ss ss' : List ℕ) → xs ≡ ys → NotedPlaced xs at n ks ks' ns ns' ss ss'
    → NotedPlaced ys at n ks ks' ns ns' ss ss'
same_noted xs ys at n ks ks' ns ns' ss ss' e p = subst (λ (zs : List Noted). NotedPlaced zs at n ks ks' ns ns' ss ss') e p

-- how many they are
pub count-noted : (xs : List Noted) (at n : ℕ) (ks ks' : List ℕ) (ns ns' : List Float) (ss ss' : List ℕ) → NotedPlaced xs at n ks ks' ns ns' ss ss' → n ≡ length xs
count-noted xs at n ks ks' ns ns' ss ss' p = p.commands.count ∙ commands_length xs

-- a run, and another behind it
pub both-noted : (xs ys : List Noted) (at mid n m : ℕ) (ks ks₁ ks₂ : List ℕ) (ns ns₁ ns₂ : List Float) (ss ss₁ ss₂ : List ℕ) → mid ≡ at + n
    → NotedPlaced xs at n ks ks₁ ns ns₁ ss ss₁ → NotedPlaced ys mid m ks₁ ks₂ ns₁ ns₂ ss₁ ss₂ → NotedPlaced (xs ++ ys) at (n + m) ks ks₂ ns ns₂ ss ss₂
both-noted xs ys at mid n m ks ks₁ ks₂ ns ns₁ ns₂ ss ss₁ ss₂ e a b =
    let p = count-noted xs at n ks ks₁ ns ns₁ ss ss₁ a in
    let r : mid ≡ at + length (notes_of xs) = omega (arith, notes_length xs) in
    record {
      commands =
          both-placed (commands_of xs) (commands_of ys) (commands_of (xs ++ ys)) at n m ks ks₁ ks₂ ns ns₁ ns₂ (commands_append xs ys) a.commands (rw (← e) b.commands);
      notes = b.notes ∙ rw (r, a.notes) (sym (ap (sets ss at) (notes_append xs ys) ∙ sets_append (notes_of xs) (notes_of ys) ss at));
    }

-- the commands of a run, for who wants no notes
pub commands-placed : (xs : List Noted) (cs : List Command) (at n : ℕ) (ks ks' : List ℕ) (ns ns' : List Float) (ss ss' : List ℕ) → commands_of xs ≡ cs
    → NotedPlaced xs at n ks ks' ns ns' ss ss' → FitPlaced cs at n ks ks' ns ns'
commands-placed xs cs at n ks ks' ns ns' ss ss' e p = subst (λ (zs : List Command). FitPlaced zs at n ks ks' ns ns') e p.commands

-- the outputs are as long as before
module _ (xs : List Noted) (at n : ℕ) (ks ks' : List ℕ) (ns ns' : List Float) (ss ss' : List ℕ) (p : NotedPlaced xs at n ks ks' ns ns' ss ss') where
  pub placed-kinds : length ks' ≡ length ks
  placed-kinds = ap length p.commands.kinds ∙ length-sets ks at (map kind_of (commands_of xs))

  pub placed-numbers : length ns' ≡ length ns
  placed-numbers = ap length p.commands.numbers ∙ length-sets ns (9 * at) (flat numbers_of (commands_of xs))

  pub placed-notes : length ss' ≡ length ss
  placed-notes = ap length p.notes ∙ length-sets ss at (notes_of xs)

-- ---- a loop that writes: of the whole, `done` is written from place `at` on, n of them, and `left` is left
pub record Progress (whole left : List Noted) (at n : ℕ) (ks₀ ks : List ℕ) (ns₀ ns : List Float) (ss₀ ss : List ℕ) : Type 0 where
  pub done : List Noted
  pub wrote : NotedPlaced done at n ks₀ ks ns₀ ns ss₀ ss
  pub all : done ++ left ≡ whole

module _ (whole left : List Noted) (at : ℕ) (ks₀ : List ℕ) (ns₀ : List Float) (ss₀ : List ℕ) where
  pub progress_start : left ≡ whole → Progress whole left at 0 ks₀ ks₀ ns₀ ns₀ ss₀ ss₀
  progress_start e = record { done = []; wrote = none-noted [] refl at ks₀ ns₀ ss₀; all = e }

  module _ (n : ℕ) (ks : List ℕ) (ns : List Float) (ss : List ℕ) (p : Progress whole left at n ks₀ ks ns₀ ns ss₀ ss) where
    pub progress_step : (xs rest : List Noted) (mid k : ℕ) (ks' : List ℕ) (ns' : List Float) (ss' : List ℕ) → left ≡ xs ++ rest → mid ≡ at + n
        → NotedPlaced xs mid k ks ks' ns ns' ss ss' → Progress whole rest at (n + k) ks₀ ks' ns₀ ns' ss₀ ss'
    progress_step xs rest mid k ks' ns' ss' e m q =
        record {
          done = p.done ++ xs;
          wrote = both-noted p.done xs at mid n k ks₀ ks ks' ns₀ ns ns' ss₀ ss ss' m p.wrote q;
          all = append_assoc p.done xs rest ∙ ap (λ (zs : List Noted). p.done ++ zs) (sym e) ∙ p.all;
        }

    pub progress_done : left ≡ [] → NotedPlaced whole at n ks₀ ks ns₀ ns ss₀ ss
    progress_done e = same_noted p.done whole at n ks₀ ks ns₀ ns ss₀ ss (sym (append-nil p.done) ∙ ap (λ (zs : List Noted). p.done ++ zs) (sym e) ∙ p.all) p.wrote
