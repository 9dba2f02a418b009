-- Chains of ends, told by their places: one behind the other is one chain, and what a chain says of its ends. Assumes nothing.
use Prim.Native.Nat.{ℕ, ◌+◌, ◌≤◌, ◌<◌}
use mathlib.Core.Path.{◌≡◌, refl, sym, ap, ◌∙◌, subst}
use mathlib.Core.List.{List, [], ◌∷◌, ◌++◌, map}
use native.Mathlib.Omega.{arith}
use lib.Ieee.{Float}
use Rattle.geo.specs.declared.types.Point3D.{Point3D}
use Rattle.simplify.specs.Words.{Ascending}
use Rattle.live_runs.specs.Run.{LineEnd}
use Rattle.live_runs.specs.Drawn.{last_of, Gap, Gaps, Pairs, NearLine}

-- t was in force at each of these ends
abbrev pub AllUnder : Float → List LineEnd → Type 0
AllUnder t [] = Unit
AllUnder t (h ∷ hs) = (h.under ≡ t) × AllUnder t hs

-- the ends hs lead from the point at place a to the one at place b
pub record Chain (at : ℕ → Point3D) (a : ℕ) (hs : List LineEnd) (b : ℕ) : Type 0 where
  pub places : List ℕ
  pub gaps : Gaps at a hs places
  pub reach : last_of a places ≡ b

module _ (at : ℕ → Point3D) where
  pub chain-none : (a : ℕ) → Chain at a [] a
  unfolding last_of
  chain-none a = record { places = []; gaps = tt; reach = refl }

  pub chain-one : (a k : ℕ) (h : LineEnd) → Gap at a k h → Chain at a (h ∷ []) k
  unfolding last_of
  chain-one a k h g = record { places = k ∷ []; gaps = (g, tt); reach = refl }

  gaps_append : (a : ℕ) (hs gs : List LineEnd) (ks js : List ℕ) → Gaps at a hs ks → Gaps at (last_of a ks) gs js → Gaps at a (hs ++ gs) (ks ++ js)
  unfolding last_of
  gaps_append a [] gs [] js p q = q
  gaps_append a [] gs (k ∷ ks) js p q = absurd p
  gaps_append a (h ∷ hs) gs [] js p q = absurd p
  gaps_append a (h ∷ hs) gs (k ∷ ks) js p q = (p.0, gaps_append k hs gs ks js p.1 q)

  last_append : (a : ℕ) (ks js : List ℕ) → last_of a (ks ++ js) ≡ last_of (last_of a ks) js
  unfolding last_of
  last_append a [] js = refl
  last_append a (k ∷ ks) js = last_append k ks js

  pub chain_append : (a b c : ℕ) (hs gs : List LineEnd) → Chain at a hs b → Chain at b gs c → Chain at a (hs ++ gs) c
  chain_append a b c hs gs p q =
      record {
        places = p.places ++ q.places;
        gaps = gaps_append a hs gs p.places q.places p.gaps (subst (λ (k : ℕ). Gaps at k gs q.places) (sym p.reach) q.gaps);
        reach = last_append a p.places q.places ∙ ap (λ (k : ℕ). last_of k q.places) p.reach ∙ q.reach;
      }

  -- ---- of the ends of a chain
  -- they are the points at its places
  pub gaps-fed : (a : ℕ) (hs : List LineEnd) (ks : List ℕ) → Gaps at a hs ks → map (λ h. h.end) hs ≡ map at ks
  gaps-fed a [] [] p = refl
  gaps-fed a [] (k ∷ ks) p = absurd p
  gaps-fed a (h ∷ hs) [] p = absurd p
  gaps-fed a (h ∷ hs) (k ∷ ks) p = ap (λ (x : Point3D). x ∷ map (λ g. g.end) hs) p.0.fed ∙ ap (λ (l : List Point3D). at k ∷ l) (gaps-fed k hs ks p.1)

  gaps_rise : (a : ℕ) (hs : List LineEnd) (ks : List ℕ) → Gaps at a hs ks → a ≤ last_of a ks
  unfolding last_of
  gaps_rise a [] [] p = omega arith
  gaps_rise a [] (k ∷ ks) p = absurd p
  gaps_rise a (h ∷ hs) [] p = absurd p
  gaps_rise a (h ∷ hs) (k ∷ ks) p = let r = gaps_rise k hs ks p.1 in omega (arith, p.0.later)

  -- their places ascend
  pub gaps-ascend : (a e : ℕ) (hs : List LineEnd) (ks : List ℕ) → Gaps at a hs ks → last_of a ks < e → Ascending (a + 1) e ks
  unfolding last_of
  gaps-ascend a e [] [] p l = tt
  gaps-ascend a e [] (k ∷ ks) p l = absurd p
  gaps-ascend a e (h ∷ hs) [] p l = absurd p
  gaps-ascend a e (h ∷ hs) (k ∷ ks) p l =
      (omega (arith, p.0.later), let r = gaps_rise k hs ks p.1 in omega arith, gaps-ascend k e hs ks p.1 l)

  -- a chain that stays where it began has none
  pub gaps-none : (a : ℕ) (hs : List LineEnd) (ks : List ℕ) → Gaps at a hs ks → last_of a ks ≡ a → (hs ≡ []) × (ks ≡ [])
  unfolding last_of
  gaps-none a [] [] p l = (refl, refl)
  gaps-none a [] (k ∷ ks) p l = absurd p
  gaps-none a (h ∷ hs) [] p l = absurd p
  gaps-none a (h ∷ hs) (k ∷ ks) p l = let r = gaps_rise k hs ks p.1 in absurd (omega (arith, p.0.later))

  -- where t was in force all along, each point between two neighbours is below t
  pub gaps-below : (t : Float) (a : ℕ) (hs : List LineEnd) (ks : List ℕ) → Gaps at a hs ks → AllUnder t hs → Pairs (NearLine at t) a ks
  gaps-below t a [] [] p u = tt
  gaps-below t a [] (k ∷ ks) p u = absurd p
  gaps-below t a (h ∷ hs) [] p u = absurd p
  gaps-below t a (h ∷ hs) (k ∷ ks) p u = (subst (λ (x : Float). NearLine at x a k) u.0 p.0.below, gaps-below t k hs ks p.1 u.1)
