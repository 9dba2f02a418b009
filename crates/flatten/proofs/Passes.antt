-- What the first pass writes, by the tests that the code makes: one Line where a part stays whole, else those of its two halves. Assumes nothing.
use Prim.Native.Nat.{ℕ, suc, ◌+◌, ◌-◌, ◌*◌, ◌^◌}
use mathlib.Core.Path.{◌≡◌, sym, ap, ◌∙◌, subst}
use mathlib.Core.Bool.{Bool, true, false}
use mathlib.Core.List.{List, [], ◌∷◌, ◌++◌, map-append}
use native.Mathlib.Nat.{pow-succ'}
use native.Mathlib.Omega.{arith}
use lib.ListN.{length, length-map}
use lib.Ieee.{Float, lt}
use Rattle.geo.specs.declared.types.Point.{Point}
use Rattle.pieces.specs.Written.{FitPlaced}
use Rattle.flatten.specs.Parts.{most_halvings, quarter_turn, cosine_between, bulge, middle, ArcPart, arc_part, halved, quartered}
use Rattle.flatten.specs.declared.flatten.Ray.{Ray}
use Rattle.flatten.specs.Written.{ray_of, bulge_of, low_line, low_lines}
use Rattle.flatten.proofs.Parts.{halved-flat, halved-cut}
use Rattle.pieces.proofs.Writing.{both-placed}

-- what a count that is not 0 is the next of
next : (n : ℕ) → (n ≡ 0 → ⊥) → n ≡ suc (n - 1)
next n h = omega arith

-- a halving less is half as many parts
pub half_power : (n : ℕ) → (n ≡ 0 → ⊥) → 2 ^ n ≡ 2 * 2 ^ (n - 1)
half_power n some = ap (λ (k : ℕ). 2 ^ k) (next n some) ∙ pow-succ' 2 (n - 1)

pub low_length : (m : Point) (ps : List ArcPart) → length (low_lines m ps) ≡ length ps
unfolding low_lines
low_length m ps = length-map ps (λ p. low_line m p.to)

-- ---- vectors with their lengths
module _ (r : Float) (u w : Ray) (eu : u ≡ ray_of u.to) (ew : w ≡ ray_of w.to) where
  pub bulge-is : bulge_of r u w ≡ bulge r u.to w.to
  unfolding bulge_of bulge cosine_between ray_of
  bulge-is = rw (eu, ew)

-- a vector that is promised with its length
pub ray_to : (v : Ray) (p : Point) → v ≡ ray_of p → v.to ≡ p
unfolding ray_of
ray_to v p e = rw e

pub ray_len : (v : Ray) (p : Point) → v ≡ ray_of p → v ≡ ray_of v.to
ray_len v p e = e ∙ ap ray_of (sym (ray_to v p e))

-- ---- one part
module _ (r limit : Float) (n : ℕ) (u w : Point) where
  pub none_left : n ≡ 0 → halved r limit n u w ≡ arc_part u w ∷ []
  unfolding halved
  none_left h = rw h

  pub stays_whole : (b : Float) → b ≡ bulge r u w → lt b limit ≡ true → halved r limit n u w ≡ arc_part u w ∷ []
  stays_whole b e h = halved-flat r limit n u w (ap (λ (x : Float). lt x limit) (sym e) ∙ h)

  pub is_cut : (b : Float) (v : Point) → b ≡ bulge r u w → v ≡ middle r u w → (n ≡ 0 → ⊥) → lt b limit ≡ false
      → halved r limit n u w ≡ halved r limit (n - 1) u v ++ halved r limit (n - 1) v w
  is_cut b v e q some h =
      ap (λ (k : ℕ). halved r limit k u w) (next n some) ∙ halved-cut r limit (n - 1) u w (ap (λ (x : Float). lt x limit) (sym e) ∙ h)
      ∙ ap (λ (x : Point). halved r limit (n - 1) u x ++ halved r limit (n - 1) x w) (sym q)

-- ---- what is written
module _ (m : Point) (at : ℕ) (ks : List ℕ) (ns : List Float) where
  pub whole-placed : (ps : List ArcPart) (u w : Point) (ks' : List ℕ) (ns' : List Float) → ps ≡ arc_part u w ∷ []
      → FitPlaced (low_line m w ∷ []) at 1 ks ks' ns ns' → FitPlaced (low_lines m ps) at 1 ks ks' ns ns'
  unfolding low_lines
  whole-placed ps u w ks' ns' e p = subst (λ (l : List ArcPart). FitPlaced (low_lines m l) at 1 ks ks' ns ns') (sym e) p

  pub same-placed : (ps qs : List ArcPart) (k : ℕ) (ks' : List ℕ) (ns' : List Float) → ps ≡ qs → FitPlaced (low_lines m qs) at k ks ks' ns ns' → FitPlaced (low_lines m ps) at k ks ks' ns ns'
  same-placed ps qs k ks' ns' e p = subst (λ (l : List ArcPart). FitPlaced (low_lines m l) at k ks ks' ns ns') (sym e) p

  pub both-low : (ps qs all : List ArcPart) (j k : ℕ) (ks₁ ks₂ : List ℕ) (ns₁ ns₂ : List Float) → all ≡ ps ++ qs
      → FitPlaced (low_lines m ps) at j ks ks₁ ns ns₁ → FitPlaced (low_lines m qs) (at + j) k ks₁ ks₂ ns₁ ns₂ → FitPlaced (low_lines m all) at (j + k) ks ks₂ ns ns₂
  unfolding low_lines
  both-low ps qs all j k ks₁ ks₂ ns₁ ns₂ e p q =
      both-placed (low_lines m ps) (low_lines m qs) (low_lines m all) at j k ks ks₁ ks₂ ns ns₁ ns₂
      (ap (low_lines m) e ∙ map-append (λ p. low_line m p.to) ps qs) p q

-- ---- k quarter turns and the rest
module _ (clockwise : Bool) (r limit : Float) (k : ℕ) (u w : Point) where
  pub last-quarter : k ≡ 0 → quartered clockwise r limit k u w ≡ halved r limit most_halvings u w
  unfolding quartered
  last-quarter h = rw h

  pub more_quarters : (v : Point) → v ≡ quarter_turn clockwise u → (k ≡ 0 → ⊥)
      → quartered clockwise r limit k u w ≡ halved r limit most_halvings u v ++ quartered clockwise r limit (k - 1) v w
  unfolding quartered
  more_quarters v e some = ap (λ (j : ℕ). quartered clockwise r limit j u w) (next k some) ∙ rw e
