-- What becomes of a chain that is flushed: Lines one by one, and how many commands there are. Assumes nothing.
use Prim.Native.Nat.{ℕ, zero, suc, ◌+◌, ◌-◌, ◌*◌, ◌/◌, ◌≤◌, ◌<◌}
use mathlib.Core.Path.{◌≡◌, refl, sym, ap, ◌∙◌}
use mathlib.Core.Logic.{⊎_elim}
use mathlib.Core.Bool.{true}
use mathlib.Core.List.{List, [], ◌∷◌, ◌++◌, map}
use native.Mathlib.Omega.{arith}
use lib.ListN.{length, take, drop, length-map, length-drop}
use lib.Ieee.{Float}
use Rattle.floats.specs.Ops.{◌≺◌, +0}
use Rattle.floats.proofs.Order.{lt_or_ge}
use Rattle.geo.specs.declared.types.Point3D.{Point3D}
use Rattle.geo.specs.declared.types.Command.TheVariants.{Line}
use Rattle.geo.specs.Lent.{point_at, triple, flat}
use Rattle.geo.specs.Walk.{list_from}
use Rattle.geo.proofs.Walk.{list_step, list_done}
use Rattle.simplify.specs.Flags.{Copied}
use Rattle.pieces.specs.declared.pieces.Rule.{Rule}
use Rattle.pieces.specs.Pieces.{pieces_by}
use Rattle.pieces.specs.Commands.{kept_of}
use Rattle.pieces.specs.Written.{Noted, noted, noted_in, NotedPlaced}
use Rattle.deviations.proofs.Own.{point-later}
use Rattle.pieces.proofs.Fitted.{noted_length}
use Rattle.pieces.proofs.Writing.{placed-kinds, placed-numbers, Progress, progress_start, progress_step, progress_done}
use Rattle.ranges.proofs.Chain.{kept-few, kept-front, kept_wide}
use Rattle.chain.specs.declared.chain.Flush.{Flush}
use Rattle.chain.specs.declared.chain.Flush.TheVariants.{Fitted, AsItStands, Lines}
use Rattle.chain.specs.Chains.{line_noted, flushed_by}
use Rattle.chain.proofs.Stepping.{chain-few}

-- ---- Lines to the points s, k of them from index i on
abbrev pub lines_from : List Float → ℕ → ℕ → List Noted
lines_from s k i = map line_noted (list_from (point_at s) k i)

-- where the loop stands that writes them, up to index n
pub record Lining (s : List Float) (n at : ℕ) (ks₀ ks : List ℕ) (ns₀ ns : List Float) (ss₀ ss : List ℕ) (i written : ℕ) : Type 0 where
  pub index : i ≡ written + 1
  pub long_kinds : length ks ≡ length ks₀
  pub long_numbers : length ns ≡ length ns₀
  pub progress : Progress (lines_from s (n - 1) 1) (lines_from s (n - i) i) at written ks₀ ks ns₀ ns ss₀ ss

module _ (s : List Float) (n at : ℕ) (ks₀ : List ℕ) (ns₀ : List Float) (ss₀ : List ℕ) where
  pub lining_start : Lining s n at ks₀ ks₀ ns₀ ns₀ ss₀ ss₀ 1 0
  lining_start = record { index = refl; long_kinds = refl; long_numbers = refl; progress = progress_start (lines_from s (n - 1) 1) (lines_from s (n - 1) 1) at ks₀ ns₀ ss₀ refl }

  module _ (ks : List ℕ) (ns : List Float) (ss : List ℕ) (i written : ℕ) (g : Lining s n at ks₀ ks ns₀ ns ss₀ ss i written) where
    pub lining_step : (ks' : List ℕ) (ns' : List Float) (ss' : List ℕ) (p : Point3D) → i < n → p ≡ point_at s i
        → NotedPlaced (noted (Line p) 1 ∷ []) (at + written) 1 ks ks' ns ns' ss ss' → Lining s n at ks₀ ks' ns₀ ns' ss₀ ss' (i + 1) (written + 1)
    unfolding line_noted
    lining_step ks' ns' ss' p h e q =
        let x = g.index in
        let next = lines_from s (n - (i + 1)) (i + 1) in
        let o : lines_from s (n - i) i ≡ (noted (Line p) 1 ∷ []) ++ next = ap (map line_noted) (list_step (point_at s) n i h) ∙ ap (λ (a : Point3D). noted (Line a) 1 ∷ next) (sym e) in
        record {
          index = omega arith;
          long_kinds = placed-kinds (noted (Line p) 1 ∷ []) (at + written) 1 ks ks' ns ns' ss ss' q ∙ g.long_kinds;
          long_numbers = placed-numbers (noted (Line p) 1 ∷ []) (at + written) 1 ks ks' ns ns' ss ss' q ∙ g.long_numbers;
          progress = progress_step (lines_from s (n - 1) 1) (lines_from s (n - i) i) at ks₀ ns₀ ss₀ written ks ns ss g.progress (noted (Line p) 1 ∷ []) next (at + written) 1 ks' ns' ss' o refl q;
        }

    pub lining_done : n ≤ i → NotedPlaced (lines_from s (n - 1) 1) at written ks₀ ks ns₀ ns ss₀ ss
    lining_done h = progress_done (lines_from s (n - 1) 1) (lines_from s (n - i) i) at ks₀ ns₀ ss₀ written ks ns ss g.progress (ap (map line_noted) (list_done (point_at s) n i h))

-- ---- points that were laid out, read again
list_later : {A : Type 0} (f : ℕ → A) (n i : ℕ) → list_from f n (i + 1) ≡ list_from (λ (j : ℕ). f (j + 1)) n i
unfolding list_from
list_later f zero i = refl
list_later f (suc n) i = ap (λ (l : List _). f (i + 1) ∷ l) (list_later f n (i + 1))

list_same : {A : Type 0} (f g : ℕ → A) → ((j : ℕ) → f j ≡ g j) → (n i : ℕ) → list_from f n i ≡ list_from g n i
unfolding list_from
list_same f g e zero i = refl
list_same f g e (suc n) i = ap (λ (x : _). x ∷ list_from f n (i + 1)) (e i) ∙ ap (λ (l : List _). g i ∷ l) (list_same f g e n (i + 1))

points-after : (p : Point3D) (ps : List Point3D) → list_from (point_at (flat triple ps)) (length ps) 0 ≡ ps → list_from (point_at (flat triple (p ∷ ps))) (length ps) 1 ≡ ps
points-after p ps r =
    list_later (point_at (flat triple (p ∷ ps))) (length ps) 0
    ∙ list_same (λ (j : ℕ). point_at (flat triple (p ∷ ps)) (j + 1)) (point_at (flat triple ps)) (point-later p ps) (length ps) 0
    ∙ r

points-again : (ps : List Point3D) → list_from (point_at (flat triple ps)) (length ps) 0 ≡ ps
unfolding list_from
points-again [] = refl
points-again (p ∷ ps) =
    let h : point_at (flat triple (p ∷ ps)) 0 ≡ p = unfold point_at flat in refl in
    ap (λ (x : Point3D). x ∷ list_from (point_at (flat triple (p ∷ ps))) (length ps) 1) h ∙ ap (λ (l : List Point3D). p ∷ l) (points-after p ps (points-again ps))

-- all but the first
pub points-behind : (ps : List Point3D) → list_from (point_at (flat triple ps)) (length ps - 1) 1 ≡ drop 1 ps
unfolding list_from
points-behind [] = refl
points-behind (p ∷ ps) = let e : length (p ∷ ps) - 1 ≡ length ps = omega arith in rw e (points-after p ps (points-again ps))

-- a chain that is thinned to Lines: what stands at the front of the buffer are the points that are kept
pub thinned-lines : (r : Rule) (s out out' : List Float) (k : ℕ) → Copied triple (kept_of r s) out out' k → 3 * (length s / 3) ≤ length out
    → lines_from (take (3 * k) out') (length (take (3 * k) out') / 3 - 1) 1 ≡ flushed_by Lines r s
unfolding flushed_by
thinned-lines r s out out' k c room =
    let w = kept_wide r s out out' k c room in
    let e = c.count in
    let q : length (take (3 * k) out') / 3 - 1 ≡ length (kept_of r s) - 1 = omega arith in
    rw q (ap (λ (l : List Float). lines_from l (length (kept_of r s) - 1) 1) (kept-front r s out out' k c room) ∙ ap (map line_noted) (points-behind (kept_of r s)))

-- ---- a chain that is fitted as it stands: none with no step
pub no_steps : (r : Rule) (s : List Float) → length s / 3 < 2 → flushed_by AsItStands r s ≡ []
unfolding flushed_by noted_in pieces_by
no_steps r s h = let d : length s / 3 - 1 ≡ 0 = omega arith in rw d

steps_length : (r : Rule) → (+0 ≺ r.tolerance) ≡ true → (s : List Float) → 2 ≤ length s / 3 → length (flushed_by AsItStands r s) ≤ length s / 3 - 1 - 0
unfolding flushed_by
steps_length r pos s h = noted_length r pos (point_at s) 0 (length s / 3 - 1) (omega arith)

lines_length : (r : Rule) (s : List Float) → length (flushed_by Lines r s) ≡ length (kept_of r s) - 1
unfolding flushed_by
lines_length r s = length-map (drop 1 (kept_of r s)) line_noted ∙ length-drop 1 (kept_of r s)

-- what is flushed has at most a command for each step
pub flushed_few : (f : Flush) (r : Rule) → (+0 ≺ r.tolerance) ≡ true → (s : List Float) → length (flushed_by f r s) ≤ length s / 3 - 1
flushed_few Fitted r pos s = unfold flushed_by in chain-few r pos s
flushed_few AsItStands r pos s =
    ⊎_elim (λ h. let e = ap length (no_steps r s h) in omega arith)
    (λ h. let l = steps_length r pos s h in omega arith) (lt_or_ge (length s / 3) 2)
flushed_few Lines r pos s =
    let f = kept-few r s in
    let l = lines_length r s in omega arith
