-- The turns of the fit of a file. Assumes nothing.
use Prim.Native.Nat.{ℕ, suc, ◌+◌, ◌*◌, ◌≤◌, ◌<◌}
use mathlib.Core.Path.{◌≡◌, refl, sym, ap, ◌∙◌, subst}
use mathlib.Core.Bool.{true}
use mathlib.Core.List.{List, [], ◌∷◌, ◌++◌}
use native.Mathlib.Omega.{arith}
use lib.ListN.{length, get_or, drop}
use lib.Seq.{sets}
use Rattle.floats.specs.Ops.{◌≺◌, +0}
use Rattle.geo.specs.declared.types.Point3D.{Point3D}
use Rattle.geo.specs.Lent.{origin}
use Rattle.pieces.specs.declared.pieces.Rule.{Rule}
use Rattle.file.specs.Bytes.{u32_bytes}
use Rattle.laps.specs.File.{Lap, lap_count, laps_of, mark, encode, command_count}
use Rattle.laps.specs.Rows.{file_size}
use Rattle.laps.proofs.Going.{Going, begin, done}
use Rattle.laps.proofs.Turns.{laps_next, laps_over, length_laps_of}
use Rattle.lap_fit.specs.Fit.{lap_end, fit_lap, fit_laps, laps_most}
use Rattle.lap_fit.proofs.Lap.{fit-most, wholes_fit}

module _ (r : Rule) (pos : (+0 ≺ r.tolerance) ≡ true) where
  pub total_most : (p : Point3D) (ls : List Lap) → command_count (fit_laps r p ls) ≤ laps_most r.tolerance p ls
  unfolding command_count laps_most fit_laps
  total_most p [] = omega arith
  total_most p (l ∷ ls) = let h = total_most (lap_end p l) ls in let k = fit-most r pos p l in omega (arith, h, k)

  pub fit_begin : (s out : List ℕ) (l : ℕ) → l ≡ lap_count s → file_size l (laps_most r.tolerance origin (laps_of s)) ≤ length out
      → Going out out l 0 (8 + 8 * l) (fit_laps r origin (laps_of s)) (fit_laps r origin (laps_of s))
  fit_begin s out l e h = begin out l (fit_laps r origin (laps_of s)) (let k = total_most origin (laps_of s) in omega (arith, k))

module _ (r : Rule) where
  -- there are as many fits as laps
  pub length_fits : (p : Point3D) (ls : List Lap) → length (fit_laps r p ls) ≡ length ls
  unfolding fit_laps
  length_fits p [] = refl
  length_fits p (l ∷ ls) = ap suc (length_fits (lap_end p l) ls)

  -- the next lap starts where this one ends
  pub fit_cons : (p q : Point3D) (ls : List Lap) (x : Lap) (out₀ out : List ℕ) (l j to : ℕ) (all : List Lap) → j < length ls → x ≡ get_or ls j [] → q ≡ lap_end p x
      → Going out₀ out l j to (fit_laps r p (drop j ls)) all
      → Going out₀ out l j to (fit_lap r p x ∷ fit_laps r q (drop (j + 1) ls)) all
  unfolding fit_laps
  fit_cons p q ls x out₀ out l j to all h e f g = rw (f, e) (rw (laps_next ls j h) at g)

  no_fits : (p : Point3D) → fit_laps r p [] ≡ []
  unfolding fit_laps
  no_fits p = refl

  pub fit-done : (p : Point3D) (s out₀ out out' : List ℕ) (l j to : ℕ) → l ≡ lap_count s → l ≤ j → out ≡ sets out₀ 0 (mark ++ u32_bytes l)
      → Going out out' l j to (fit_laps r p (drop j (laps_of s))) (fit_laps r origin (laps_of s))
      → (to ≡ length (encode (fit_laps r origin (laps_of s)))) × (out' ≡ encode (fit_laps r origin (laps_of s)) ++ drop (length (encode (fit_laps r origin (laps_of s)))) out₀)
  fit-done p s out₀ out out' l j to e h k g =
      let n = length_laps_of s in
      done out₀ out out' l j to (fit_laps r origin (laps_of s))
      (subst (λ (ls : List Lap). Going out out' l j to ls (fit_laps r origin (laps_of s))) (ap (fit_laps r p) (laps_over (laps_of s) j (omega arith)) ∙ no_fits p) g)
      (e ∙ sym (length_laps_of s) ∙ sym (length_fits origin (laps_of s))) (wholes_fit r origin (laps_of s)) k
