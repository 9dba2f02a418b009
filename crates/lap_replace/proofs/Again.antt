-- The fit of a course with lap k replaced: the fitted laps with the new lap's fit and, where it lacks its Move, the next lap's. Assumes nothing.
use Prim.Native.Nat.{ℕ, zero, suc, ◌+◌, ◌-◌, ◌≤◌, ◌<◌}
use mathlib.Core.Path.{◌≡◌, refl, sym, ap, ◌∙◌}
use mathlib.Core.Bool.{Bool, true, false, cond}
use mathlib.Core.List.{List, [], ◌∷◌}
use native.Mathlib.Omega.{arith}
use lib.ListN.{length, get_or, set}
use Rattle.floats.specs.Ops.{◌≺◌, +0}
use Rattle.geo.specs.declared.types.Point3D.{Point3D}
use Rattle.geo.specs.Lent.{origin}
use Rattle.pieces.specs.declared.pieces.Rule.{Rule}
use Rattle.laps.specs.File.{Lap, lacks, command_count}
use Rattle.laps.proofs.ReadBack.{Somes}
use Rattle.lap_fit.specs.Fit.{lap_end, start_from, start_of, fit_lap, fit_laps, most_lap, laps_most}
use Rattle.lap_fit.proofs.Lap.{fit-most}
use Rattle.lap_fit.proofs.Starts.{end-some, start_not_asked, most-start_not_asked, most_no_lap}
use Rattle.lap_fit.proofs.Turns.{total_most}
use Rattle.lap_swap.specs.Swap.{swap, swap_both, next_lacks, next_lap}

-- the lap of index i and the one behind it, by their indices
abbrev again : Bool → ℕ → Lap → Lap → List Lap → List Lap
again both i new next fs = cond both (set (set fs i new) (suc i) next) (set fs i new)

again_suc : (both : Bool) (i : ℕ) (new next x : Lap) (xs : List Lap) → again both (suc i) new next (x ∷ xs) ≡ x ∷ again both i new next xs
again_suc true i new next x xs = refl
again_suc false i new next x xs = refl

again-is : (both : Bool) (k : ℕ) (new next : Lap) (fs : List Lap) → swap_both both k new next fs ≡ cond both (set (set fs (k - 1) new) k next) (set fs (k - 1) new)
unfolding swap_both
again-is both k new next fs =
    let z : k + 1 - 1 ≡ k = omega arith in ap (λ (i : ℕ). cond both (set (set fs (k - 1) new) i next) (set fs (k - 1) new)) z

-- ---- the fits: behind the next lap nothing depends on where that starts
module _ (r : Rule) (new : Lap) where
  fits-here : (p : Point3D) (l m : Lap) (ms : List Lap) → 0 < length m → (t : Bool) → lacks m ≡ t
      → fit_lap r p new ∷ fit_lap r (lap_end p new) m ∷ fit_laps r (lap_end (lap_end p new) m) ms
      ≡ again t 0 (fit_lap r p new) (fit_lap r (lap_end p new) m) (fit_lap r p l ∷ fit_lap r (lap_end p l) m ∷ fit_laps r (lap_end (lap_end p l) m) ms)
  fits-here p l m ms h true q = rw (end-some (lap_end p new) (lap_end p l) m h)
  fits-here p l m ms h false q = rw (end-some (lap_end p new) (lap_end p l) m h, start_not_asked r (lap_end p new) (lap_end p l) m q)

  fits_set : (i : ℕ) (p : Point3D) (ls : List Lap) → i < length ls → Somes ls
      → fit_laps r p (set ls i new)
      ≡ again (lacks (get_or ls (suc i) [])) i (fit_lap r (start_from p ls i) new) (fit_lap r (lap_end (start_from p ls i) new) (get_or ls (suc i) [])) (fit_laps r p ls)
  unfolding fit_laps start_from
  fits_set i p [] h e = absurd (omega arith)
  fits_set zero p (l ∷ []) h e = unfold lacks in refl
  fits_set zero p (l ∷ m ∷ ms) h e = fits-here p l m ms e.1.0 (lacks m) refl
  fits_set (suc i) p (l ∷ ls) h e =
      ap (λ (xs : List Lap). fit_lap r p l ∷ xs) (fits_set i (lap_end p l) ls (omega arith) e.1)
      ∙ sym (again_suc (lacks (get_or ls (suc i) [])) i (fit_lap r (start_from (lap_end p l) ls i) new) (fit_lap r (lap_end (start_from (lap_end p l) ls i) new) (get_or ls (suc i) [])) (fit_lap r p l) (fit_laps r (lap_end p l) ls))

  -- ---- the mosts: that of a replacement is no more than that of all laps
  module _ (pos : (+0 ≺ r.tolerance) ≡ true) where
    mosts_here : (p : Point3D) (l m : Lap) (ms : List Lap) → 0 < length m → (t : Bool) → lacks m ≡ t
        → most_lap r.tolerance p new + most_lap r.tolerance (lap_end p new) (cond t m [])
        + command_count (again t 0 [] [] (fit_lap r p l ∷ fit_lap r (lap_end p l) m ∷ fit_laps r (lap_end (lap_end p l) m) ms))
        ≤ most_lap r.tolerance p new + (most_lap r.tolerance (lap_end p new) m + laps_most r.tolerance (lap_end (lap_end p new) m) ms)
    unfolding command_count
    mosts_here p l m ms h true q =
        let a = total_most r pos (lap_end (lap_end p l) m) ms in
        rw (end-some (lap_end p new) (lap_end p l) m h) (omega (arith, a))
    mosts_here p l m ms h false q =
        let a = total_most r pos (lap_end (lap_end p l) m) ms in
        let b = fit-most r pos (lap_end p l) m in
        let c = most_no_lap r.tolerance (lap_end p new) in
        rw (end-some (lap_end p new) (lap_end p l) m h, most-start_not_asked r.tolerance (lap_end p new) (lap_end p l) m q) (omega (arith, a, b, c))

    mosts_set : (i : ℕ) (p : Point3D) (ls : List Lap) → i < length ls → Somes ls
        → most_lap r.tolerance (start_from p ls i) new + most_lap r.tolerance (lap_end (start_from p ls i) new) (cond (lacks (get_or ls (suc i) [])) (get_or ls (suc i) []) [])
        + command_count (again (lacks (get_or ls (suc i) [])) i [] [] (fit_laps r p ls))
        ≤ laps_most r.tolerance p (set ls i new)
    unfolding fit_laps laps_most start_from
    mosts_set i p [] h e = absurd (omega arith)
    mosts_set zero p (l ∷ []) h e = let c = most_no_lap r.tolerance (lap_end p new) in unfold lacks command_count in omega (arith, c)
    mosts_set zero p (l ∷ m ∷ ms) h e = mosts_here p l m ms e.1.0 (lacks m) refl
    mosts_set (suc i) p (l ∷ ls) h e =
        let a = mosts_set i (lap_end p l) ls (omega arith) e.1 in
        let b = fit-most r pos p l in
        let c = ap command_count (again_suc (lacks (get_or ls (suc i) [])) i [] [] (fit_lap r p l) (fit_laps r (lap_end p l) ls)) in
        let d : command_count (fit_lap r p l ∷ again (lacks (get_or ls (suc i) [])) i [] [] (fit_laps r (lap_end p l) ls)) ≡ length (fit_lap r p l) + command_count (again (lacks (get_or ls (suc i) [])) i [] [] (fit_laps r (lap_end p l) ls)) = unfold command_count in refl in
        omega (arith, a, b, c, d)

-- ---- of a course, by the number of the lap
only_where : (r : Rule) (q : Point3D) (t : Bool) (k : ℕ) (new x : Lap) (fs : List Lap) → swap_both t k new (fit_lap r q x) fs ≡ swap_both t k new (fit_lap r q (cond t x [])) fs
unfolding swap_both
only_where r q true k new x fs = refl
only_where r q false k new x fs = refl

module _ (r : Rule) (k : ℕ) (new : Lap) (ls : List Lap) (first : 1 ≤ k) (last : k ≤ length ls) (somes : Somes ls) where
  here : suc (k - 1) ≡ k
  here = omega arith

  -- The fit of a course with lap k replaced is the fitted course with the new lap's fit and, where it lacks its Move, the next lap's new fit.
  pub fits_replaced : fit_laps r origin (swap k new 1 ls)
      ≡ swap_both (next_lacks k ls) k (fit_lap r (start_of k ls) new) (fit_lap r (lap_end (start_of k ls) new) (next_lap k ls)) (fit_laps r origin ls)
  unfolding next_lap next_lacks start_of
  fits_replaced =
      (rw here at (fits_set r new (k - 1) origin ls (omega arith) somes))
      ∙ sym (again-is (lacks (get_or ls k [])) k (fit_lap r (start_from origin ls (k - 1)) new) (fit_lap r (lap_end (start_from origin ls (k - 1)) new) (get_or ls k [])) (fit_laps r origin ls))
      ∙ only_where r (lap_end (start_from origin ls (k - 1)) new) (lacks (get_or ls k [])) k (fit_lap r (start_from origin ls (k - 1)) new) (get_or ls k []) (fit_laps r origin ls)

  -- Its most is at least the replacement's.
  pub mosts_replaced : (+0 ≺ r.tolerance) ≡ true
      → most_lap r.tolerance (start_of k ls) new + most_lap r.tolerance (lap_end (start_of k ls) new) (next_lap k ls) + command_count (swap_both (next_lacks k ls) k [] [] (fit_laps r origin ls))
      ≤ laps_most r.tolerance origin (swap k new 1 ls)
  unfolding next_lap next_lacks start_of
  mosts_replaced pos = rw (again-is (lacks (get_or ls k [])) k [] [] (fit_laps r origin ls)) (rw here at (mosts_set r new pos (k - 1) origin ls (omega arith) somes))
