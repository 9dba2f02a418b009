-- A lap read into arrays, and a fit written from arrays. Assumes nothing.
use Prim.Native.Nat.{ℕ, ◌*◌, ◌≤◌}
use mathlib.Core.Path.{◌≡◌, refl, sym, ap, ◌∙◌, subst}
use mathlib.Core.Bool.{true}
use mathlib.Core.List.{List, [], ◌∷◌, ◌++◌, map}
use native.Mathlib.Omega.{arith}
use lib.ListN.{length, take, length-map, length-take}
use lib.Seq.{sets, length-sets}
use lib.Ieee.{Float}
use Rattle.floats.specs.Ops.{◌≺◌, +0}
use Rattle.geo.specs.declared.types.Point3D.{Point3D}
use Rattle.geo.specs.declared.types.Command.{Command}
use Rattle.geo.specs.Lent.{flat, kind_of, numbers_of, commands_from}
use Rattle.file.specs.Command.{commands_at, decoded, enc}
use Rattle.file.proofs.Lent.{back_part}
use Rattle.pieces.specs.Written.{FitPlaced}
use Rattle.pieces.specs.declared.pieces.Rule.{Rule}
use Rattle.course.specs.Course.{fit_on, most_on, lent_course}
use Rattle.course.proofs.Accepted.{course_few}
use Rattle.laps.specs.File.{Lap, body, PutLap}
use Rattle.laps.proofs.Whole.{length_commands}
use Rattle.lap_fit.specs.Fit.{fit_lap, most_lap, fit_new}

-- ---- the n commands from `at` on, read to the front of two arrays
module _ (s : List ℕ) (at n : ℕ) (ks₀ ks : List ℕ) (ns₀ ns : List Float) (h : n ≤ length ks₀) (k : 9 * n ≤ length ns₀)
    (e : ks ≡ sets ks₀ 0 (map kind_of (map decoded (commands_at s at n)))) (f : ns ≡ sets ns₀ 0 (flat numbers_of (map decoded (commands_at s at n)))) where
  pub long_kinds : length (take n ks) ≡ n
  long_kinds = let l = ap length e ∙ length-sets ks₀ 0 (map kind_of (map decoded (commands_at s at n))) in simp length-take (omega arith)

  pub long_numbers : length (take (9 * n) ns) ≡ 9 * n
  long_numbers = let l = ap length f ∙ length-sets ns₀ 0 (flat numbers_of (map decoded (commands_at s at n))) in simp length-take (omega arith)

  pub read_back : lent_course (take n ks) (take (9 * n) ns) ≡ map decoded (commands_at s at n)
  read_back = back_part (map decoded (commands_at s at n)) n ks₀ ks ns₀ ns (sym (length-map (commands_at s at n) decoded ∙ length_commands s at n)) h k e f

  module _ (r : Rule) (p : Point3D) where
    pub most-read : most_on r.tolerance p (lent_course (take n ks) (take (9 * n) ns)) ≡ most_lap r.tolerance p (commands_at s at n)
    unfolding most_lap
    most-read = ap (most_on r.tolerance p) read_back

    pub fit-read : fit_new r p (take n ks) (take (9 * n) ns) ≡ fit_lap r p (commands_at s at n)
    unfolding fit_new fit_lap
    fit-read = ap (λ (cs : List Command). map enc (fit_on r p cs)) read_back

-- ---- a fit in two arrays, written as a lap
body-enc : (cs : List Command) → body (map enc cs) ≡ flat enc cs
unfolding body flat
body-enc [] = refl
body-enc (c ∷ cs) = ap (λ (l : List ℕ). enc c ++ l) (body-enc cs)

module _ (r : Rule) (pos : (+0 ≺ r.tolerance) ≡ true) (start : Point3D) (ks : List ℕ) (ns : List Float) (n : ℕ) (fk₀ fk : List ℕ) (fn₀ fn : List Float)
    (p : FitPlaced (fit_on r start (lent_course ks ns)) 0 n fk₀ fk fn₀ fn) (h : most_on r.tolerance start (lent_course ks ns) ≤ length fk₀) (k : 9 * most_on r.tolerance start (lent_course ks ns) ≤ length fn₀) where
  pub counted : n ≤ most_on r.tolerance start (lent_course ks ns)
  counted = let a = course_few r pos start (lent_course ks ns) in let b = p.count in omega arith

  pub counted_new : length (fit_new r start ks ns) ≡ n
  unfolding fit_new
  counted_new = length-map (fit_on r start (lent_course ks ns)) enc ∙ sym p.count

  pub put_fit : (out out' : List ℕ) (to : ℕ) → out' ≡ sets out to (flat enc (commands_from (take n fk) (take (9 * n) fn) (length (take n fk)) 0)) → PutLap (fit_new r start ks ns) out out' to n
  unfolding fit_new
  put_fit out out' to o =
      let cs : List Command = fit_on r start (lent_course ks ns) in
      let a = counted in
      let c : commands_from (take n fk) (take (9 * n) fn) (length (take n fk)) 0 ≡ cs = back_part cs n fk₀ fk fn₀ fn p.count (omega arith) (omega arith) p.kinds p.numbers in
      record { count = sym counted_new; bytes = o ∙ ap (sets out to) (ap (flat enc) c ∙ sym (body-enc cs)) }

-- the same lap by another name
pub put_same : (l l' : Lap) (out out' : List ℕ) (to n : ℕ) → l ≡ l' → PutLap l out out' to n → PutLap l' out out' to n
put_same l l' out out' to n e p = subst (λ (x : Lap). PutLap x out out' to n) e p
