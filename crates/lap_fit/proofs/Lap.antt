-- The fit of a lap: how much it writes, that it writes something, where it ends, and its most command by command. Assumes nothing.
use Prim.Native.Nat.{ℕ, zero, suc, ◌+◌, ◌-◌, ◌*◌, ◌≤◌, ◌<◌}
use mathlib.Core.Path.{◌≡◌, refl, sym, ap, ◌∙◌}
use mathlib.Core.Bool.{true}
use mathlib.Core.List.{List, [], ◌∷◌, map}
use native.Mathlib.Nat.{zero-add, add-zero, mul-zero, sub-zero}
use native.Mathlib.Omega.{arith}
use lib.ListN.{length, take, drop, get_or, length-map}
use lib.Ieee.{Float}
use Rattle.floats.specs.Ops.{◌≺◌, +0}
use Rattle.geo.specs.declared.types.Point3D.{Point3D}
use Rattle.geo.specs.declared.types.Command.{Command}
use Rattle.geo.specs.Lent.{command_of, end_of}
use Rattle.file.specs.Command.{commands_at, decoded, enc}
use Rattle.pieces.specs.declared.pieces.Rule.{Rule}
use Rattle.chain.specs.Chains.{cap}
use Rattle.course.specs.Walks.{weight_of, weights_from}
use Rattle.chain.specs.Joins.{joined}
use Rattle.course.specs.Course.{fit_on, most_on, end_on, lent_course}
use Rattle.course.proofs.Accepted.{course_few}
use Rattle.course.proofs.Some.{some-fitted}
use Rattle.course.proofs.Most.{most_of_commands}
use Rattle.laps.specs.File.{Lap, AllFull, EachFull}
use Rattle.laps.proofs.Turns.{laps_next, laps_over}
use Rattle.laps.proofs.Whole.{whole_enc}
use Rattle.lap_fit.specs.Fit.{lap_end, fit_lap, fit_laps, most_lap, laps_most, fit_new}

-- a fit writes no more than its most, and something where there is a command
module _ (r : Rule) (pos : (+0 ≺ r.tolerance) ≡ true) (p : Point3D) where
  pub fit-most : (l : Lap) → length (fit_lap r p l) ≤ most_lap r.tolerance p l
  unfolding fit_lap most_lap
  fit-most l = rw (length-map (fit_on r p (map decoded l)) enc) (course_few r pos p (map decoded l))

  pub new_most : (ks : List ℕ) (ns : List Float) → length (fit_new r p ks ns) ≤ most_on r.tolerance p (lent_course ks ns)
  unfolding fit_new
  new_most ks ns = rw (length-map (fit_on r p (lent_course ks ns)) enc) (course_few r pos p (lent_course ks ns))

  pub fit-some : (l : Lap) → 0 < length l → 0 < length (fit_lap r p l)
  unfolding fit_lap
  fit-some l h =
      let d = length-map l decoded in
      let s = some-fitted r pos p (map decoded l) (omega arith) in
      rw (length-map (fit_on r p (map decoded l)) enc) s

-- each command of a fit has 73 bytes
pub whole-fit : (r : Rule) (p : Point3D) (l : Lap) → EachFull (fit_lap r p l)
unfolding fit_lap
whole-fit r p l = whole_enc (fit_on r p (map decoded l))

pub wholes_fit : (r : Rule) (p : Point3D) (ls : List Lap) → AllFull (fit_laps r p ls)
unfolding fit_laps
wholes_fit r p [] = tt
wholes_fit r p (l ∷ ls) = (whole-fit r p l, wholes_fit r (lap_end p l) ls)

pub whole_new : (r : Rule) (p : Point3D) (ks : List ℕ) (ns : List Float) → EachFull (fit_new r p ks ns)
unfolding fit_new
whole_new r p ks ns = whole_enc (fit_on r p (lent_course ks ns))

-- ---- the laps of a file, one by one
pub mosts_step : (tol : Float) (p q : Point3D) (ls : List Lap) (j : ℕ) (l : Lap) → j < length ls → l ≡ get_or ls j [] → q ≡ lap_end p l
    → laps_most tol p (drop j ls) ≡ most_lap tol p l + laps_most tol q (drop (j + 1) ls)
unfolding laps_most
mosts_step tol p q ls j l h e f = rw (laps_next ls j h, f, e)

pub mosts_end : (tol : Float) (p : Point3D) (ls : List Lap) (j : ℕ) → length ls ≤ j → laps_most tol p (drop j ls) ≡ 0
unfolding laps_most
mosts_end tol p ls j h = rw (laps_over ls j h)

-- ---- where a lap ends
pub end_none : (s : List ℕ) (p : Point3D) (at n : ℕ) → n ≡ 0 → p ≡ lap_end p (commands_at s at n)
unfolding lap_end end_on commands_at
end_none s p at n e = rw e

last_end : (s : List ℕ) (p : Point3D) (at n : ℕ) → lap_end p (commands_at s at (suc n)) ≡ end_of (decoded (take 73 (drop (at + 73 * n) s)))
unfolding lap_end end_on commands_at
last_end s p at zero = let z : at + 73 * 0 ≡ at = omega arith in rw z
last_end s p at (suc n) = let z : at + 73 * suc n ≡ at + 73 + 73 * n = omega arith in rw z (last_end s (end_of (decoded (take 73 (drop at s)))) (at + 73) n)

-- with the last command c
pub end_read : (s : List ℕ) (p q : Point3D) (at n : ℕ) (c : Command) → (n ≡ 0 → ⊥) → c ≡ decoded (take 73 (drop (at + 73 * (n - 1)) s)) → q ≡ end_of c
    → q ≡ lap_end p (commands_at s at n)
end_read s p q at zero c h k f = absurd (h refl)
end_read s p q at (suc n) c h k f =
    let y : suc n - 1 ≡ n = omega arith in
    let g : c ≡ decoded (take 73 (drop (at + 73 * n) s)) = rw y at k in
    f ∙ ap end_of g ∙ sym (last_end s p at n)

-- ---- the commands of a lap, one by one
module _ (tol : Float) where
  -- what the k commands from b on count as, behind the position `last`
  abbrev pub weights : List ℕ → Point3D → ℕ → ℕ → ℕ
  weights s last b k = weights_from (joined tol) last (map decoded (commands_at s b k))

  pub weights_all : (s : List ℕ) (p : Point3D) (at n : ℕ) → weights s p at n ≡ most_lap tol p (commands_at s at n)
  unfolding most_lap
  weights_all s p at n = sym (most_of_commands tol p (map decoded (commands_at s at n)))

  pub weights_first : (s : List ℕ) (p : Point3D) (at n : ℕ) → cap (0 + weights s (lap_end p (commands_at s at 0)) (at + 73 * 0) (n - 0)) ≡ cap (most_lap tol p (commands_at s at n))
  weights_first s p at n = rw (sym (end_none s p at 0 refl), zero-add, mul-zero, add-zero, sub-zero) (ap cap (weights_all s p at n))

  once_by : (last : Point3D) (k : ℕ) (p q r : Point3D) → k < 3 → 1 ≡ cap (weight_of (joined tol last (command_of k p q r)))
  unfolding command_of joined weight_of cap
  once_by last zero p q r h = refl
  once_by last (suc zero) p q r h = refl
  once_by last (suc (suc zero)) p q r h = refl
  once_by last (suc (suc (suc k))) p q r h = absurd (omega arith)

  pub weights_step : (s : List ℕ) (p : Point3D) (at n i : ℕ) → i < n
      → weights s (lap_end p (commands_at s at i)) (at + 73 * i) (n - i) ≡ weight_of (joined tol (lap_end p (commands_at s at i)) (decoded (take 73 (drop (at + 73 * i) s)))) + weights s (lap_end p (commands_at s at (i + 1))) (at + 73 * (i + 1)) (n - (i + 1))
  unfolding weights_from commands_at
  weights_step s p at n i h =
      let z : n - i ≡ suc (n - (i + 1)) = omega arith in
      let w : at + 73 * (i + 1) ≡ at + 73 * i + 73 = omega arith in
      let v : i + 1 ≡ suc i = omega arith in
      rw (z, w, v, last_end s p at i)

  -- any command but a Bezier counts once
  pub once : (s c : List ℕ) (last : Point3D) (b : ℕ) → c ≡ take 73 (drop b s) → get_or c 0 0 < 3 → 1 ≡ cap (weight_of (joined tol last (decoded (take 73 (drop b s)))))
  unfolding decoded
  once s c last b e h = rw (← e) (once_by last (get_or c 0 0) _ _ _ h)

  -- the command c of index i, whose bytes are b, behind the point `last`, where the commands before it end
  pub weighed : (s b fs : List ℕ) (p last : Point3D) (at i fa fi : ℕ) (c : Command) (r : ℕ) → (fs ≡ s) × (fa ≡ at) × (fi ≡ i) → last ≡ lap_end p (commands_at fs fa fi)
      → b ≡ take 73 (drop (at + 73 * i) s) → c ≡ decoded b → r ≡ cap (weight_of (joined tol last c))
      → r ≡ cap (weight_of (joined tol (lap_end p (commands_at s at i)) (decoded (take 73 (drop (at + 73 * i) s)))))
  weighed s b fs p last at i fa fi c r f e k d q = let e' : last ≡ lap_end p (commands_at s at i) = rw (f.0, f.1, f.2) at e in rw (← k, ← d, ← e') q

  pub weights_end : (s : List ℕ) (last : Point3D) (b n i : ℕ) → n ≤ i → weights s last b (n - i) ≡ 0
  unfolding weights_from commands_at
  weights_end s last b n i h = let z : n - i ≡ zero = omega arith in rw z
