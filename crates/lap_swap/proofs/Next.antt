-- A lap of a file by its entry of the table: where lap k starts, and the lap behind it that is fitted again. Assumes nothing.
use Prim.Native.Nat.{ℕ, zero, suc, ◌+◌, ◌-◌, ◌≤◌}
use mathlib.Core.Path.{◌≡◌, refl, sym, ap, ◌∙◌, subst}
use mathlib.Core.Bool.{Bool, true, false}
use mathlib.Core.List.{List, [], ◌∷◌}
use native.Mathlib.Omega.{arith}
use borrow.Author.Tests.{eq-eqb, ne_eqb, eqb-true, eqb-false}
use lib.ListN.{length, get_or}
use lib.Dec.{eqb}
use lib.Ieee.{Float}
use Rattle.geo.specs.declared.types.Point3D.{Point3D}
use Rattle.geo.specs.declared.types.Command.{Command}
use Rattle.geo.specs.Lent.{origin}
use Rattle.chain.specs.Chains.{cap}
use Rattle.chain.proofs.Count.{cap-left}
use Rattle.course.specs.Course.{most_on, end_on}
use Rattle.pieces.specs.declared.pieces.Rule.{Rule}
use Rattle.laps.specs.File.{Lap, lap_count, laps_of, body, table_ok, lacks, PutLap}
use Rattle.laps.proofs.Laps.{somes_of}
use Rattle.laps.proofs.Turns.{length_laps_of}
use Rattle.lap_fit.specs.Fit.{lap_end, start_from, start_of, fit_lap, most_lap}
use Rattle.lap_fit.proofs.Starts.{one-back, fit_no_lap}
use Rattle.lap_swap.specs.Swap.{next_lacks, next_lap, most_both}

-- ---- where lap k starts
start_zero : (p : Point3D) (ls : List Lap) → start_from p ls 0 ≡ p
unfolding start_from
start_zero p [] = refl
start_zero p (l ∷ ls) = refl

pub start_first : (k : ℕ) (ls : List Lap) → k ≡ 1 → origin ≡ start_of k ls
unfolding start_of
start_first k ls e = let z : k - 1 ≡ 0 = omega arith in rw z (sym (start_zero origin ls))

pub start-later : (s : List ℕ) → table_ok s ≡ true → (k j : ℕ) → 1 ≤ k → (k ≡ 1 → ⊥) → k ≤ lap_count s → j ≡ k - 2 → (q : Point3D) (l : Lap) → l ≡ get_or (laps_of s) j [] → q ≡ lap_end origin l
    → q ≡ start_of k (laps_of s)
unfolding start_of
start-later s t k j a b c e q l g f =
    let z : k - 1 ≡ suc j = omega (arith, b) in
    let n = length_laps_of s in
    let o = one-back origin origin (laps_of s) j (somes_of s t) (omega (arith, b)) in
    f ∙ sym (ap (start_from origin (laps_of s)) z ∙ o ∙ ap (lap_end origin) (sym g))

-- ---- the lap behind lap k
past_end : (ls : List Lap) (k : ℕ) → length ls ≤ k → get_or ls k [] ≡ []
past_end [] k h = refl
past_end (l ∷ ls) zero h = absurd (omega arith)
past_end (l ∷ ls) (suc k) h = past_end ls k (omega arith)

pub next_not : (ls : List Lap) (k : ℕ) → lacks (get_or ls k []) ≡ false → (false ≡ next_lacks k ls) × ([] ≡ next_lap k ls)
unfolding next_lap next_lacks
next_not ls k e = rw e (refl, refl)

pub next-end : (s : List ℕ) (k : ℕ) → lap_count s ≤ k → lacks (get_or (laps_of s) k []) ≡ false
unfolding lacks
next-end s k e = let n = length_laps_of s in rw (past_end (laps_of s) k (omega arith))

pub next-is : (ls : List Lap) (k : ℕ) (l : Lap) → l ≡ get_or ls k [] → lacks l ≡ true → (true ≡ next_lacks k ls) × (l ≡ next_lap k ls)
unfolding next_lap next_lacks
next-is ls k l w e = rw (← w, e) (refl, refl)

-- ---- the most of both laps, as it is told
cap-both : (a b : ℕ) → cap (cap a + cap b) ≡ cap (a + b)
cap-both a b =
    let u : a + cap b ≡ cap b + a = omega arith in
    let v : b + a ≡ a + b = omega arith in
    cap-left a (cap b) ∙ ap cap u ∙ cap-left b a ∙ ap cap v

pub most-told : (tol : Float) (s : List ℕ) (k : ℕ) (cs : List Command) (p q : Point3D) (l : Lap) (x y r : ℕ) → p ≡ start_of k (laps_of s) → q ≡ end_on p cs → l ≡ next_lap k (laps_of s)
    → x ≡ cap (most_on tol p cs) → y ≡ cap (most_lap tol q l) → r ≡ cap (x + y) → r ≡ cap (most_both tol (laps_of s) k cs)
unfolding most_both
most-told tol s k cs p q l x y r ep eq el ex ey er =
    let e : cap (x + y) ≡ cap (most_on tol p cs + most_lap tol q l) = rw (ex, ey) (cap-both (most_on tol p cs) (most_lap tol q l)) in
    let f : cap (most_on tol p cs + most_lap tol q l) ≡ cap (most_on tol (start_of k (laps_of s)) cs + most_lap tol (end_on (start_of k (laps_of s)) cs) (next_lap k (laps_of s))) = rw (el, eq, ep) in
    er ∙ e ∙ f

-- ---- a lap's number beside the one before it
pub one_before : (j k : ℕ) → 1 ≤ j → eqb (j - 1) k ≡ eqb j (k + 1)
one_before j k h = either (eqb (j - 1) k) refl
  where
    either : (t : Bool) → eqb (j - 1) k ≡ t → eqb (j - 1) k ≡ eqb j (k + 1)
    either true e = let q = eqb-true (j - 1) k e in e ∙ sym (eq-eqb j (k + 1) (omega arith))
    either false e = let q = eqb-false (j - 1) k e in e ∙ sym (ne_eqb j (k + 1) (λ z. q (omega arith)))

-- the fit of no commands, which is not written
pub put-none : (r : Rule) (p : Point3D) (out : List ℕ) (to : ℕ) → PutLap (fit_lap r p []) out out to 0
unfolding body
put-none r p out to = subst (λ (l : Lap). PutLap l out out to 0) (sym (fit_no_lap r p)) (record { count = refl; bytes = refl })
