-- Laws of a list of laps with one replaced, by its index, or with two. Assumes nothing.
use Prim.Native.Nat.{ℕ, zero, suc, ◌+◌, ◌-◌, ◌≤◌, ◌<◌}
use mathlib.Core.Path.{◌≡◌, refl, ap, ◌∙◌}
use mathlib.Core.Bool.{Bool, true, false}
use mathlib.Core.List.{List, [], ◌∷◌}
use native.Mathlib.Omega.{arith}
use borrow.Author.Tests.{lt-leb}
use lib.ListN.{length, set, length-set}
use lib.Dec.{leb}
use Rattle.laps.specs.File.{Lap, lap_tested, laps_ok, EachFull, AllFull, command_count}
use Rattle.laps.proofs.Here.{cond_false}
use Rattle.laps.proofs.ReadBack.{Somes}
use Rattle.lap_swap.specs.Swap.{swap, swap_both}

-- laps whose commands are whole
pub wholes_set : (ls : List Lap) (i : ℕ) (new : Lap) → EachFull new → AllFull ls → AllFull (set ls i new)
wholes_set [] i new a w = tt
wholes_set (l ∷ ls) zero new a w = (a, w.1)
wholes_set (l ∷ ls) (suc i) new a w = (w.0, wholes_set ls i new a w.1)

-- ---- what holds of lap k replaced, and of lap k + 1 then replaced too
pub wholes_both : (both : Bool) (k : ℕ) (new next : Lap) (ls : List Lap) → EachFull new → EachFull next → AllFull ls → AllFull (swap_both both k new next ls)
unfolding swap_both
wholes_both true k new next ls a b w = wholes_set (swap k new 1 ls) (k + 1 - 1) next b (wholes_set ls (k - 1) new a w)
wholes_both false k new next ls a b w = wholes_set ls (k - 1) new a w

pub length_both : (both : Bool) (k : ℕ) (new next : Lap) (ls : List Lap) → length (swap_both both k new next ls) ≡ length ls
unfolding swap_both
length_both true k new next ls = length-set (swap k new 1 ls) (k + 1 - 1) next ∙ length-set ls (k - 1) new
length_both false k new next ls = length-set ls (k - 1) new

-- ---- rows 4 and 5 of the new lap: only the first lap must have its Move
abbrev asked : ℕ → Bool → Bool
asked zero must = must
asked (suc i) must = false

new_ok_from : (test : Bool → List ℕ → Bool) (must : Bool) (ls : List Lap) (i : ℕ) (new : Lap) → i < length ls → laps_ok test must (set ls i new) ≡ true
    → lap_tested test (asked i must) new ≡ true
unfolding laps_ok
new_ok_from test must [] i new h e = absurd (omega arith)
new_ok_from test must (l ∷ ls) zero new h e = (cond_false (lap_tested test must new) _ e).0
new_ok_from test must (l ∷ ls) (suc zero) new h e = new_ok_from test false ls zero new (omega arith) (cond_false (lap_tested test must l) _ e).1
new_ok_from test must (l ∷ ls) (suc (suc i)) new h e = new_ok_from test false ls (suc i) new (omega arith) (cond_false (lap_tested test must l) _ e).1

pub new_ok : (test : Bool → List ℕ → Bool) (ls : List Lap) (k : ℕ) (new : Lap) → 1 ≤ k → k - 1 < length ls → laps_ok test true (swap k new 1 ls) ≡ true → lap_tested test (leb k 1) new ≡ true
new_ok test ls zero new a h e = absurd (omega arith)
new_ok test ls (suc zero) new a h e = new_ok_from test true ls zero new h e
new_ok test ls (suc (suc i)) new a h e =
    let z : suc (suc i) - 1 ≡ suc i = omega arith in
    ap (λ (t : Bool). lap_tested test t new) (lt-leb (suc (suc i)) 1 (omega arith)) ∙ new_ok_from test true ls (suc i) new (omega arith) (rw z at e)

-- ---- no lap is empty
pub new_some : (ls : List Lap) (i : ℕ) (new : Lap) → i < length ls → Somes (set ls i new) → 0 < length new
new_some [] i new h e = absurd (omega arith)
new_some (l ∷ ls) zero new h e = e.0
new_some (l ∷ ls) (suc i) new h e = new_some ls i new (omega arith) e.1

-- ---- counts: the new laps' commands, and those of the laps with them emptied
total_set : (ls : List Lap) (i : ℕ) (new : Lap) → command_count (set ls i new) ≤ length new + command_count (set ls i [])
unfolding command_count
total_set [] i new = omega arith
total_set (l ∷ ls) zero new = omega arith
total_set (l ∷ ls) (suc i) new = let h = total_set ls i new in omega (arith, h)

-- a lap replaced behind another: in either order
set_later : (ls : List Lap) (i : ℕ) (x y : Lap) → set (set ls i x) (suc i) y ≡ set (set ls (suc i) y) i x
set_later [] i x y = refl
set_later (l ∷ ls) zero x y = refl
set_later (l ∷ ls) (suc i) x y = ap (λ (ms : List Lap). l ∷ ms) (set_later ls i x y)

pub total_both : (both : Bool) (k : ℕ) (new next : Lap) (ls : List Lap) → 1 ≤ k
    → command_count (swap_both both k new next ls) ≤ length new + length next + command_count (swap_both both k [] [] ls)
unfolding swap_both
total_both true k new next ls h =
    let z : k + 1 - 1 ≡ suc (k - 1) = omega arith in
    let a = total_set (set ls (k - 1) new) (suc (k - 1)) next in
    let b = ap command_count (set_later ls (k - 1) new []) in
    let c = total_set (set ls (suc (k - 1)) []) (k - 1) new in
    let d = ap command_count (set_later ls (k - 1) [] []) in
    rw z (omega (arith, a, b, c, d))
total_both false k new next ls h = let a = total_set ls (k - 1) new in omega (arith, a)

pub new_in_total : (ls : List Lap) (i : ℕ) (new : Lap) → i < length ls → length new ≤ command_count (set ls i new)
unfolding command_count
new_in_total [] i new h = absurd (omega arith)
new_in_total (l ∷ ls) zero new h = omega arith
new_in_total (l ∷ ls) (suc i) new h = let r = new_in_total ls i new (omega arith) in omega (arith, r)
