-- The turns of a loop that writes the laps of a file. Assumes nothing.
use Prim.Native.Nat.{ℕ, zero, suc, ◌+◌, ◌-◌, ◌*◌, ◌≤◌, ◌<◌}
use mathlib.Core.Path.{◌≡◌, refl, ap}
use mathlib.Core.List.{List, [], ◌∷◌}
use native.Mathlib.Omega.{arith}
use lib.ListN.{length, get_or, drop}
use lib.Seq.{drop-cons}
use Rattle.std.proofs.lemmas.List.{drop_all}
use Rattle.file.specs.Command.{commands_at}
use Rattle.laps.specs.File.{Lap, lap_count, count_at, laps_at, laps_of, command_count}
use Rattle.laps.proofs.Going.{Going}

pub laps_cons : (s : List ℕ) (j at l n : ℕ) → j < l → n ≡ count_at s j → laps_at s j at (l - j) ≡ commands_at s at n ∷ laps_at s (j + 1) (at + 73 * n) (l - (j + 1))
unfolding laps_at
laps_cons s j at l n h e = let z : l - j ≡ suc (l - (j + 1)) = omega arith in rw (z, e)

pub laps_nil : (s : List ℕ) (j at l : ℕ) → l ≤ j → laps_at s j at (l - j) ≡ []
unfolding laps_at
laps_nil s j at l h = let z : l - j ≡ zero = omega arith in rw z

length_laps : (s : List ℕ) (j at n : ℕ) → length (laps_at s j at n) ≡ n
unfolding laps_at
length_laps s j at zero = refl
length_laps s j at (suc n) = ap suc (length_laps s (j + 1) (at + 73 * count_at s j) n)

pub length_laps_of : (s : List ℕ) → length (laps_of s) ≡ lap_count s
unfolding laps_of
length_laps_of s = length_laps s 0 (8 + 8 * lap_count s) (lap_count s)

-- the laps of a list from index j on
pub laps_next : (ls : List Lap) (j : ℕ) → j < length ls → drop j ls ≡ get_or ls j [] ∷ drop (j + 1) ls
laps_next ls j h = let z : j + 1 ≡ suc j = omega arith in rw z (drop-cons ls j [] h)

pub laps_over : (ls : List Lap) (j : ℕ) → length ls ≤ j → drop j ls ≡ []
laps_over ls j h = drop_all j ls h

pub fits_next : (out₀ out : List ℕ) (l j to : ℕ) (x : Lap) (ls all : List Lap) → Going out₀ out l j to (x ∷ ls) all → to + 73 * length x ≤ length out
unfolding command_count
fits_next out₀ out l j to x ls all g = omega arith

-- where a lap of n commands ends, of at most 800 in all
pub ends_by : (out₀ out : List ℕ) (l j to n : ℕ) (x : Lap) (ls all : List Lap) → Going out₀ out l j to (x ∷ ls) all → n ≡ length x → command_count all ≤ 800 → to + 73 * n ≤ 8 + 8 * l + 58400
unfolding command_count
ends_by out₀ out l j to n x ls all g e h = omega arith
