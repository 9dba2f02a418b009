-- Laps whose commands have 73 bytes each, and the lengths of what is written of them. Assumes nothing.
use Prim.Native.Nat.{ℕ, zero, suc, ◌+◌, ◌*◌, ◌≤◌}
use mathlib.Core.Path.{◌≡◌, refl, ap, ◌∙◌}
use mathlib.Core.List.{List, [], ◌∷◌, map}
use native.Mathlib.Omega.{arith}
use lib.ListN.{length, length-append, length-take, length-drop, get_or}
use lib.Ieee.{Float}
use Rattle.geo.specs.declared.types.Command.{Command}
use Rattle.geo.specs.Walk.{list_from}
use Rattle.geo.specs.Lent.{point_at}
use Rattle.file.specs.Bytes.{u32_bytes}
use Rattle.file.specs.Command.{commands_at, enc, lent_bytes, lent_lap}
use Rattle.file.proofs.Stores.{length_enc, length_laid}
use Rattle.laps.specs.File.{Lap, body, table, bodies, encode, EachFull, AllFull, command_count}

pub whole_enc : (cs : List Command) → EachFull (map enc cs)
whole_enc [] = tt
whole_enc (c ∷ cs) = (length_enc c, whole_enc cs)

whole-laid : (ks : List ℕ) (ns : List Float) (n i : ℕ) → EachFull (list_from (lent_bytes ks ns) n i)
unfolding list_from lent_bytes
whole-laid ks ns zero i = tt
whole-laid ks ns (suc n) i = (length_laid (get_or ks i 0) (point_at ns (3 * i)) (point_at ns (3 * i + 1)) (point_at ns (3 * i + 2)), whole-laid ks ns n (i + 1))

pub whole-lent : (ks : List ℕ) (ns : List Float) → EachFull (lent_lap ks ns)
unfolding lent_lap
whole-lent ks ns = whole-laid ks ns (length ks) 0

pub whole-commands : (s : List ℕ) (at n : ℕ) → at + 73 * n ≤ length s → EachFull (commands_at s at n)
unfolding commands_at
whole-commands s at zero h = tt
whole-commands s at (suc n) h = (simp (length-take, length-drop) (omega arith), whole-commands s (at + 73) n (omega arith))

pub length_commands : (s : List ℕ) (at n : ℕ) → length (commands_at s at n) ≡ n
unfolding commands_at
length_commands s at zero = refl
length_commands s at (suc n) = ap suc (length_commands s (at + 73) n)

pub length_body : (l : Lap) → EachFull l → length (body l) ≡ 73 * length l
unfolding body
length_body [] w = refl
length_body (c ∷ l) w = let h = length_body l w.1 in let e = w.0 in length-append c (body l) ∙ omega (arith, h, e)

pub length_table : (at : ℕ) (ls : List Lap) → length (table at ls) ≡ 8 * length ls
unfolding table u32_bytes
length_table at [] = refl
length_table at (l ∷ ls) = let h = length_table (at + 73 * length l) ls in omega (arith, h)

pub length_bodies : (ls : List Lap) → AllFull ls → length (bodies ls) ≡ 73 * command_count ls
unfolding bodies command_count
length_bodies [] w = refl
length_bodies (l ∷ ls) w = let h = length_bodies ls w.1 in let e = length_body l w.0 in length-append (body l) (bodies ls) ∙ omega (arith, h, e)

pub length_encode : (ls : List Lap) → AllFull ls → length (encode ls) ≡ 8 + 8 * length ls + 73 * command_count ls
unfolding encode u32_bytes
length_encode ls w = simp length-append (let h = length_bodies ls w in let e = length_table (8 + 8 * length ls) ls in omega (arith, h, e))
