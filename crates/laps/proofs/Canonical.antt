-- A file of bytes with a right mark and table is what its laps are encoded to. Assumes nothing.
use Prim.Native.Nat.{ℕ, zero, suc, ◌+◌, ◌-◌, ◌*◌, ◌/◌, ◌%◌, ◌≤◌, ◌<◌}
use mathlib.Core.Path.{◌≡◌, refl, sym, ap, ◌∙◌}
use mathlib.Core.Bool.{true, ◌&&◌}
use mathlib.Core.List.{List, [], ◌∷◌, ◌++◌}
use native.Mathlib.Nat.{div-div-eq-div-mul}
use native.Mathlib.Omega.{arith}
use borrow.Author.Tests.{eqb-true}
use lib.ListN.{length, get_or, take, drop, take-append-drop, drop_of_length-le}
use lib.Seq.{drop-cons, drop-drop, take-add}
use lib.Dec.{eqb}
use Rattle.floats.proofs.Order.{and_left, and_right}
use Rattle.file.specs.Bytes.{half_at, u32_bytes}
use Rattle.laps.specs.File.{lap_count, offset_at, count_at, laps_at, laps_of, table, bodies, mark, encode, has_mark, walk, table_ok, Bytes}
use Rattle.laps.proofs.Copy.{body-commands}
use Rattle.laps.proofs.Here.{Here, step, start, cond_false}
use Rattle.laps.proofs.Turns.{length_laps_of}
use Rattle.laps.proofs.Whole.{length_commands}

four : (s : List ℕ) (at : ℕ) → at + 4 ≤ length s → take 4 (drop at s) ≡ get_or s at 0 ∷ get_or s (at + 1) 0 ∷ get_or s (at + 2) 0 ∷ get_or s (at + 3) 0 ∷ []
four s at h =
    let a : at + 1 ≡ suc at = omega arith in
    let b : at + 2 ≡ suc (suc at) = omega arith in
    let c : at + 3 ≡ suc (suc (suc at)) = omega arith in
    rw (a, b, c, drop-cons s at 0 (omega arith), drop-cons s (suc at) 0 (omega arith), drop-cons s (suc (suc at)) 0 (omega arith), drop-cons s (suc (suc (suc at))) 0 (omega arith))

parts : (a b c d : ℕ) → a < 256 → b < 256 → c < 256 → d < 256 → u32_bytes (a + b * 0x100 + c * 0x1_0000 + d * 0x100_0000) ≡ a ∷ b ∷ c ∷ d ∷ []
unfolding u32_bytes
parts a b c d h i j k =
    let n : ℕ = a + b * 0x100 + c * 0x1_0000 + d * 0x100_0000 in
    let e₁ : (a + b * 0x100 + c * 0x1_0000 + d * 0x100_0000) / 256 ≡ b + 256 * c + 65536 * d = omega arith in
    let e₂ : (b + 256 * c + 65536 * d) / 256 ≡ c + 256 * d = omega arith in
    let e₃ : (c + 256 * d) / 256 ≡ d = omega arith in
    let w : n % 256 ≡ a = omega arith in
    let x : n / 256 % 256 ≡ b = rw e₁ (omega arith) in
    let y : n / 65536 % 256 ≡ c = rw (← div-div-eq-div-mul n 256 256, e₁, e₂) (omega arith) in
    let z : n / 16777216 % 256 ≡ d = rw (← div-div-eq-div-mul n 256 65536, e₁, ← div-div-eq-div-mul (b + 256 * c + 65536 * d) 256 256, e₂, e₃) (omega arith) in
    rw (w, x, y, z)

unread : (s : List ℕ) (at : ℕ) → Bytes s → at + 4 ≤ length s → u32_bytes (half_at s at) ≡ take 4 (drop at s)
unfolding half_at
unread s at b h = parts (get_or s at 0) (get_or s (at + 1) 0) (get_or s (at + 2) 0) (get_or s (at + 3) 0) (b at) (b (at + 1)) (b (at + 2)) (b (at + 3)) ∙ sym (four s at h)

offset_unread : (s : List ℕ) (j : ℕ) → Bytes s → 12 + 8 * j ≤ length s → u32_bytes (offset_at s j) ≡ take 4 (drop (8 + 8 * j) s)
unfolding offset_at
offset_unread s j b h = unread s (8 + 8 * j) b (omega arith)

count_unread : (s : List ℕ) (j : ℕ) → Bytes s → 16 + 8 * j ≤ length s → u32_bytes (count_at s j) ≡ take 4 (drop (12 + 8 * j) s)
unfolding count_at
count_unread s j b h = unread s (12 + 8 * j) b (omega arith)

laps_unread : (s : List ℕ) → Bytes s → 8 ≤ length s → u32_bytes (lap_count s) ≡ take 4 (drop 4 s)
unfolding lap_count
laps_unread s b h = unread s 4 b (omega arith)

-- the mark
mark-is : (s : List ℕ) → has_mark s ≡ true → 8 ≤ length s → take 4 s ≡ mark
unfolding has_mark
mark-is s e h =
    let c = and_left (eqb (get_or s 0 0) 0x4c && eqb (get_or s 1 0) 0x41 && eqb (get_or s 2 0) 0x50) _ e in
    let b = and_left (eqb (get_or s 0 0) 0x4c && eqb (get_or s 1 0) 0x41) _ c in
    let a = and_left (eqb (get_or s 0 0) 0x4c) _ b in
    let u = and_right (eqb (get_or s 0 0) 0x4c) _ b in
    let v = and_right (eqb (get_or s 0 0) 0x4c && eqb (get_or s 1 0) 0x41) _ c in
    let w = and_right (eqb (get_or s 0 0) 0x4c && eqb (get_or s 1 0) 0x41 && eqb (get_or s 2 0) 0x50) _ e in
    four s 0 (omega arith) ∙ rw (eqb-true (get_or s 0 0) 0x4c a, eqb-true (get_or s 1 0) 0x41 u, eqb-true (get_or s 2 0) 0x50 v, eqb-true (get_or s 3 0) 0x53 w)

-- of a file whose table is right
pub marked : (s : List ℕ) → 8 ≤ length s → table_ok s ≡ true → take 4 s ≡ mark
unfolding table_ok
marked s h t = mark-is s (cond_false (has_mark s) _ t).0 h

-- the table
table-from : (s : List ℕ) (j at l n : ℕ) → Bytes s → n ≡ l - j → Here s j at l → table at (laps_at s j at n) ≡ take (8 * n) (drop (8 + 8 * j) s)
unfolding table laps_at
table-from s j at l zero b e h = refl
table-from s j at l (suc n) b e h =
    let w = step s j at l (count_at s j) refl h (omega arith) in
    let t : 8 + 8 * l ≤ length s = h.table in
    let x : u32_bytes at ≡ take 4 (drop (8 + 8 * j) s) = ap u32_bytes (sym w.offset) ∙ offset_unread s j b (omega arith) in
    let y : u32_bytes (count_at s j) ≡ take 4 (drop (12 + 8 * j) s) = count_unread s j b (omega arith) in
    let z : 8 + 8 * j + 4 ≡ 12 + 8 * j = omega arith in
    let v : 8 + 8 * j + 8 ≡ 8 + 8 * (j + 1) = omega arith in
    let u : u32_bytes at ++ u32_bytes (count_at s j) ≡ take 8 (drop (8 + 8 * j) s) = rw (x, y, ← z, ← drop-drop 4 (8 + 8 * j) s) (sym (take-add 4 4 (drop (8 + 8 * j) s))) in
    let q : 8 * suc n ≡ 8 + 8 * n = omega arith in
    rw (length_commands s at (count_at s j), u, table-from s (j + 1) (at + 73 * count_at s j) l n b (omega arith) w.then, ← v, ← drop-drop 8 (8 + 8 * j) s, q) (sym (take-add 8 (8 * n) (drop (8 + 8 * j) s)))

-- the bodies
at_end : (s : List ℕ) (j at l : ℕ) → 0 ≡ l - j → Here s j at l → at ≡ length s
unfolding walk
at_end s j at l e h = let p : walk s j at h.total (l - j) ≡ true = h.passes in eqb-true at (length s) (rw (← e) at p)

bodies-from : (s : List ℕ) (j at l n : ℕ) → n ≡ l - j → Here s j at l → bodies (laps_at s j at n) ≡ drop at s
unfolding bodies laps_at
bodies-from s j at l zero e h = let q = at_end s j at l e h in sym (drop_of_length-le s {i = at} (omega (arith, q)))
bodies-from s j at l (suc n) e h =
    let w = step s j at l (count_at s j) refl h (omega arith) in
    rw (body-commands s at (count_at s j), bodies-from s (j + 1) (at + 73 * count_at s j) l n (omega arith) w.then, ← drop-drop (73 * count_at s j) at s) (take-append-drop (73 * count_at s j) (drop at s))

joined : (m u t b s : List ℕ) (n : ℕ) → m ≡ take 4 s → u ≡ take 4 (drop 4 s) → t ≡ take (8 * n) (drop 8 s) → b ≡ drop (8 + 8 * n) s → m ++ u ++ t ++ b ≡ s
joined m u t b s n e f g h = rw (e, f, g, h, ← take-add 4 4 s, ← take-add 8 (8 * n) s) (take-append-drop (8 + 8 * n) s)

pub canonical : (s : List ℕ) → Bytes s → 8 ≤ length s → table_ok s ≡ true → encode (laps_of s) ≡ s
unfolding encode
canonical s b h t =
    let x = marked s h t in
    let y : u32_bytes (lap_count s) ≡ take 4 (drop 4 s) = laps_unread s b h in
    let z : table (8 + 8 * lap_count s) (laps_of s) ≡ take (8 * lap_count s) (drop 8 s) = unfold laps_of in table-from s 0 (8 + 8 * lap_count s) (lap_count s) (lap_count s) b (omega arith) (start s t) in
    let w : bodies (laps_of s) ≡ drop (8 + 8 * lap_count s) s = unfold laps_of in bodies-from s 0 (8 + 8 * lap_count s) (lap_count s) (lap_count s) (omega arith) (start s t) in
    rw (length_laps_of s) (joined mark (u32_bytes (lap_count s)) (table (8 + 8 * lap_count s) (laps_of s)) (bodies (laps_of s)) s (lap_count s) (sym x) y z w)
