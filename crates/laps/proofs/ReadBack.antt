-- A file that was encoded is read back as its laps. Assumes nothing.
use Prim.Native.Nat.{ℕ, ◌+◌, ◌*◌, ◌%◌, ◌≤◌, ◌<◌}
use mathlib.Core.Path.{◌≡◌, refl, sym, ap, ◌∙◌}
use mathlib.Core.Bool.{true}
use mathlib.Core.List.{List, [], ◌∷◌, ◌++◌, append_assoc, append-nil}
use native.Mathlib.Omega.{arith}
use borrow.Author.Tests.{eq-eqb, ne_eqb, le-ltb}
use lib.ListN.{length, take, drop}
use lib.Seq.{drop-drop, take_at, drop_at}
use Rattle.file.specs.Bytes.{half_at, u32_bytes}
use Rattle.file.specs.Command.{commands_at}
use Rattle.file.proofs.RoundTrip.{half_back}
use Rattle.laps.specs.File.{Lap, lap_count, offset_at, count_at, laps_at, laps_of, body, table, bodies, encode, has_mark, walk, table_ok, EachFull, AllFull, command_count}
use Rattle.laps.proofs.Whole.{length_body, length_table, length_encode}

read_u32 : (s : List ℕ) (at n : ℕ) (r : List ℕ) → drop at s ≡ u32_bytes n ++ r → n < 4294967296 → half_at s at ≡ n
read_u32 s at n r e h = let q : n % 4294967296 ≡ n = omega arith in half_back s at n r e ∙ q

pub commands-back : (l : Lap) (s : List ℕ) (at : ℕ) (r : List ℕ) → drop at s ≡ body l ++ r → EachFull l → commands_at s at (length l) ≡ l
unfolding commands_at body
commands-back [] s at r e w = refl
commands-back (c ∷ l) s at r e w =
    let f : drop at s ≡ c ++ (body l ++ r) = e ∙ append_assoc c (body l) r in
    let h : take 73 (drop at s) ≡ c = ap (take 73) f ∙ take_at c (body l ++ r) 73 w.0 in
    let d : drop (at + 73) s ≡ body l ++ r = sym (drop-drop 73 at s) ∙ ap (drop 73) f ∙ drop_at c (body l ++ r) 73 w.0 in
    rw (h, commands-back l s (at + 73) r d w.1)

-- entry j of the table and the body at `at` are those of l, and behind them are those of ls
record Entry (s : List ℕ) (j at : ℕ) (l : Lap) (ls : List Lap) (q r : List ℕ) : Type 0 where
  offset : at < 4294967296 → offset_at s j ≡ at
  count : count_at s j ≡ length l
  cmds : commands_at s at (length l) ≡ l
  entries : drop (8 + 8 * (j + 1)) s ≡ table (at + 73 * length l) ls ++ q
  rest : drop (at + 73 * length l) s ≡ bodies ls ++ r

entry : (s : List ℕ) (j at : ℕ) (l : Lap) (ls : List Lap) (q r : List ℕ) → drop (8 + 8 * j) s ≡ table at (l ∷ ls) ++ q → drop at s ≡ bodies (l ∷ ls) ++ r
    → EachFull l → length l < 4294967296 → Entry s j at l ls q r
unfolding table bodies u32_bytes offset_at count_at
entry s j at l ls q r e f w h =
    let t : List ℕ = table (at + 73 * length l) ls in
    let a : 8 + 8 * j + 4 ≡ 12 + 8 * j = omega arith in
    let b : 8 + 8 * j + 8 ≡ 8 + 8 * (j + 1) = omega arith in
    let d : drop (12 + 8 * j) s ≡ u32_bytes (length l) ++ (t ++ q) = ap (λ (k : ℕ). drop k s) (sym a) ∙ sym (drop-drop 4 (8 + 8 * j) s) ∙ ap (drop 4) e in
    let m : length (body l) ≡ 73 * length l = length_body l w in
    let g : drop at s ≡ body l ++ (bodies ls ++ r) = f ∙ append_assoc (body l) (bodies ls) r in
    record {
      offset = λ k. read_u32 s (8 + 8 * j) at (u32_bytes (length l) ++ (t ++ q)) e k;
      count = read_u32 s (12 + 8 * j) (length l) (t ++ q) d h;
      cmds = commands-back l s at (bodies ls ++ r) g w;
      entries = ap (λ (k : ℕ). drop k s) (sym b) ∙ sym (drop-drop 8 (8 + 8 * j) s) ∙ ap (drop 8) e;
      rest = sym (drop-drop (73 * length l) at s) ∙ ap (drop (73 * length l)) g ∙ drop_at (body l) (bodies ls ++ r) (73 * length l) m;
    }

laps-from : (ls : List Lap) (s : List ℕ) (j at : ℕ) (q r : List ℕ) → drop (8 + 8 * j) s ≡ table at ls ++ q → drop at s ≡ bodies ls ++ r → AllFull ls → command_count ls < 4294967296
    → laps_at s j at (length ls) ≡ ls
unfolding laps_at command_count
laps-from [] s j at q r e f w h = refl
laps-from (l ∷ ls) s j at q r e f w h =
    let x = entry s j at l ls q r e f w.0 (omega arith) in
    rw (x.count, x.cmds, laps-from ls s (j + 1) (at + 73 * length l) q r x.entries x.rest w.1 (omega arith))

abbrev pub Somes : List Lap → Type 0
Somes [] = Unit
Somes (l ∷ ls) = (0 < length l) × Somes ls

walk_from : (ls : List Lap) (s : List ℕ) (j at t : ℕ) (q r : List ℕ) → drop (8 + 8 * j) s ≡ table at ls ++ q → drop at s ≡ bodies ls ++ r → AllFull ls → Somes ls
    → t + command_count ls ≤ 800 → at + 73 * command_count ls ≡ length s → at + 73 * command_count ls < 4294967296 → walk s j at t (length ls) ≡ true
unfolding walk command_count
walk_from [] s j at t q r e f w m h k i = eq-eqb at (length s) (omega arith)
walk_from (l ∷ ls) s j at t q r e f w m h k i =
    let x = entry s j at l ls q r e f w.0 (omega arith) in
    let n : 0 < length l = m.0 in
    rw (x.offset (omega arith), eq-eqb at at refl, x.count, ne_eqb (length l) 0 (λ z. omega arith), le-ltb 800 (t + length l) (omega arith))
    (walk_from ls s (j + 1) (at + 73 * length l) (t + length l) q r x.entries x.rest w.1 m.1 (omega arith) (omega arith) (omega arith))

-- ---- the whole file
module _ (ls : List Lap) (w : AllFull ls) (few : length ls < 4294967296) where
  count-encode : half_at (encode ls) 4 ≡ length ls
  unfolding encode u32_bytes
  count-encode = read_u32 (encode ls) 4 (length ls) (table (8 + 8 * length ls) ls ++ bodies ls) refl few

  pub lap-count-encode : lap_count (encode ls) ≡ length ls
  unfolding lap_count
  lap-count-encode = count-encode

  entries_encode : drop 8 (encode ls) ≡ table (8 + 8 * length ls) ls ++ bodies ls
  unfolding encode u32_bytes
  entries_encode = refl

  bodies-encode : drop (8 + 8 * length ls) (encode ls) ≡ bodies ls ++ []
  bodies-encode =
      sym (drop-drop (8 * length ls) 8 (encode ls)) ∙ ap (drop (8 * length ls)) entries_encode
      ∙ drop_at (table (8 + 8 * length ls) ls) (bodies ls) (8 * length ls) (length_table (8 + 8 * length ls) ls) ∙ sym (append-nil (bodies ls))

  pub laps-encode : command_count ls < 4294967296 → laps_of (encode ls) ≡ ls
  unfolding laps_of
  laps-encode h = rw lap-count-encode (laps-from ls (encode ls) 0 (8 + 8 * length ls) (bodies ls) [] entries_encode bodies-encode w h)

  mark-encode : has_mark (encode ls) ≡ true
  unfolding has_mark encode
  mark-encode = refl

  pub table-encode : length ls ≤ 64 → command_count ls ≤ 800 → Somes ls → table_ok (encode ls) ≡ true
  unfolding table_ok
  table-encode h k m =
      let n = length_encode ls w in
      rw (mark-encode, lap-count-encode, le-ltb (length (encode ls)) (8 + 8 * length ls) (omega arith))
      (walk_from ls (encode ls) 0 (8 + 8 * length ls) 0 (bodies ls) [] entries_encode bodies-encode w m (omega arith) (omega arith) (omega arith))
