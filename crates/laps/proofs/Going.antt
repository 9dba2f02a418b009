-- The laps are written one after the other, each body and then its entry of the table. Assumes nothing.
use Prim.Native.Nat.{ℕ, ◌+◌, ◌*◌, ◌≤◌}
use mathlib.Core.Path.{◌≡◌, refl, sym, ap, ◌∙◌}
use mathlib.Core.List.{List, [], ◌∷◌, ◌++◌}
use native.Mathlib.Omega.{arith}
use lib.ListN.{length, drop, length-append}
use lib.Seq.{sets, length-sets}
use Rattle.geo.proofs.Stores.{sets_append, sets_front}
use Rattle.file.specs.Bytes.{u32_bytes}
use Rattle.laps.specs.File.{Lap, body, table, bodies, mark, encode, AllFull, command_count}
use Rattle.laps.proofs.Sets.{sets_past}
use Rattle.laps.proofs.Whole.{length_body, length_table, length_encode}

-- the stores of the laps from entry j on, the first body at `to`
unfoldable pub stores : List ℕ → ℕ → ℕ → List Lap → List ℕ
stores out j to [] = out
stores out j to (l ∷ ls) = stores (sets (sets out to (body l)) (8 + 8 * j) (u32_bytes to ++ u32_bytes (length l))) (j + 1) (to + 73 * length l) ls

-- these are the table and then the bodies
stored : (ls : List Lap) (out : List ℕ) (j to : ℕ) → AllFull ls → 8 + 8 * (j + length ls) ≤ to
    → stores out j to ls ≡ sets (sets out (8 + 8 * j) (table to ls)) to (bodies ls)
unfolding stores table bodies
stored [] out j to w h = refl
stored (l ∷ ls) out j to w h =
    let e : List ℕ = u32_bytes to ++ u32_bytes (length l) in
    let b : ℕ = 8 + 8 * j in
    let to' : ℕ = to + 73 * length l in
    let t : List ℕ = table to' ls in
    let k : 8 + 8 * (j + 1) ≡ b + length e = unfold u32_bytes in omega arith in
    let d : to' ≡ to + length (body l) = let f = length_body l w.0 in omega (arith, f) in
    let z : b + length (e ++ t) ≤ to = let f = length_table to' ls in let g = length-append e t in omega (arith, f, g, k) in
    stored ls (sets (sets out to (body l)) b e) (j + 1) to' w.1 (omega arith)
    ∙ ap (λ (r : List ℕ). sets r to' (bodies ls)) (ap (λ (n : ℕ). sets (sets (sets out to (body l)) b e) n t) k ∙ sym (sets_append e t (sets out to (body l)) b) ∙ sym (sets_past (e ++ t) (body l) out b to z))
    ∙ ap (λ (n : ℕ). sets (sets (sets out b (e ++ t)) to (body l)) n (bodies ls)) d
    ∙ sym (sets_append (body l) (bodies ls) (sets out b (e ++ t)) to)

-- `all` is to be written of l laps, and `ls` is left from entry j on
pub record Going (out₀ out : List ℕ) (l j to : ℕ) (ls all : List Lap) : Type 0 where
  pub same : length out ≡ length out₀
  pub after : 8 + 8 * l ≤ to
  pub room : to + 73 * command_count ls ≤ length out₀
  pub work : stores out j to ls ≡ stores out₀ 0 (8 + 8 * l) all
  pub size : to + 73 * command_count ls ≡ 8 + 8 * l + 73 * command_count all

pub begin : (out : List ℕ) (l : ℕ) (all : List Lap) → 8 + 8 * l + 73 * command_count all ≤ length out → Going out out l 0 (8 + 8 * l) all all
begin out l all h = record { same = refl; after = omega arith; room = h; work = refl; size = refl }

pub turn : (out₀ out out₁ out₂ : List ℕ) (l j to n : ℕ) (x : Lap) (ls all : List Lap) → Going out₀ out l j to (x ∷ ls) all
    → n ≡ length x → out₁ ≡ sets out to (body x) → out₂ ≡ sets out₁ (8 + 8 * j) (u32_bytes to ++ u32_bytes n) → Going out₀ out₂ l (j + 1) (to + 73 * n) ls all
unfolding stores command_count
turn out₀ out out₁ out₂ l j to n x ls all g e a b =
    rw (b, a, e)
    (record {
      same = simp length-sets g.same;
      after = omega arith;
      room = omega arith;
      work = g.work;
      size = omega arith;
    })

-- a head, then the table and the bodies
whole : (out : List ℕ) (all : List Lap) → AllFull all → stores (sets out 0 (mark ++ u32_bytes (length all))) 0 (8 + 8 * length all) all ≡ sets out 0 (encode all)
unfolding encode u32_bytes
whole out all w =
    let t : List ℕ = table (8 + 8 * length all) all in
    let q : 8 + 8 * length all ≡ 0 + length (mark ++ u32_bytes (length all) ++ t) = let f = length_table (8 + 8 * length all) all in omega (arith, f) in
    stored all (sets out 0 (mark ++ u32_bytes (length all))) 0 (8 + 8 * length all) w (omega arith)
    ∙ ap (λ (n : ℕ). sets (sets out 0 (mark ++ u32_bytes (length all) ++ t)) n (bodies all)) q
    ∙ sym (sets_append (mark ++ u32_bytes (length all) ++ t) (bodies all) out 0)

-- all is written, behind a head
pub done : (out₀ out out' : List ℕ) (l j to : ℕ) (all : List Lap) → Going out out' l j to [] all → l ≡ length all → AllFull all → out ≡ sets out₀ 0 (mark ++ u32_bytes l)
    → (to ≡ length (encode all)) × (out' ≡ encode all ++ drop (length (encode all)) out₀)
unfolding stores command_count
done out₀ out out' l j to all g e w h =
    let f = length_encode all w in
    let z : to ≡ length (encode all) = omega (arith, f, e) in
    let m : length out ≡ length out₀ = ap length h ∙ length-sets out₀ 0 (mark ++ u32_bytes l) in
    let d : out ≡ sets out₀ 0 (mark ++ u32_bytes (length all)) = rw e at h in
    let k : out' ≡ stores out 0 (8 + 8 * length all) all = rw e at g.work in
    (z, k ∙ ap (λ (r : List ℕ). stores r 0 (8 + 8 * length all) all) d ∙ whole out₀ all w ∙ sets_front (encode all) out₀ (omega arith))
