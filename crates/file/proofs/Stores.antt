-- Bytes stored one behind the other: numbers, points, commands. Assumes nothing.
use Prim.Native.Nat.{ℕ, suc, ◌+◌, ◌-◌, ◌/◌, ◌%◌, ◌≤◌}
use mathlib.Core.Path.{◌≡◌, refl, sym, ap, ◌∙◌}
use mathlib.Core.List.{List, ◌++◌, append_assoc}
use native.Mathlib.Omega.{arith}
use borrow.Rule.Slice.PartMut.{put_mid}
use lib.ListN.{length, set, take}
use lib.Seq.{sets, drop-drop}
use lib.Ieee.{Float, binary64, to_bits}
use Rattle.std.proofs.lemmas.List.Edits.{sets-eq}
use Rattle.std.specs.Int.{w64, to_le_bytes}
use Rattle.geo.specs.declared.types.Point3D.{Point3D}
use Rattle.geo.specs.declared.types.Command.{Command}
use Rattle.geo.specs.declared.types.Command.TheVariants.{Move, Line, Arc, Bezier}
use Rattle.geo.specs.Lent.{flat, triple, origin, kind_of, numbers_of}
use Rattle.geo.proofs.Stores.{sets_append, thrice}
use Rattle.file.specs.Bytes.{u32_bytes, f64_bytes}
use Rattle.file.specs.Command.{laid, enc}

-- ---- lengths
pub length_u32 : (n : ℕ) → length (u32_bytes n) ≡ 4
unfolding u32_bytes
length_u32 n = refl

pub length_f64 : (x : Float) → length (f64_bytes x) ≡ 8
unfolding f64_bytes u32_bytes
length_f64 x = refl

pub length_point : (p : Point3D) → length (flat f64_bytes (triple p)) ≡ 24
unfolding flat f64_bytes u32_bytes
length_point p = refl

pub length_laid : (k : ℕ) (p q r : Point3D) → length (laid k p q r) ≡ 73
unfolding laid flat f64_bytes u32_bytes
length_laid k p q r = refl

pub length_enc : (c : Command) → length (enc c) ≡ 73
unfolding enc numbers_of flat f64_bytes u32_bytes
length_enc (Move p) = refl
length_enc (Line p) = refl
length_enc (Arc p q r) = refl
length_enc (Bezier p q r) = refl

-- ---- stores
-- a run of n, and another behind it
pub behind : {A : Type 0} (xs ys l l₁ l₂ : List A) (b n : ℕ) → length xs ≡ n → l₁ ≡ sets l b xs → l₂ ≡ sets l₁ (b + n) ys → l₂ ≡ sets l b (xs ++ ys)
behind xs ys l l₁ l₂ b n h e₁ e₂ = e₂ ∙ rw (e₁, ← h) (sym (sets_append xs ys l b))

-- bytes copied to a part of a list
pub put_bytes : (l ys : List ℕ) (b n : ℕ) → length ys ≡ n → b + n ≤ length l → put_mid b (b + n - b) l ys ≡ sets l b ys
put_bytes l ys b n m h =
    let v : b + n - b ≡ n = omega arith in
    rw v (sym (sets-eq ys l b (omega (arith, h, m)) ∙ ap (λ r. take b l ++ ys ++ r) (rw m (sym (drop-drop n b l))) ∙ append_assoc (take b l) _ _))

-- the digits of the four low bytes of n, and of the four above them
pub digit-0 : (n : ℕ) → n % 4294967296 % 256 ≡ n % 256
digit-0 n = omega arith

pub digit-1 : (n : ℕ) → n % 4294967296 / 256 % 256 ≡ n / 256 % 256
digit-1 n = omega arith

pub digit-2 : (n : ℕ) → n % 4294967296 / 65536 % 256 ≡ n / 65536 % 256
digit-2 n = omega arith

pub digit-3 : (n : ℕ) → n % 4294967296 / 16777216 % 256 ≡ n / 16777216 % 256
digit-3 n = omega arith

digit-5 : (n : ℕ) → n / 1099511627776 % 256 ≡ n / 4294967296 / 256 % 256
digit-5 n = omega arith

digit-6 : (n : ℕ) → n / 281474976710656 % 256 ≡ n / 4294967296 / 65536 % 256
digit-6 n = omega arith

digit-7 : (n : ℕ) → n / 72057594037927936 % 256 ≡ n / 4294967296 / 16777216 % 256
digit-7 n = omega arith

pub four : (l : List ℕ) (b n w x y z : ℕ) → w ≡ n % 256 → x ≡ n / 256 % 256 → y ≡ n / 65536 % 256 → z ≡ n / 16777216 % 256
    → set (set (set (set l b w) (b + 1) x) (b + 2) y) (b + 3) z ≡ sets l b (u32_bytes n)
unfolding u32_bytes
four l b n w x y z p q r s =
    let e : b + 1 ≡ suc b = omega arith in
    let f : b + 2 ≡ suc (suc b) = omega arith in
    let g : b + 3 ≡ suc (suc (suc b)) = omega arith in rw (p, q, r, s, e, f, g)

pub word_bytes : (n : ℕ) → to_le_bytes w64 n ≡ u32_bytes n ++ u32_bytes (n / 4294967296)
unfolding u32_bytes
word_bytes n = rw (digit-5 n, digit-6 n, digit-7 n)

pub float_bytes : (x : Float) (n : ℕ) → n ≡ to_bits binary64 x → to_le_bytes w64 n ≡ f64_bytes x
unfolding f64_bytes
float_bytes x n e = word_bytes n ∙ rw e

pub three : (l l₁ l₂ l₃ : List ℕ) (b : ℕ) (p : Point3D) → l₁ ≡ sets l b (f64_bytes p.x) → l₂ ≡ sets l₁ (b + 8) (f64_bytes p.y)
    → l₃ ≡ sets l₂ (b + 16) (f64_bytes p.z) → l₃ ≡ sets l b (flat f64_bytes (triple p))
unfolding flat f64_bytes u32_bytes
three l l₁ l₂ l₃ b p e₁ e₂ e₃ = thrice 8 (f64_bytes p.x) (f64_bytes p.y) (f64_bytes p.z) l l₁ l₂ l₃ b (length_f64 p.x) (length_f64 p.y) e₁ e₂ e₃

-- a kind and three points
pub points : (l l₁ l₂ l₃ : List ℕ) (b k : ℕ) (p q r : Point3D) → l₁ ≡ sets (set l b k) (b + 1) (flat f64_bytes (triple p)) → l₂ ≡ sets l₁ (b + 25) (flat f64_bytes (triple q))
    → l₃ ≡ sets l₂ (b + 49) (flat f64_bytes (triple r)) → l₃ ≡ sets l b (laid k p q r)
unfolding laid
points l l₁ l₂ l₃ b k p q r e₁ e₂ e₃ =
    let e : b + 1 ≡ suc b = omega arith in
    let f : b + 25 ≡ suc b + 24 = omega arith in
    let g : b + 49 ≡ suc b + (24 + 24) = omega arith in
    let h : flat f64_bytes (triple p) ++ flat f64_bytes (triple q) ++ flat f64_bytes (triple r) ≡ flat f64_bytes (triple p ++ triple q ++ triple r) =
    unfold flat in unfold f64_bytes in unfold u32_bytes in refl in
    thrice 24 (flat f64_bytes (triple p)) (flat f64_bytes (triple q)) (flat f64_bytes (triple r)) (set l b k) l₁ l₂ l₃ (suc b) (length_point p) (length_point q) (rw e at e₁) (rw f at e₂) (rw g at e₃)
    ∙ ap (sets (set l b k) (suc b)) h

-- a command, by its case d
pub wrote : (c d : Command) (l l' : List ℕ) (b : ℕ) (bs : List ℕ) → c ≡ d → enc d ≡ bs → l' ≡ sets l b bs → l' ≡ sets l b (enc c)
wrote c d l l' b bs e f h = h ∙ rw (e, f)

pub enc-move : (p : Point3D) → enc (Move p) ≡ laid 0 p origin origin
unfolding enc laid kind_of numbers_of
enc-move p = refl

pub enc-line : (p : Point3D) → enc (Line p) ≡ laid 1 p origin origin
unfolding enc laid kind_of numbers_of
enc-line p = refl

pub enc-arc : (p q r : Point3D) → enc (Arc p q r) ≡ laid 2 p q r
unfolding enc laid kind_of numbers_of
enc-arc p q r = refl

pub enc_bezier : (p q r : Point3D) → enc (Bezier p q r) ≡ laid 3 p q r
unfolding enc laid kind_of numbers_of
enc_bezier p q r = refl
