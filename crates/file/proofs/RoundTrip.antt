-- Decoding what was encoded gives it back, for all numbers that an f64 can hold. Assumes nothing.
use Prim.Native.Nat.{ℕ, ◌+◌, ◌*◌, ◌/◌, ◌%◌, ◌<◌}
use mathlib.Core.Path.{◌≡◌, refl, sym, ap, ◌∙◌}
use mathlib.Core.List.{List, ◌++◌}
use native.Mathlib.Nat.{add-zero, div-div-eq-div-mul}
use native.Mathlib.Omega.{arith}
use lib.ListN.{get_or, drop}
use lib.Seq.{get_or-drop, drop-drop}
use lib.Dec.{T}
use lib.Ieee.{Float, binary64, of_bits, to_bits, fits}
use lib.Ieee.Bits.{of_bits-to_bits, to_bits-lt, of_bits-fits}
use Rattle.geo.specs.declared.types.Point3D.{Point3D}
use Rattle.geo.specs.declared.types.Command.{Command}
use Rattle.geo.specs.declared.types.Command.TheVariants.{Move, Line, Arc, Bezier}
use Rattle.geo.specs.Lent.{flat, origin, command_of}
use Rattle.geo.specs.Domain.{formed}
use Rattle.file.specs.Bytes.{half_at, word_at, u32_bytes, f64_bytes, number_at}
use Rattle.file.specs.Command.{point_from, decoded, well_formed, laid, enc, HeldPoint}
use Rattle.file.proofs.Stores.{enc-move, enc-line, enc-arc, enc_bezier}

-- ---- four bytes
digits : (n : ℕ) → n % 256 + n / 256 % 256 * 0x100 + n / 65536 % 256 * 0x1_0000 + n / 16777216 % 256 * 0x100_0000 ≡ n % 4294967296
digits n = rw (← div-div-eq-div-mul n 256 256, ← div-div-eq-div-mul n 256 65536, ← div-div-eq-div-mul (n / 256) 256 256) (omega arith)

pub half_back : (s : List ℕ) (at n : ℕ) (r : List ℕ) → drop at s ≡ u32_bytes n ++ r → half_at s at ≡ n % 4294967296
unfolding half_at u32_bytes
half_back s at n r e =
    let g : (i : ℕ) → get_or s (at + i) 0 ≡ get_or (u32_bytes n ++ r) i 0 = λ i. sym (get_or-drop at s i 0) ∙ ap (λ (l : List ℕ). get_or l i 0) e in
    let z : get_or s at 0 ≡ n % 256 = ap (λ (k : ℕ). get_or s k 0) (sym (add-zero at)) ∙ g 0 in
    rw (z, g 1, g 2, g 3) (digits n)

-- ---- a number
halves : (n a b : ℕ) → n < 18446744073709551616 → a ≡ n % 4294967296 → b ≡ n / 4294967296 % 4294967296 → a + b * 0x1_0000_0000 ≡ n
halves n a b h e f = omega arith

low_half : (x : Float) (r : List ℕ) → f64_bytes x ++ r ≡ u32_bytes (to_bits binary64 x) ++ (u32_bytes (to_bits binary64 x / 4294967296) ++ r)
unfolding f64_bytes u32_bytes
low_half x r = refl

high_half : (x : Float) (r : List ℕ) → drop 4 (f64_bytes x ++ r) ≡ u32_bytes (to_bits binary64 x / 4294967296) ++ r
unfolding f64_bytes u32_bytes
high_half x r = refl

pub number-back : (s : List ℕ) (at : ℕ) (x : Float) (r : List ℕ) → drop at s ≡ f64_bytes x ++ r → T (fits binary64 x) → number_at s at ≡ x
unfolding number_at word_at
number-back s at x r e h =
    let n : ℕ = to_bits binary64 x in
    let a : half_at s at ≡ n % 4294967296 = half_back s at n (u32_bytes (n / 4294967296) ++ r) (e ∙ low_half x r) in
    let d : drop (at + 4) s ≡ u32_bytes (n / 4294967296) ++ r = sym (drop-drop 4 at s) ∙ ap (drop 4) e ∙ high_half x r in
    let b : half_at s (at + 4) ≡ n / 4294967296 % 4294967296 = half_back s (at + 4) (n / 4294967296) r d in
    ap (of_bits binary64) (halves n (half_at s at) (half_at s (at + 4)) (to_bits-lt binary64 x h) a b) ∙ of_bits-to_bits binary64 x h

-- ---- the points of a command's bytes
module _ (k : ℕ) (p q r : Point3D) where
  pub laid_end : HeldPoint p → point_from (laid k p q r) 1 ≡ p
  unfolding point_from laid flat f64_bytes u32_bytes
  laid_end h = rw (number-back (laid k p q r) 1 p.x _ refl h.0, number-back (laid k p q r) 9 p.y _ refl h.1, number-back (laid k p q r) 17 p.z _ refl h.2)

  pub laid-second : HeldPoint q → point_from (laid k p q r) 25 ≡ q
  unfolding point_from laid flat f64_bytes u32_bytes
  laid-second h = rw (number-back (laid k p q r) 25 q.x _ refl h.0, number-back (laid k p q r) 33 q.y _ refl h.1, number-back (laid k p q r) 41 q.z _ refl h.2)

  pub laid_third : HeldPoint r → point_from (laid k p q r) 49 ≡ r
  unfolding point_from laid flat f64_bytes u32_bytes
  laid_third h = rw (number-back (laid k p q r) 49 r.x _ refl h.0, number-back (laid k p q r) 57 r.y _ refl h.1, number-back (laid k p q r) 65 r.z _ refl h.2)

  laid-kind : get_or (laid k p q r) 0 0 ≡ k
  unfolding laid
  laid-kind = refl

  pub decoded-laid : HeldPoint p → HeldPoint q → HeldPoint r → decoded (laid k p q r) ≡ command_of k p q r
  unfolding decoded
  decoded-laid a b c = rw (laid-kind, laid_end a, laid-second b, laid_third c)

  pub formed-laid : HeldPoint q → HeldPoint r → well_formed (laid k p q r) ≡ formed k q r
  unfolding well_formed
  formed-laid b c = rw (laid-kind, laid-second b, laid_third c)

-- ---- a command
abbrev pub HeldCommand : Command → Type 0
HeldCommand (Move p) = HeldPoint p
HeldCommand (Line p) = HeldPoint p
HeldCommand (Arc p q r) = HeldPoint p × HeldPoint q × HeldPoint r
HeldCommand (Bezier p q r) = HeldPoint p × HeldPoint q × HeldPoint r

held-origin : HeldPoint origin
held-origin = let h = of_bits-fits binary64 0 in (h, h, h)

pub decoded-enc : (c : Command) → HeldCommand c → decoded (enc c) ≡ c
unfolding command_of
decoded-enc (Move p) h = ap decoded (enc-move p) ∙ decoded-laid 0 p origin origin h held-origin held-origin
decoded-enc (Line p) h = ap decoded (enc-line p) ∙ decoded-laid 1 p origin origin h held-origin held-origin
decoded-enc (Arc p q r) h = ap decoded (enc-arc p q r) ∙ decoded-laid 2 p q r h.0 h.1 h.2
decoded-enc (Bezier p q r) h = ap decoded (enc_bezier p q r) ∙ decoded-laid 3 p q r h.0 h.1 h.2
