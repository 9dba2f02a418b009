-- Reading digits: the laws of the loop, and what stands behind the digits of a number. Assumes nothing.
use Prim.Native.Nat.{ℕ, zero, suc, ◌+◌, ◌-◌, ◌*◌, ◌^◌, ◌≤◌, ◌<◌}
use mathlib.Core.Path.{◌≡◌, refl, sym, ap, ◌∙◌, subst}
use mathlib.Core.Bool.{true, false}
use mathlib.Core.List.{List, [], ◌∷◌}
use native.Mathlib.Nat.{pow-succ', le_trans, mul-le-mul_left, le_of_eq, mul-one}
use native.Mathlib.Omega.{arith}
use denote.Bor.{Bor}
use lib.ListN.{length, get_or, take, drop, length-drop, drop_of_length-le}
use lib.Seq.{take_all, drop-cons}
use Rattle.svg_text.specs.Path.{is_digit, nought, Digits, digits}
use Rattle.svg_items.specs.declared.figures.Run.{Run}
use Rattle.svg_items.specs.Readings.{IsRun}
use Rattle.svg_text.proofs.Spelled.{digit_byte}
use Rattle.svg_text.proofs.Tens.{grow, ten_pos}

-- ---- digits, by what stands there
abbrev stopped : ℕ → ℕ → List ℕ → Digits
stopped v n t = record { value = v; room = n; rest = t }

digits_at_end : (v n : ℕ) (t : List ℕ) → t ≡ [] → digits v n t ≡ stopped v n t
unfolding digits
digits_at_end v zero t e = refl
digits_at_end v (suc n) t e = rw e

digits_full : (v n : ℕ) (t : List ℕ) → n ≡ 0 → digits v n t ≡ stopped v 0 t
unfolding digits
digits_full v zero t e = refl
digits_full v (suc n) t e = absurd (omega arith)

digits_other : (v n b : ℕ) (t : List ℕ) → is_digit b ≡ false → digits v n (b ∷ t) ≡ stopped v n (b ∷ t)
unfolding digits
digits_other v zero b t e = refl
digits_other v (suc n) b t e = rw e

digits-next : (v n b : ℕ) (t : List ℕ) → 0 < n → is_digit b ≡ true → digits v n (b ∷ t) ≡ digits (10 * v + (b - nought)) (n - 1) t
unfolding digits
digits-next v zero b t h e = absurd (omega arith)
digits-next v (suc n) b t h e = let g : suc n - 1 ≡ n = omega arith in rw (e, g)

-- the text from a place on
pub behind : (s : List ℕ) (i : ℕ) → take (length s - i) (drop i s) ≡ drop i s
behind s i = let l = length-drop i s in take_all (length s - i) (drop i s) (omega arith)

-- ---- the loop: the digits that are left from i on give all that the call reads
pub record Going (v most : ℕ) (s : List ℕ) (value i : ℕ) : Type 0 where
  pub is : digits value (most - i) (drop i s) ≡ digits v most s
  pub bound : (value + 1) * 10 ^ (most - i) ≤ (v + 1) * 10 ^ most
  pub inside : i ≤ length s

pub starts : (v most : ℕ) (s : List ℕ) → Going v most s v 0
starts v most s = let e : most - 0 ≡ most = omega arith in record { is = rw e; bound = rw e (omega arith); inside = omega arith }

-- a value that has room left is small
small : (value p b : ℕ) → 0 < p → (value + 1) * p ≤ b → value + 1 ≤ b
small value p b h g = le_trans (le_of_eq (sym (mul-one (value + 1)))) (le_trans (mul-le-mul_left (value + 1) h) g)

module _ {v most : ℕ} {s : List ℕ} {value i : ℕ} (g : Going v most s value i) where
  pub under : (v + 1) * 10 ^ most ≤ 10000000000 → value + 1 ≤ 10000000000
  under h = small value (10 ^ (most - i)) 10000000000 (ten_pos (most - i)) (le_trans g.bound h)

  -- the end of the text, another byte, or as many digits as there may be
  stops : (n : ℕ) → n ≡ most - i → (b : Bor (List ℕ)) → b.now ≡ drop i s → digits value n (drop i s) ≡ stopped value n (drop i s) → IsRun v most s (record { value = value; room = n; rest = b })
  stops n e b r d = record { is = sym g.is ∙ rw (sym e, r) d; bound = rw e g.bound; left = omega arith }

  pub stops-text : i ≡ length s → (b : Bor (List ℕ)) → b.now ≡ drop i s → IsRun v most s (record { value = value; room = most - i; rest = b })
  stops-text e b r = stops (most - i) refl b r (digits_at_end value (most - i) (drop i s) (drop_of_length-le s (le_of_eq (sym e))))

  pub stops_other : i < length s → is_digit (get_or s i 0) ≡ false → (b : Bor (List ℕ)) → b.now ≡ drop i s → IsRun v most s (record { value = value; room = most - i; rest = b })
  stops_other h e b r =
      let d = drop-cons s i 0 h in
      stops (most - i) refl b r (rw d (digits_other value (most - i) (get_or s i 0) (drop (suc i) s) e))

  pub stops_full : i ≡ most → (b : Bor (List ℕ)) → b.now ≡ drop most s → IsRun v most s (record { value = value; room = 0; rest = b })
  stops_full e b r = stops 0 (omega arith) b (r ∙ ap (λ (k : ℕ). drop k s) (sym e)) (digits_full value 0 (drop i s) refl)

  pub goes-on : i < most → i < length s → is_digit (get_or s i 0) ≡ true → Going v most s (10 * value + (get_or s i 0 - nought)) (i + 1)
  goes-on p l e =
      let b = get_or s i 0 in
      let d = digit_byte b e in
      let n : most - i ≡ suc (most - (i + 1)) = omega arith in
      let m : most - i - 1 ≡ most - (i + 1) = omega arith in
      let k : i + 1 ≡ suc i = omega arith in
      let q : 10 ^ (most - i) ≡ 10 * 10 ^ (most - (i + 1)) = ap (λ (k : ℕ). 10 ^ k) n ∙ pow-succ' 10 (most - (i + 1)) in
      record {
        is = rw k (sym (ap (digits value (most - i)) (drop-cons s i 0 l) ∙ digits-next value (most - i) b (drop (suc i) s) (omega arith) e ∙ rw m (rw k)) ∙ g.is);
        bound = le_trans (grow value (b - nought) (10 ^ (most - (i + 1))) d.0) (subst (λ (k : ℕ). (value + 1) * k ≤ (v + 1) * 10 ^ most) q g.bound);
        inside = omega arith;
      }

-- the digits before a point are as few as the decimals' reader asks
pub few_units : (t : List ℕ) (r : Run) → IsRun 0 7 t r → r.value + 1 ≤ 10000000
few_units t r k = small r.value (10 ^ r.room) 10000000 (ten_pos r.room) k.bound
