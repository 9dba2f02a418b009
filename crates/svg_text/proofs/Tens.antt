-- The numbers of a text that is read have at most ten digits, and its first command is an M. Assumes nothing.
use Prim.Native.Nat.{ℕ, zero, suc, ◌+◌, ◌-◌, ◌*◌, ◌^◌, ◌≤◌, ◌<◌}
use mathlib.Core.Path.{◌≡◌, sym, ap, ◌∙◌, subst}
use mathlib.Core.Bool.{true, false}
use mathlib.Core.List.{List, [], ◌∷◌, map}
use native.Mathlib.Nat.{pow-succ', pow-le-pow_right, mul-le-mul_right, mul-lt-mul_of_pos_right, mul_assoc, le_trans, le_of_eq, lt_of_lt_of_le}
use native.Mathlib.Omega.{arith}
use lib.ListN.{length}
use lib.Dec.{lit<}
use lib.Pow.{pow-add}
use Rattle.geo.specs.Outcome.{gives}
use Rattle.svg_text.specs.Thousandths.{TenDigits}
use Rattle.svg_text.specs.Path.{Drawn, move, line, curve, named, negative}
use Rattle.svg_text.specs.Spelling.{Number, Figures, Fine, value, thousandths, with_sign, meant, Spelled, spelledM, spelledL, spelled_c, Proper, meaning, All, FirstM}
use Rattle.svg_text.proofs.Spelled.{sound}

abbrev pub Ten : Drawn → Type 0
Ten (move x y) = TenDigits x × TenDigits y
Ten (line x y) = TenDigits x × TenDigits y
Ten (curve a b c d x y) = TenDigits a × TenDigits b × TenDigits c × TenDigits d × TenDigits x × TenDigits y

abbrev pub Tens : List Drawn → Type 0
Tens [] = Unit
Tens (c ∷ cs) = Ten c × Tens cs

abbrev pub Opened : List Drawn → Type 0
Opened [] = Unit
Opened (move x y ∷ cs) = Unit
Opened (line x y ∷ cs) = ⊥
Opened (curve a b c d x y ∷ cs) = ⊥

-- n digits behind v stay below v + 1 with n noughts
pub grow : (v d p : ℕ) → d < 10 → (10 * v + d + 1) * p ≤ (v + 1) * (10 * p)
grow v d p h = let g : 10 * v + d + 1 ≤ (v + 1) * 10 = omega arith in le_trans (mul-le-mul_right p g) (le_of_eq (mul_assoc (v + 1) 10 p))

value-under : (ds : List ℕ) (v : ℕ) → Figures ds → value v ds < (v + 1) * 10 ^ length ds
unfolding value
value-under [] v f = omega arith
value-under (d ∷ ds) v f =
    rw (pow-succ' 10 (length ds)) (lt_of_lt_of_le (value-under ds (10 * v + d) f.1) (grow v d (10 ^ length ds) f.0))

pub ten_pos : (n : ℕ) → 0 < 10 ^ n
ten_pos n = pow-le-pow_right {n = 10} (lit< tt) {i = 0} {j = n} (omega arith)

small : (n : Number) → Fine n → thousandths n ≤ 9999999999
unfolding thousandths
small n f =
    let k = length n.decimals in
    let w = value 0 n.whole in
    let v = value w n.decimals in
    let m = f.most-behind in
    let a : w < (0 + 1) * 10 ^ length n.whole = value-under n.whole 0 f.figures in
    let b : 10 ^ length n.whole ≤ 10 ^ 7 = pow-le-pow_right {n = 10} (lit< tt) {i = length n.whole} {j = 7} f.most in
    let c : v < (w + 1) * 10 ^ k = value-under n.decimals w f.figures-behind in
    let e : 10 ^ k * 10 ^ (3 - k) ≡ 1000 = sym (pow-add 10 k (3 - k)) ∙ ap (λ (z : ℕ). 10 ^ z) (sum k m) in
    let g : v * 10 ^ (3 - k) < (w + 1) * 10 ^ k * 10 ^ (3 - k) = mul-lt-mul_of_pos_right c (ten_pos (3 - k)) in
    let h : (w + 1) * 10 ^ k * 10 ^ (3 - k) ≡ (w + 1) * 1000 = mul_assoc (w + 1) (10 ^ k) (10 ^ (3 - k)) ∙ ap (λ (z : ℕ). (w + 1) * z) e in
    last (v * 10 ^ (3 - k)) w (10 ^ length n.whole) (lt_of_lt_of_le g (le_of_eq h)) a b
  where
    sum : (k : ℕ) → k ≤ 3 → k + (3 - k) ≡ 3
    sum k h = omega arith

    last : (x w p : ℕ) → x < (w + 1) * 1000 → w < (0 + 1) * p → p ≤ 10000000 → x ≤ 9999999999
    last x w p a b c = omega arith

pub ten-negative : (v : ℕ) → v ≤ 9999999999 → TenDigits (negative v)
ten-negative zero h = h
ten-negative (suc v) h = h

ten : (n : Number) → Fine n → TenDigits (meant n)
unfolding meant
ten n f = go n.minus (thousandths n) (small n f)
  where
    go : (b : _) (v : ℕ) → v ≤ 9999999999 → TenDigits (with_sign b v)
    go true v h = ten-negative v h
    go false v h = h

ten-command : (s : Spelled) → Proper s → Ten (meaning s)
unfolding meaning
ten-command (spelledM x y) p = (ten x p.0, ten y p.1)
ten-command (spelledL x y) p = (ten x p.0, ten y p.1)
ten-command (spelled_c a b c d x y) p = (ten a p.0, ten b p.1, ten c p.2, ten d p.3, ten x p.4, ten y p.5)

tens_all : (ss : List Spelled) → All ss → Tens (map meaning ss)
tens_all [] p = tt
tens_all (s ∷ ss) p = (ten-command s p.0, tens_all ss p.1)

opened_first : (ss : List Spelled) → FirstM ss → Opened (map meaning ss)
unfolding meaning
opened_first [] f = tt
opened_first (spelledM x y ∷ ss) f = tt
opened_first (spelledL x y ∷ ss) f = f
opened_first (spelled_c a b c d x y ∷ ss) f = f

pub tens : (t : List ℕ) (cs : List Drawn) → named t ≡ gives cs → Tens cs
tens t cs e = let s = sound t cs e in subst Tens s.names (tens_all s.commands s.all)

pub opened : (t : List ℕ) (cs : List Drawn) → named t ≡ gives cs → Opened cs
opened t cs e = let s = sound t cs e in subst Opened s.names (opened_first s.commands s.first)
