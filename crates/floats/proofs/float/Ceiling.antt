-- The ceiling of the library is this one; and which whole numbers the format holds. Assumes nothing.
use Rattle.std.proofs.Common.{◌≡◌, ℕ, zero, suc, ◌+◌, ◌-◌, ◌*◌, ◌/◌, ◌^◌, ◌≤◌, ◌<◌, Bool, true, false, cond, T, ltb, pos, sym, refl, ap, arith, le→leb}
use lib.Ieee.{Float, nan, inf, fin, Format, binary64, up, down, neg, of_int, prec, odd, units, round, low, emax, in_float}
use lib.Ieee.Fits.{down_pos}
use Rattle.std.specs.Float.{ceil, round_with}
use Rattle.floats.specs.Float.{ceil_of}

pub whole-fits : (n : ℕ) → n ≤ 2 ^ 53 → T (in_float binary64 (pos n))
unfolding in_float
whole-fits n h = le→leb n (2 ^ 53) h

-- ---- a number below zero is rounded as its size is
neg_odd : (d q k l : ℕ) → neg (odd d false q k l) ≡ odd d true q k l
unfolding neg odd
neg_odd d zero k l = refl
neg_odd d (suc q) k l = refl

neg_units : (f : Format) (q k : ℕ) → neg (units f false q k) ≡ units f true q k
unfolding units
neg_units f q k = go (ltb (q * 2 ^ k) (2 ^ (low f + suc (emax f))))
  where
    go : (b : Bool) → neg (cond b (odd (suc (prec f)) false q k (low f)) (inf false)) ≡ cond b (odd (suc (prec f)) true q k (low f)) (inf true)
    go true = neg_odd (suc (prec f)) q k (low f)
    go false = unfold neg in refl

neg_round : (f : Format) (n d : ℕ) → neg (round f false n d) ≡ round f true n d
unfolding round
neg_round f n d = neg_units f _ _

-- a / d rounded up, however it is written
up_same : (a d : ℕ) → 0 < d → a + d - 1 ≡ a + (d - 1)
up_same a d p = omega arith

pub ceil-is : (x : Float) → ceil binary64 x ≡ ceil_of x
unfolding round_with ceil_of of_int
ceil-is nan = refl
ceil-is (inf s) = refl
ceil-is (fin false m e) = ap (λ (n : ℕ). round binary64 false (n / down e) 1) (up_same (m * up e) (down e) (down_pos e))
ceil-is (fin true m e) = sym (neg_round binary64 (m * up e / down e) 1)
