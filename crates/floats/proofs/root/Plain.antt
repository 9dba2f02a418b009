-- What a root is taken of: a square, and a sum of two such, that is finite is from +0 up, since rounding keeps the sign. Assumes nothing.
use Rattle.std.proofs.Common.{ℕ, zero, suc, ◌+◌, ◌*◌, ◌^◌, Bool, true, false, cond, T, ltb, sym, subst}
use lib.Ieee.{Float, nan, inf, fin, binary64, up, down, odd, units, round, sum, add, mul}
use lib.Ieee.Fits.{round_is}
use Rattle.floats.specs.Root.{plain}
use Rattle.floats.proofs.Bounds.{Within}

units-plain : (b q k : ℕ) → Within b (units binary64 false q k) → T (plain (units binary64 false q k))
unfolding units plain
units-plain b q k = go (ltb (q * 2 ^ k) (2 ^ 2098))
  where
    odd_plain : (q : ℕ) → T (plain (odd 54 false q k 1074))
    odd_plain zero = unfold odd in tt
    odd_plain (suc q) = unfold odd in tt

    go : (c : Bool) → Within b (cond c (odd 54 false q k 1074) (inf false)) → T (plain (cond c (odd 54 false q k 1074) (inf false)))
    go true h = odd_plain q
    go false h = absurd h

round_plain : (b n den : ℕ) → Within b (round binary64 false n den) → T (plain (round binary64 false n den))
round_plain b n den h =
    subst (λ (z : Float). T (plain z)) (sym (round_is binary64 false n den))
    (units-plain b _ _ (subst (λ (z : Float). Within b z) (round_is binary64 false n den) h))

pub square-plain : (b : ℕ) (x : Float) → Within b (mul binary64 x x) → T (plain (mul binary64 x x))
unfolding mul
square-plain b nan h = absurd h
square-plain b (inf true) h = absurd h
square-plain b (inf false) h = absurd h
square-plain b (fin true m e) h = round_plain b (m * up e * (m * up e)) (down e * down e) h
square-plain b (fin false m e) h = round_plain b (m * up e * (m * up e)) (down e * down e) h

pub add_plain : (b : ℕ) (x y : Float) → T (plain x) → T (plain y) → Within b (add binary64 x y) → T (plain (add binary64 x y))
unfolding add sum plain
add_plain b nan y p q h = absurd p
add_plain b (inf s) y p q h = absurd p
add_plain b (fin true m e) y p q h = absurd p
add_plain b (fin false m e) nan p q h = absurd q
add_plain b (fin false m e) (inf t) p q h = absurd q
add_plain b (fin false m e) (fin true n d) p q h = absurd q
add_plain b (fin false m e) (fin false n d) p q h = round_plain b (m * up e * down d + n * up d * down e) (down e * down d) h
