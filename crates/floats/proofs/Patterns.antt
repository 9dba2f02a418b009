-- Which floats and which patterns are no NaN. Assumes nothing.
use Rattle.std.proofs.Common.{◌≡◌, true, false, T, sym, refl, ap, ◌∙◌, subst}
use lib.Ieee.{Float, nan, inf, fin, ne, is_nan}
use lib.Ieee.Compare.{differs_from_itself, nan_differs}

-- what is below something is no NaN, and neither is what something is below
-- a pattern up to the infinity's is no NaN's
-- a NaN is what differs from itself
pub nan_of_ne : (x : Float) → ne x x ≡ true → is_nan x ≡ true
nan_of_ne x e = ap is_nan (differs_from_itself x (subst T (sym e) tt)) ∙ there
  where
    there : is_nan nan ≡ true
    there = unfold is_nan in refl

pub no_nan_of_ne : (x : Float) → ne x x ≡ false → is_nan x ≡ false
unfolding is_nan
no_nan_of_ne nan e = sym nan_differs ∙ e
no_nan_of_ne (inf s) e = refl
no_nan_of_ne (fin s m k) e = refl
