-- Floats that are no NaN, and those that are finite with no minus sign. Assumes nothing.
use Rattle.std.proofs.Common.{◌≡◌, ℕ, true, false, not, T, sym, ◌∙◌, subst}
use lib.Ieee.{Float, nan, inf, fin, is_nan, ne}
use lib.Ieee.Compare.{nan_differs}
use lib.Ieee.Exact.{HasValue}
use Rattle.floats.specs.Root.{plain}

pub no_nan : (x : Float) → ne x x ≡ false → T (not (is_nan x))
unfolding is_nan
no_nan nan e = subst T (sym nan_differs ∙ e) tt
no_nan (inf s) e = tt
no_nan (fin s m k) e = tt

pub plain_of_value : (x : Float) (n c : ℕ) → HasValue x false n c → T (plain x)
unfolding plain
plain_of_value nan n c h = absurd h
plain_of_value (inf s) n c h = absurd h
plain_of_value (fin true m e) n c h = absurd (subst T h.0 tt)
plain_of_value (fin false m e) n c h = tt
