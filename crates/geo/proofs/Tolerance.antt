-- A tolerance of the domain is above zero. Assumes nothing.
use mathlib.Core.Path.{◌≡◌, refl, sym, ◌∙◌}
use mathlib.Core.Logic.{⊎_elim}
use mathlib.Core.Bool.{true}
use lib.Ieee.{Float, lt, le, of_bits}
use Rattle.floats.specs.Ops.{◌≺◌, +0}
use Rattle.floats.proofs.Order.{clash, lt_gap, and_left, le_below, le_right}
use Rattle.floats.specs.Limits.{thousandth}
use Rattle.geo.specs.Domain.{within, tolerance}

above : (+0 ≺ thousandth) ≡ true
unfolding lt of_bits
above = refl

pub tolerance-positive : (t : Float) → tolerance t ≡ true → (+0 ≺ t) ≡ true
unfolding within
tolerance-positive t h =
    let l = and_left (le thousandth t) _ h in
    ⊎_elim (λ p. p) (λ p. clash (sym (le_below thousandth t l) ∙ p)) (lt_gap +0 t thousandth (le_right thousandth t l) above)
