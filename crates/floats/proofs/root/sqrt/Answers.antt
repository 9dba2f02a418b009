-- `floats::root::sqrt` meets its contract: a NaN is its own root, that of a number below zero is none, and else the operation is `root_of`, which is IEEE 754's root. Assumes nothing.
use Rattle.std.proofs.Common.{◌≡◌, true, T, refl, sym, ◌∙◌, subst}
use lib.Ieee.{Float, nan, binary64, fits, div, of_bits}
use Rattle.floats.specs.Ops.{+0}
use Rattle.floats.specs.Root.{root_of, Rounded}
use Rattle.floats.proofs.root.Nearest.{root_is_rounded}
use Rattle.floats.proofs.root.Operation.{sqrt-is}
use Rattle.floats.proofs.root.Outside.{nan_root, nan_not_plain, no_root, below_not_plain}
use Rattle.floats.proofs.root.sqrt.Goals as goal
use Rattle.floats.proofs.root.sqrt.Goals.{Then-is_nan, After-sqrt}

none : (c : Then-is_nan) → true ≡ lib.Ieee.is_nan c.args.x
none c = c.if-is_nan.ensures.value

pub returns-then-is_nan-clause-value : goal.returns-then-is_nan-clause-value
returns-then-is_nan-clause-value c = nan_root c.args.x (sym (none c))

pub returns-then-is_nan-clause-rounded : goal.returns-then-is_nan-clause-rounded
returns-then-is_nan-clause-rounded c p = absurd (nan_not_plain c.args.x (sym (none c)) p)

zero_by_zero : div binary64 +0 +0 ≡ nan
unfolding div of_bits
zero_by_zero = refl

pub returns-then-x-clause-value : goal.returns-then-x-clause-value
returns-then-x-clause-value c = zero_by_zero ∙ no_root c.args.x c.if-x.true

pub returns-then-x-clause-rounded : goal.returns-then-x-clause-rounded
returns-then-x-clause-rounded c p = absurd (below_not_plain c.args.x c.if-x.true p)

-- what owning an `f64` tells: the format holds it
held : (c : After-sqrt) → T (fits binary64 c.args.x)
held c = subst T (sym c.well_formed.0.1) tt

value : (c : After-sqrt) → c.sqrt.result ≡ root_of c.args.x
value c = c.sqrt.ensures.value ∙ sqrt-is c.args.x (held c)

pub returns-clause-value : goal.returns-clause-value
returns-clause-value c = value c

pub returns-clause-rounded : goal.returns-clause-rounded
returns-clause-rounded c p = subst (λ (y : Float). Rounded c.args.x y) (sym (value c)) (root_is_rounded c.args.x (held c) p)
