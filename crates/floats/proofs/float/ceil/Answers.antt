-- `floats::float::ceil` meets its contract: the library's ceiling is `ceil_of`, and that is the least whole number not below x. Assumes nothing.
use Rattle.std.proofs.Common.{◌≡◌, T, sym, ◌∙◌, subst}
use lib.Ieee.{Float, binary64, fits}
use Rattle.floats.specs.Float.{ceil_of, LeastWhole}
use Rattle.floats.proofs.float.Ceiling.{ceil-is}
use Rattle.floats.proofs.float.Least.{ceil_is-least}
use Rattle.floats.proofs.float.ceil.Goals as goal
use Rattle.floats.proofs.float.ceil.Goals.{After-ceil}

-- what owning an `f64` tells: the format holds it
held : (c : After-ceil) → T (fits binary64 c.args.x)
held c = subst T (sym c.well_formed.0.1) tt

value : (c : After-ceil) → c.ceil.result ≡ ceil_of c.args.x
value c = c.ceil.ensures ∙ ceil-is c.args.x

pub returns-clause-value : goal.returns-clause-value
returns-clause-value c = value c

pub returns-clause-least : goal.returns-clause-least
returns-clause-least c h = subst (λ (y : Float). LeastWhole c.args.x y) (sym (value c)) (ceil_is-least c.args.x (held c) h)
