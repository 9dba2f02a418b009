-- `floats::root::is_root_below` meets its contract: what is above the square of t has a root that is not below t, the root of a zero is below t, and else the root is compared.
-- Assumes nothing.
use Rattle.std.proofs.Common.{T, sym, subst}
use lib.Ieee.{binary64, fits}
use Rattle.floats.proofs.root.Reaches.{root_reaches, zero_below}
use Rattle.floats.proofs.root.is_root_below.Goals as goal
use Rattle.floats.proofs.root.is_root_below.Goals.{Start}

-- what owning an `f64` tells: the format holds it
held_x : (c : Start) → T (fits binary64 c.args.x)
held_x c = subst T (sym c.well_formed.0.1) tt

held_t : (c : Start) → T (fits binary64 c.args.t)
held_t c = subst T (sym c.well_formed.1.0.1) tt

pub returns-then-x-t : goal.returns-then-x-t
returns-then-x-t c = let s = c in sym (root_reaches s.args.t s.args.x (held_t (goal.at.returns-then-x-t c).Start) c.if-t.true (held_x (goal.at.returns-then-x-t c).Start) c.if-x-t.true)

pub returns-then-x : goal.returns-then-x
returns-then-x c = let s = c in sym (zero_below s.args.t s.args.x c.if-t.true c.if-x.true)

pub returns : goal.returns
returns c = rw c.sqrt.ensures.value
