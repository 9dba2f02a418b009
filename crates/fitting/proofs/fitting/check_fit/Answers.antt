-- `fitting::fitting::check_fit` meets its contract: of a call that passed all rows before, an output that is too short is refused. Assumes nothing.
use native.Mathlib.Omega.{arith}
use mathlib.Core.Path.{sym, ◌∙◌}
use Rattle.fitting.proofs.Accepted.{kinds_short, numbers_short, places_short}
use Rattle.fitting.proofs.fitting.check_fit.Goals as goal
use Rattle.fitting.proofs.fitting.check_fit.Goals.{then-kinds-most-via-then-kinds-most, then-kinds-most-via-else-kinds-most+then-nums-most, then-kinds-most-via-else-kinds-most+else-nums-most+then-places-most}

pub returns-then-kinds-most : goal.returns-then-kinds-most
returns-then-kinds-most c = let a = c.args in
    let t = sym c.if-not-is_tolerance.ensures in
    let i = sym c.is_outside.ensures ∙ c.if-is_outside.false in
    elim c.then-kinds-most.branch [
      | then-kinds-most-via-then-kinds-most w ↦ kinds_short a.points.now a.tolerance a.start a.end a.kinds a.nums a.places c.if-nums-ne0.false c.in_ok-check_points.ensures t i (omega (arith, w.if-kinds-most.true))
      | then-kinds-most-via-else-kinds-most+then-nums-most w ↦ numbers_short a.points.now a.tolerance a.start a.end a.kinds a.nums a.places c.if-nums-ne0.false c.in_ok-check_points.ensures t i (omega (arith, w.if-kinds-most.false)) (omega (arith, w.if-nums-most.true))
      | then-kinds-most-via-else-kinds-most+else-nums-most+then-places-most w ↦ places_short a.points.now a.tolerance a.start a.end a.kinds a.nums a.places c.if-nums-ne0.false c.in_ok-check_points.ensures t i (omega (arith, w.if-kinds-most.false)) (omega (arith, w.if-nums-most.false)) (omega (arith, w.if-places-most.true))
    ]
