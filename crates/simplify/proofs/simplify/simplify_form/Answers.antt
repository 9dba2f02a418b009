-- `simplify::simplify::simplify_form` meets its contract: a refusal is the table's, and what passed the checks meets what thinning asks. Assumes nothing.
use Rattle.std.proofs.Common.{rules}
use mathlib.Core.Path.{sym, ◌∙◌}
use lib.ListN.{length}
use Rattle.floats.proofs.Unsigned.{square_not_negative}
use Rattle.geo.specs.Lent.{flat}
use Rattle.geo.proofs.Wrote.{wrote-refused}
use Rattle.simplify.proofs.Accepted.{points-accepted, by_width, wrote-form}
use Rattle.simplify.proofs.simplify.simplify_form.Goals as goal

pub returns-in_err-refuse_points : goal.returns-in_err-refuse_points
returns-in_err-refuse_points g c = let a = c.args in
    wrote-refused _ _ (by_width _ _ _ (c.WIDTH.ensures ∙ sym g.met.P.Form.wide.is) a.points.now a.tolerance (length a.out.now) c.in_err-refuse_points.ensures) (flat g.P.Form.form.lay) _ _ _ (search rules)

pub invariant_of-track : goal.invariant_of-track
invariant_of-track g c = let a = c.args in
    record { room = (points-accepted _ a.points.now a.tolerance (length a.out.now) (by_width _ _ 0 c.WIDTH.ensures _ _ _ c.in_ok-refuse_points.ensures)).1 }

pub thin-requires : goal.thin-requires
thin-requires g c = let a = c.args in
    (square_not_negative a.tolerance, (points-accepted _ a.points.now a.tolerance (length a.out.now) (by_width _ _ 0 c.WIDTH.ensures _ _ _ c.in_ok-refuse_points.ensures)).0)

pub returns : goal.returns
returns g c = let a = c.args in
    let same = c.thin.ensures.items.1 in
    let items = c.thin.ensures.items.2 in
    wrote-form g.P.Form.form g.P.Form.WIDTH g.met.P.Form.wide a.points.now a.tolerance a.out.now _ _ (by_width _ _ 0 c.WIDTH.ensures _ _ _ c.in_ok-refuse_points.ensures)
    c.thin.ensures.count (search rules)
