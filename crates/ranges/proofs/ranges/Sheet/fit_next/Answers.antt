-- `ranges::ranges::Sheet::fit_next` meets its contract: what is put or cut is the choice of the definition. Assumes nothing.
use Prim.Native.Nat.{ℕ, ◌<◌}
use mathlib.Core.Path.{◌≡◌, refl, ap, ◌∙◌}
use native.Mathlib.Omega.{arith}
use Rattle.geo.specs.declared.types.Point3D.{Point3D}
use Rattle.geo.specs.declared.types.Command.TheVariants.{Line}
use Rattle.geo.specs.Domain.{most_points}
use Rattle.geo.specs.Lent.{point_at}
use Rattle.pieces.specs.Pieces.{Shape, line}
use Rattle.pieces.specs.Commands.{shaped, worst_step}
use Rattle.pieces.proofs.Chosen.{worst_step_few, fails_inside, takes_line, takes_arc, takes_worst, takes_cut}
use Rattle.ranges.proofs.Waiting.{looked_whole, looked_cut}
use Rattle.ranges.proofs.ranges.Sheet.fit_next.Goals as goal

line-command : (a b p : Point3D) → p ≡ b → Line p ≡ shaped a b line
unfolding shaped
line-command a b p e = ap Line e

no_worst_step : (at : ℕ → Point3D) (lo hi : ℕ) → 0 ≡ worst_step at lo hi line
unfolding worst_step
no_worst_step at lo hi = refl

few-worst : (at : ℕ → Point3D) (lo hi : ℕ) → lo < hi → hi < most_points → (s : Shape) (k : ℕ) → k ≡ worst_step at lo hi s → k < most_points
few-worst at lo hi h l s k e = let f = worst_step_few at lo hi h s in omega arith

pub returns-then-d : goal.returns-then-d
returns-then-d c = let a = c.args in
    let w = a.w in
    let r = a.fit.now.rule.rule in
    let at = point_at a.fit.now.route.points.now in
    record {
      lent = c.put_piece.ensures.lent;
      looked = looked_whole r at w _ a.ends.now _ _ _ _ _ _ _ line _ _ 0
          (takes_line r at w.lo w.hi _ c.test_line-d.ensures c.if-d.true) (line-command _ _ _ c.last-b.ensures) c.note_of-n.ensures (no_worst_step at w.lo w.hi) refl c.put_piece.ensures.stands c.put_piece.ensures.wrote;
    }

pub try_rule-requires : goal.try_rule-requires
try_rule-requires c = let f = c.args.fit.now in
    let i = fails_inside f.rule.rule (point_at f.route.points.now) c.args.w.lo c.args.w.hi _ c.test_line-d.ensures f.rule.positive c.if-d.false in
    (omega (arith, f.few), i.0, i.1)

pub note_of-n-requires-in-Some : goal.note_of-n-requires-in-Some
note_of-n-requires-in-Some c = let w = c.args.w in
    let f = c.args.fit.now in
    let at = point_at f.route.points.now in
    let t = c.in-Some.t in
    let k = takes_worst f.rule.rule at w.lo w.hi _ c.test_line-d.ensures _ c.try_rule.ensures c.if-d.false t.center t.clockwise t.worst c.in-Some.is in
    (omega (arith, f.few), few-worst at w.lo w.hi c.requires.0 (omega (arith, f.few)) _ _ k)

pub returns-in-Some : goal.returns-in-Some
returns-in-Some c = let a = c.args in
    let w = a.w in
    let r = a.fit.now.rule.rule in
    let at = point_at a.fit.now.route.points.now in
    let t = c.in-Some.t in
    record {
      lent = c.put_piece-in-Some.ensures.lent;
      looked = looked_whole r at w _ a.ends.now _ _ _ _ _ _ _ _ _ _ _
          (takes_arc r at w.lo w.hi _ c.test_line-d.ensures _ c.try_rule.ensures c.if-d.false t.center t.clockwise t.worst c.in-Some.is)
          (c.arc_command-c.ensures ∙ rw (c.first.ensures, c.last-b.ensures)) c.note_of-n-in-Some.ensures
          (takes_worst r at w.lo w.hi _ c.test_line-d.ensures _ c.try_rule.ensures c.if-d.false t.center t.clockwise t.worst c.in-Some.is) refl
          c.put_piece-in-Some.ensures.stands c.put_piece-in-Some.ensures.wrote;
    }

pub returns-in-None : goal.returns-in-None
returns-in-None c = let a = c.args in
    let w = a.w in
    let r = a.fit.now.rule.rule in
    let at = point_at a.fit.now.route.points.now in
    record {
      lent = record { kinds = refl; nums = refl; notes = refl };
      looked = looked_cut r at w _ a.ends.now _ _ _ _ _ _ _ _
          (takes_cut r at w.lo w.hi _ c.test_line-d.ensures _ c.try_rule.ensures c.if-d.false c.in-None.is) c.cut.ensures.1 c.cut.ensures.0 refl refl refl;
    }
