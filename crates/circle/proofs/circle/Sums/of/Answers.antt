-- `circle::circle::Sums::of` meets its contract: the loop's invariant is that the points left decide the whole sums. The measure is how many are left. Assumes nothing.
use mathlib.Core.Path.{◌≡◌, ◌∙◌}
use Prim.Native.Nat.{◌+◌}
use lib.Ieee.{Float}
use Rattle.floats.specs.Ops.{+0}
use Rattle.geo.proofs.Walk.{fold_turn, fold_done}
use Rattle.circle.specs.declared.circle.Sums.{Sums}
use Rattle.circle.specs.Kasa.{no_sums, sums_of}
use Rattle.circle.proofs.circle.Sums.of.Goals as goal

-- what the derived `default` gives
all_zero : (s : Sums) → (s.xx ≡ +0) × ((s.xy ≡ +0) × ((s.x ≡ +0) × ((s.yy ≡ +0) × ((s.y ≡ +0) × ((s.xb ≡ +0) × ((s.yb ≡ +0) × (s.b ≡ +0))))))) → s ≡ no_sums
all_zero s h = go s.xx s.xy s.x s.yy s.y s.xb s.yb s.b h.0 h.1.0 h.1.1.0 h.1.1.1.0 h.1.1.1.1.0 h.1.1.1.1.1.0 h.1.1.1.1.1.1.0 h.1.1.1.1.1.1.1
  where
    go : (xx xy x yy y xb yb b : Float) → xx ≡ +0 → xy ≡ +0 → x ≡ +0 → yy ≡ +0 → y ≡ +0 → xb ≡ +0 → yb ≡ +0 → b ≡ +0
        → ◌≡◌ {A = Sums} (record { xx = xx; xy = xy; x = x; yy = yy; y = y; xb = xb; yb = yb; b = b }) no_sums
    go xx xy x yy y xb yb b p q r s t u v w = rw (p, q, r, s, t, u, v, w)

pub loop-i-init : goal.loop-i-init
unfolding sums_of
loop-i-init c = rw (all_zero c.default-s.result c.default-s.ensures)

pub loop-i-preserved : goal.loop-i-preserved
loop-i-preserved c = let a = c.args in
    fold_turn _ (a.stretch.end + 1) _ _ _ _ c.loop-i-test.true (c.add-s.ensures ∙ rw c.at.ensures) c.loop-i.invariant

pub returns : goal.returns
returns c = let a = c.args in
    fold_done _ (a.stretch.end + 1) _ _ _ c.loop-i-test.false c.loop-i.invariant
