-- The walk along a traversal: at each point its offset, its half and the count so far. Assumes nothing.
use Prim.Native.Nat.{ℕ, ◌+◌, ◌-◌, ◌≤◌, ◌<◌}
use mathlib.Core.Path.{◌≡◌, refl}
use mathlib.Core.Logic.{⊎_elim}
use mathlib.Core.Bool.{Bool, true, false, not}
use native.Mathlib.Omega.{arith}
use lib.IntN.{ℤ, pos}
use lib.Signed.{mag}
use mir.Syntax.{w64}
use mir.Val.{SFits, to_z, of_z}
use mir.Facts.{to_z-of_z}
use lib.Ieee.{Float}
use Rattle.floats.specs.Ops.{◌≺◌, ◌≼◌, +0}
use Rattle.floats.proofs.Order.{either}
use Rattle.geo.specs.declared.types.Point.{Point}
use Rattle.geo.specs.declared.types.Point3D.{Point3D}
use Rattle.geo.specs.Walk.{fold}
use Rattle.geo.specs.Domain.{every_from}
use Rattle.geo.proofs.Walk.{fold_turn, fold_done}
use Rattle.geo.proofs.Every.{every_step, every_stop, every_done}
use Rattle.trial.proofs.Whole.{more, less}
use Rattle.trial.specs.Traversal.{offset_of, cross2, at_centre, half_of, turned, turns_of, passes_by, away_from, traverses}

-- a step changes W by at most one, so that after i steps it is within i of zero
turned_small : (h k : Bool) (c : Float) (w : ℤ) (i : ℕ) → mag w ≤ i → mag (turned h k c w) ≤ i + 1
unfolding turned
turned_small true true c w i a = omega arith
turned_small true false c w i a = ⊎_elim (λ e. rw e (less w i a)) (λ e. rw e (omega arith)) (either (c ≺ +0))
turned_small false true c w i a = ⊎_elim (λ e. rw e (more w i a)) (λ e. rw e (omega arith)) (either (+0 ≼ c))
turned_small false false c w i a = omega arith

abbrev pub turning : (ℕ → Point) → ℕ → ℕ → ℤ → ℤ
turning q lo i = turned (half_of (q lo) (q i)) (half_of (q lo) (q (i + 1))) (cross2 (q i) (q (i + 1)))

abbrev pub free : (ℕ → Point) → ℕ → Bool
free q j = not (at_centre (q j))

-- at point i: u is its offset, h its half, w the count W so far, and no point up to it is at the centre
pub record Going (q : ℕ → Point) (lo hi : ℕ) (u : Point) (h : Bool) (w : ℤ) (i : ℕ) : Type 0 where
  pub from : lo ≤ i
  pub to : i ≤ hi
  pub here : u ≡ q i
  pub side : h ≡ half_of (q lo) (q i)
  pub small : mag w ≤ i
  pub left : fold (turning q lo) (hi - i) i w ≡ turns_of q lo hi
  pub away : every_from (free q) (hi + 1 - (i + 1)) (i + 1) ≡ away_from q lo hi

pub go_start : (q : ℕ → Point) (lo hi : ℕ) (u : Point) (h b : Bool) → lo ≤ hi → u ≡ q lo → h ≡ half_of u u → b ≡ at_centre u → b ≡ false
    → Going q lo hi u h (pos 0) lo
unfolding turns_of away_from
go_start q lo hi u h b l eu eh eb f =
    record {
      from = omega arith;
      to = l;
      here = eu;
      side = rw (eh, eu);
      small = omega arith;
      left = refl;
      away = every_step (free q) (hi + 1) _ lo (not b) (omega arith) (rw (eb, eu)) (rw f) refl;
    }

pub go_turn : (q : ℕ → Point) (lo hi : ℕ) (u v q0 : Point) (h k b : Bool) (c : Float) (w w' : ℤ) (i : ℕ) → Going q lo hi u h w i → i < hi → q0 ≡ q lo
    → v ≡ q (i + 1) → k ≡ half_of q0 v → c ≡ cross2 u v → w' ≡ turned h k c w → b ≡ at_centre v → b ≡ false
    → Going q lo hi v k w' (i + 1)
go_turn q lo hi u v q0 h k b c w w' i g l e0 ev ek ec et eb f =
    let k' : k ≡ half_of (q lo) (q (i + 1)) = rw (ek, e0, ev) in
    let w'' : w' ≡ turning q lo i w = rw (et, g.side, k', ec, g.here, ev) in
    record {
      from = omega (arith, g.from);
      to = omega arith;
      here = ev;
      side = k';
      small = rw et (turned_small h k c w i g.small);
      left = fold_turn (turning q lo) hi i w w' _ l w'' g.left;
      away = every_step (free q) (hi + 1) _ (i + 1) (not b) (omega arith) (rw (eb, ev)) (rw f) g.away;
    }

-- W read back from the bits that the machine keeps is W
pub go_kept : (q : ℕ → Point) (lo hi : ℕ) (u : Point) (h : Bool) (w : ℤ) (i : ℕ) → hi < 2048 → Going q lo hi u h w i → Going q lo hi u h (to_z w64 (of_z w64 w)) i
go_kept q lo hi u h w i l g =
    let f : SFits w64 w = record { sfits = omega (arith, l, g.small, g.to) } in
    rw (to_z-of_z f) g

module _ (m : Point) (at : ℕ → Point3D) (lo hi : ℕ) where
  abbrev pub around : ℕ → Point
  around i = offset_of m (at i)

  pub go_first : (u : Point) (b : Bool) → lo ≤ hi → u ≡ around lo → b ≡ at_centre u → b ≡ true → false ≡ traverses m at lo hi
  unfolding traverses away_from
  go_first u b l eu eb f =
      let z : false ≡ away_from around lo hi = every_stop (free around) (hi + 1) _ lo (not b) (omega arith) (rw (eb, eu)) (rw f) refl in
      rw (← z)

  pub go_stop : (u v : Point) (h b : Bool) (w : ℤ) (i : ℕ) → Going around lo hi u h w i → i < hi → v ≡ around (i + 1) → b ≡ at_centre v → b ≡ true
      → false ≡ traverses m at lo hi
  unfolding traverses
  go_stop u v h b w i g l ev eb f =
      let z : false ≡ away_from around lo hi = every_stop (free around) (hi + 1) _ (i + 1) (not b) (omega arith) (rw (eb, ev)) (rw f) g.away in
      rw (← z)

  pub go_done : (u q0 : Point) (h r : Bool) (w : ℤ) (i : ℕ) → Going around lo hi u h w i → hi ≤ i → q0 ≡ around lo → r ≡ passes_by w q0 u
      → r ≡ traverses m at lo hi
  unfolding traverses
  go_done u q0 h r w i g l e0 er =
      let z : i ≡ hi = omega (arith, g.to) in
      let a : true ≡ away_from around lo hi = every_done (free around) (hi + 1) _ (i + 1) (omega arith) g.away in
      let w' : w ≡ turns_of around lo hi = fold_done (turning around lo) hi i w _ l g.left in
      rw (← a, er, w', e0, g.here, z)
